-- `pass::none` meets its contract: what is joined so far is zero where all of the list so far is.
use mathlib.Core.Path.{◌≡◌}
use lib.ListN.{take}
use Rattle.std.specs.List.{list_all}
use Rattle.session.proofs.pass.none.Given as goal

abbrev pub invariant-loop-entry : goal.invariant-loop-entry
invariant-loop-entry g l = g.T.Entry.is_zero l.any ≡ list_all g.T.Entry.is_zero (take l.entry-index l.list)
