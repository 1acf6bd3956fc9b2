-- `Later::lay` meets its contract: the nodes from i on are passed.
use mathlib.Core.Path.{◌≡◌, refl, ap, ◌∙◌}
use Prim.Native.Nat.{◌-◌, ◌<◌}
use native.Mathlib.Omega.{arith}
use lib.IntN.{pos}
use lib.ListN.{get_or}
use borrow.Author.Rules.{rules}
use borrow.Author.Tests.{lt-ltb}
use mir.Facts.{to_z-of_z}
use mir.Syntax.{w64}
use Rattle.session.specs.Holding.{pair_at}
use Rattle.mechanism.specs.Views.{view}
use Rattle.messages.proofs.Parts.{handed_on}
use Rattle.walk.specs.inner.Laters.{known_by, known}
use Rattle.walk.proofs.Passes.{Turning, passes_none, parent_less, due_fits, passes_on, passes_off, passed_all}
use Rattle.aggregate.proofs.later.Later.lay.Goals as goal
use Rattle.aggregate.proofs.later.Later.lay.Goals.{After-known, After-from-p}

-- what is known in the turn of a node, whose parent is known
turning : (c : After-from-p) → Turning (view c.args.session.now) c.args.x c.loop-i.self.up c.loop-i.self.down c.loop-i.at c.loop-i.i (c.loop-i.i - 1) c.from-p.result
turning c = record { passing = c.requires; before = c.loop-i.invariant; next = omega arith; some = omega arith; is = c.from-p.ensures }

-- what the parent knows of the node stands at the node
knows : (c : After-known) → c.from-p.result < c.loop-i.i - 1 → c.known.result ≡ known (view c.args.session.now) (c.loop-i.i - 1) c.from-p.result
unfolding pair_at
knows c l = rw (lt-ltb _ _ l) (c.known.ensures ∙ ap (known_by _) (handed_on _ (assumption c)))

pub loop-i-init : goal.loop-i-init
loop-i-init c = rw c.from-count.ensures (passes_none _ c.requires (search rules) (search rules) (rw c.from-count.ensures at (c.fill.ensures.after (λ y e. e))))

pub loop-i-preserved-then-i-at : goal.loop-i-preserved-then-i-at
loop-i-preserved-then-i-at c =
    rw (handed_on (get_or c.loop-i.self.up c.from-p.result (pos 0)) (assumption c))
    (passes_on (turning (goal.at.loop-i-preserved-then-i-at c).After-from-p) c.if-i-at.true)

pub overflow_add-self : goal.overflow_add-self
overflow_add-self c =
    let t = turning (goal.at.overflow_add-self c).After-from-p in
    rw (handed_on (get_or c.loop-i.self.up c.from-p.result (pos 0)) (assumption c), handed_on c.known.result c.known.type_inv)
    (due_fits t c.if-i-at.false (knows (goal.at.overflow_add-self c).After-known (parent_less t)))

pub loop-i-preserved : goal.loop-i-preserved
loop-i-preserved c =
    let t = turning (goal.at.loop-i-preserved c).After-from-p in
    let k = knows (goal.at.loop-i-preserved c).After-known (parent_less t) in
    rw (handed_on (get_or c.loop-i.self.up c.from-p.result (pos 0)) (assumption c), handed_on c.known.result c.known.type_inv, to_z-of_z {w = w64} (due_fits t c.if-i-at.false k))
    (passes_off t c.if-i-at.false k refl)

pub returns : goal.returns
returns c = passed_all c.loop-i.invariant c.loop-i-test.false
