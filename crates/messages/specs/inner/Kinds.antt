-- A message's kind and its number.
use Rattle.std.specs.Prelude.{ℕ, cond, eqb}
use Rattle.messages.specs.declared.kind.Kind.{Kind}
use Rattle.messages.specs.declared.kind.Kind.TheVariants.{Probe, Response, Update, Release}

abbrev pub number : Kind → ℕ
number Probe = 0
number Response = 1
number Update = 2
number Release = 3

-- the kind of a number
unfoldable pub kind_at : ℕ → Kind
kind_at n = cond (eqb n 0) Probe (cond (eqb n 1) Response (cond (eqb n 2) Update Release))
