-- What was last written at a node is what was written last.
use mathlib.Core.Path.{◌≡◌, refl, ap, ◌∙◌}
use mathlib.Core.Bool.{Bool, cond}
use mathlib.Core.List.{List, [], ◌∷◌, ◌++◌}
use Prim.Native.Nat.{ℕ}
use lib.IntN.{ℤ}
use borrow.Author.Tests.{eq-eqb, ne_eqb}
use Rattle.requests.specs.declared.Request.{Request}
use Rattle.requests.specs.declared.Request.TheVariants.{Combine, Write}
use Rattle.history.specs.History.{held_after, last_written, NoWrite}
use Rattle.history.specs.Promises.{LastIsLast}

none_written : (u : ℕ) (z : ℤ) (l : List Request) → NoWrite u l → last_written u z l ≡ z
unfolding last_written
none_written u z [] h = refl
none_written u z (Combine x ∷ l) h = none_written u z l h
none_written u z (Write x y ∷ l) (d, h) = rw (ne_eqb x u d) (none_written u z l h)

overwritten : (u : ℕ) (z y : ℤ) (earlier later : List Request) → NoWrite u later → last_written u z (earlier ++ (Write u y ∷ later)) ≡ y
unfolding last_written
overwritten u z y [] later h = ap (λ (b : Bool). last_written u (cond b y z) later) (eq-eqb u u refl) ∙ none_written u y later h
overwritten u z y (r ∷ earlier) later h = overwritten u (held_after u z r) y earlier later h

pub last_is_last : LastIsLast
last_is_last u z y earlier later h = (overwritten u z y earlier later h, none_written u z later h)
