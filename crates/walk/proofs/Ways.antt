-- The next node on the way from x to the root, when nodes are taken from the last one down: x is below it, and below no other from it on.
use mathlib.Core.Path.{◌≡◌, refl, sym, ap, ◌∙◌}
use mathlib.Core.Bool.{true, false}
use mathlib.Core.List.{List}
use mathlib.Core.Logic.{◌≢◌}
use Prim.Native.Nat.{ℕ, suc, ◌<◌}
use native.Mathlib.Omega.{arith}
use borrow.Author.Tests.{ne_eqb}
use Rattle.tree.specs.Parents.{parent, Grown}
use Rattle.tree.specs.Sides.{below}
use Rattle.tree.proofs.Below.{below_self, below_step, below_lt}

-- of the nodes before i, x is below those that `at` is below
pub record Ahead (ps : List ℕ) (x at i : ℕ) : Type 0 where
  pub short : at < i
  pub same : (j : ℕ) → j < i → below ps j x ≡ below ps j at

pub ahead_none : {ps : List ℕ} {x n : ℕ} → x < n → Ahead ps x x n
ahead_none h = record { short = h; same = λ j l. refl }

-- the turn of w
module _ {ps : List ℕ} {n x at w : ℕ} (grown : Grown ps n) (inside : w < n) (a : Ahead ps x at (suc w)) where
  pub on_way : w ≡ at → below ps w x ≡ true
  on_way e = a.same w (omega arith) ∙ ap (below ps w) (sym e) ∙ below_self ps w

  pub off_way : w ≢ at → below ps w x ≡ false
  off_way d = a.same w (omega arith) ∙ below_lt ps n grown w at (omega (arith, a.short)) (omega (arith, a.short, d))

  pub ahead_on : 0 < w → w ≡ at → Ahead ps x (parent ps w) w
  ahead_on some e =
      record {
        short = grown w some inside;
        same = λ j l. a.same j (omega arith) ∙ ap (below ps j) (sym e) ∙ below_step ps n grown j w some inside ∙ rw (ne_eqb w j (omega arith));
      }

  pub ahead_off : w ≢ at → Ahead ps x at w
  ahead_off d = record { short = omega (arith, a.short, d); same = λ j l. a.same j (omega arith) }
