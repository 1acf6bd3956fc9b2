-- Which nodes are children of a node, and which are not.
use mathlib.Core.Path.{◌≡◌, sym}
use mathlib.Core.Bool.{false, and-false}
use mathlib.Core.List.{List}
use mathlib.Core.Logic.{◌≢◌}
use Prim.Native.Nat.{ℕ, ◌<◌, ◌≤◌}
use lib.Dec.{eqb}
use borrow.Author.Tests.{lt-ltb, le-ltb, ne_eqb}
use Rattle.tree.specs.Parents.{parent, child}

module _ (ps : List ℕ) (u w : ℕ) where
  pub child_is : u < w → child ps u w ≡ eqb (parent ps w) u
  child_is h = rw (lt-ltb u w h)

  pub child_low : w ≤ u → child ps u w ≡ false
  child_low h = rw (le-ltb u w h)

  pub child_other : u ≢ parent ps w → child ps u w ≡ false
  child_other d = rw (ne_eqb (parent ps w) u (λ e. d (sym e)), and-false)
