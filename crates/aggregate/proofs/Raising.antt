-- Raising, node by node from the last one down, with a cursor on the way from x to the root.
use mathlib.Core.Path.{◌≡◌, refl, ap, ap₂, ◌∙◌}
use mathlib.Core.Bool.{Bool, true, false, not, cond, ◌&&◌, and-false}
use mathlib.Core.Logic.{◌≢◌}
use mathlib.Core.List.{List, [], ◌∷◌}
use Prim.Native.Nat.{ℕ, suc, ◌+◌, ◌<◌, ◌≤◌}
use native.Mathlib.Nat.{zero-add, add-zero}
use native.Mathlib.Omega.{arith}
use lib.Dec.{leb, ltb}
use lib.ListN.{get_or, set, length, length-set}
use lib.Seq.{get_or-set_same, get_or-set_other}
use borrow.Author.Tests.{lt-ltb, le-ltb, le-leb, lt-leb}
use Rattle.tree.specs.Parents.{parent}
use Rattle.tree.specs.Sides.{below, points_to}
use Rattle.tree.proofs.Cases.{order, lt_or_le}
use Rattle.mechanism.specs.Applying.{each, up_raised, down_raised, renumbered, raised}
use Rattle.session.specs.declared.Session.{Session}
use Rattle.mechanism.specs.Requests.{links_of}
use Rattle.aggregate.specs.inner.Afters.{Climbing, paired}
use Rattle.walk.proofs.Ways.{Ahead, ahead_none, on_way, off_way, ahead_on, ahead_off}

-- ---- one list of numbers

-- a list that has at each place what g makes of l's entry
each_is : (g : ℕ → ℕ → ℕ) (k : ℕ) (xs l : List ℕ) → length xs ≡ length l → ((i : ℕ) → get_or xs i 0 ≡ g (k + i) (get_or l i 0)) → xs ≡ each g k l
unfolding each
each_is g k [] [] e h = refl
each_is g k [] (a ∷ l) e h = absurd (omega arith)
each_is g k (x ∷ xs) [] e h = absurd (omega arith)
each_is g k (x ∷ xs) (a ∷ l) e h =
    ap₂ (λ (y : ℕ) (ys : List ℕ). y ∷ ys) (rw (add-zero k) at (h 0)) (each_is g (suc k) xs l (omega arith) (λ i. h (suc i) ∙ ap (λ j. g j (get_or l i 0)) (omega arith)))

-- the entries from k on, and before n, are b where `points` says so
pub record Raised (points : ℕ → Bool) (n b : ℕ) (l : List ℕ) (k : ℕ) (xs : List ℕ) : Type 0 where
  pub long : length xs ≡ length l
  pub entry : (i : ℕ) → get_or xs i 0 ≡ cond ((leb k i && ltb i n) && points i) b (get_or l i 0)

module _ (points : ℕ → Bool) (n b : ℕ) (l : List ℕ) where
  raised_none : Raised points n b l n l
  raised_none = record { long = refl; entry = λ i. lt_or_le i n (λ h. rw (lt-leb n i h)) (λ h. rw (le-ltb i n h, and-false (leb n i))) }

  module _ (k : ℕ) (xs : List ℕ) (r : Raised points n b l (suc k) xs) where
    -- the others are as they were
    others : (i : ℕ) → i ≢ k → get_or xs i 0 ≡ cond ((leb k i && ltb i n) && points i) b (get_or l i 0)
    others i d =
        lt_or_le i k
        (λ h. r.entry i ∙ rw (lt-leb (suc k) i (omega arith), lt-leb k i h))
        (λ h. r.entry i ∙ rw (le-leb (suc k) i (omega arith), le-leb k i h))

    raised_one : points k ≡ true → k < n → k < length l → Raised points n b l k (set xs k b)
    raised_one p m h =
        record {
          long = length-set xs k b ∙ r.long;
          entry = λ i. order i k
              (λ o. get_or-set_other xs k i b 0 (λ e. omega arith) ∙ others i (λ e. omega arith))
              (λ e. rw (e, get_or-set_same xs k b 0 (omega (arith, r.long)), le-leb k k (omega arith), lt-ltb k n m, p))
              (λ o. get_or-set_other xs k i b 0 (λ e. omega arith) ∙ others i (λ e. omega arith));
        }

    raised_not : points k ≡ false → Raised points n b l k xs
    raised_not p =
        record {
          long = r.long;
          entry = λ i. order i k
              (λ o. others i (λ e. omega arith))
              (λ e. rw e (r.entry k ∙ rw (lt-leb (suc k) k (omega arith), p, and-false (leb k k && ltb k n))))
              (λ o. others i (λ e. omega arith));
        }

-- ---- the loop

-- what the loop has done of the nodes from i on; the next node on the way from x is at
pub record Climbed (ps : List ℕ) (n x : ℕ) (up₀ down₀ up down : List ℕ) (at i : ℕ) : Type 0 where
  pub some : 0 < i
  pub few : i ≤ n
  pub ahead : Ahead ps x at i
  pub high : Raised (λ j. not (below ps j x)) n 2 up₀ i up
  pub low : Raised (λ j. below ps j x) n 2 down₀ i down

module _ {ps : List ℕ} {n x : ℕ} {up₀ down₀ : List ℕ} (o : Climbing ps n x up₀ down₀) where
  pub climbed_none : Climbed ps n x up₀ down₀ up₀ down₀ x n
  climbed_none = record { some = omega (arith, o.inside); few = omega arith; ahead = ahead_none o.inside; high = raised_none _ n 2 up₀; low = raised_none _ n 2 down₀ }

  module _ {up down : List ℕ} {at k i : ℕ} (before : Climbed ps n x up₀ down₀ up down at k) (next : k ≡ suc i) (some : 0 < i) where
    c : Climbed ps n x up₀ down₀ up down at (suc i)
    c = rw next at before

    -- x is below the node that the way is at
    pub climbed_on : i ≡ at → Climbed ps n x up₀ down₀ up (set down i 2) (parent ps i) i
    climbed_on e =
        let inside : i < n = omega (arith, c.few) in
        let b = on_way o.grown inside c.ahead e in
        record {
          some = some;
          few = omega (arith, c.few);
          ahead = ahead_on o.grown inside c.ahead some e;
          high = raised_not _ n 2 up₀ i up c.high (ap not b);
          low = raised_one _ n 2 down₀ i down c.low b (omega (arith, c.few)) (omega (arith, c.few, o.room, o.down_long));
        }

    -- and below no other
    pub climbed_off : i ≢ at → Climbed ps n x up₀ down₀ (set up i 2) down at i
    climbed_off d =
        let inside : i < n = omega (arith, c.few) in
        let b = off_way o.grown inside c.ahead d in
        record {
          some = some;
          few = omega (arith, c.few);
          ahead = ahead_off o.grown inside c.ahead d;
          high = raised_one _ n 2 up₀ i up c.high (ap not b) (omega (arith, c.few)) (omega (arith, c.few, o.room, o.up_long));
          low = raised_not _ n 2 down₀ i down c.low b;
        }

  -- the tests of an entry, as sides
  up_points : (i b a : ℕ) → cond ((ltb 0 i && ltb i n) && not (below ps i x)) b a ≡ cond ((ltb 0 i && ltb i n) && points_to ps i (parent ps i) x) b a
  up_points i b a = lt_or_le i n
      (λ h. lt_or_le 0 i (λ z. rw (le-ltb i (parent ps i) (omega (arith, o.grown i z h)))) (λ z. rw (le-ltb 0 i z)))
      (λ h. rw (le-ltb i n h, and-false (ltb 0 i)))

  down_points : (i b a : ℕ) → cond ((ltb 0 i && ltb i n) && below ps i x) b a ≡ cond ((ltb 0 i && ltb i n) && points_to ps (parent ps i) i x) b a
  down_points i b a = lt_or_le i n
      (λ h. lt_or_le 0 i (λ z. rw (lt-ltb (parent ps i) i (o.grown i z h))) (λ z. rw (le-ltb 0 i z)))
      (λ h. rw (le-ltb i n h, and-false (ltb 0 i)))

  pub climbed_all : {up down : List ℕ} {at i : ℕ} → Climbed ps n x up₀ down₀ up down at i → i ≤ 1 → (up ≡ up_raised ps n 2 x up₀) × (down ≡ down_raised ps n 2 x down₀)
  unfolding up_raised down_raised
  climbed_all {up} {down} {at} {i} c h =
      let e : i ≡ 1 = omega (arith, c.some) in
      let high = rw e at c.high in
      let low = rw e at c.low in (
        each_is _ 0 up up₀ high.long (λ j. rw (zero-add j) (high.entry j ∙ up_points j 2 (get_or up₀ j 0))),
        each_is _ 0 down down₀ low.long (λ j. rw (zero-add j) (low.entry j ∙ down_points j 2 (get_or down₀ j 0))),
      )

-- ---- in a session

-- the session with these lease numbers
abbrev numbered : Session → List ℕ → List ℕ → Session
numbered s up down = record { tree = s.tree; values = s.values; up = renumbered up s.up; down = renumbered down s.down; accepted = s.accepted }

-- a session whose numbers are raised is the one with raised pairs
pub raised_in : (s : Session) (x : ℕ) {up down : List ℕ} → up ≡ up_raised s.tree.parents s.tree.count 2 x s.up.lease → down ≡ down_raised s.tree.parents s.tree.count 2 x s.down.lease
    → numbered s up down ≡ paired s (raised s.tree.parents s.tree.count 2 x (links_of s))
unfolding raised
raised_in s x e f = ap₂ (numbered s) e f
