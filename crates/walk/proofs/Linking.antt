-- One pass over the parents, from the last node down, makes the links.
use mathlib.Core.Path.{◌≡◌, refl, sym}
use mathlib.Core.Logic.{◌≢◌}
use mathlib.Core.Bool.{true}
use mathlib.Core.List.{List}
use Prim.Native.Nat.{ℕ, ◌+◌, ◌<◌, ◌≤◌}
use native.Mathlib.Nat.{le_refl}
use native.Mathlib.Decide.{ℕ_discrete}
use native.Mathlib.Omega.{arith}
use lib.ListN.{get_or, set, length, length-set, replicate, length-replicate, get_or-replicate}
use lib.Seq.{get_or-set_same, get_or-set_other}
use borrow.Author.Tests.{eq-eqb}
use Rattle.tree.specs.Parents.{parent, Grown, child}
use Rattle.tree.proofs.Cases.{either}
use Rattle.tree.proofs.Children.{child_is, child_low, child_other}
use Rattle.walk.specs.inner.Links.{Found, Linked}
use Rattle.walk.proofs.Finding.{found_none, found_here, found_from, found_later}

-- the nodes from i on are linked
pub record Linking (n : ℕ) (ps first next : List ℕ) (i : ℕ) : Type 0 where
  pub low : 0 < i
  pub high : i ≤ n
  pub first_room : length first ≡ 256
  pub next_room : length next ≡ 256
  pub firsts : (u : ℕ) → u < 256 → Found n (child ps u) i (get_or first u 0)
  pub nexts : (w : ℕ) → i ≤ w → w < n → Found n (child ps (parent ps w)) (w + 1) (get_or next w 0)

module _ {n : ℕ} {ps : List ℕ} where
  pub linking_none : 0 < n → Linking n ps (replicate 256 n) (replicate 256 n) n
  linking_none h =
      record {
        low = h;
        high = le_refl n;
        first_room = length-replicate 256 n;
        next_room = length-replicate 256 n;
        firsts = λ u l. rw (get_or-replicate 256 u n 0 l) found_none;
        nexts = λ w a b. absurd (omega arith);
      }

  -- the turn of w, with parent p
  module _ {first next : List ℕ} {i w p : ℕ} (small : n ≤ 256) (grown : Grown ps n) (e : i ≡ w + 1) (ep : p ≡ parent ps w) where
    pub linking_next : 0 < w → Linking n ps first next i → Linking n ps (set first p w) (set next w (get_or first p 0)) w
    linking_next some l =
        let less : parent ps w < w = grown w some (omega (arith, l.high)) in
        record {
          low = some;
          high = omega (arith, l.high);
          first_room = rw length-set l.first_room;
          next_room = rw length-set l.next_room;
          firsts =
              λ u h.
              either (ℕ_discrete u p)
              (λ a. rw (a, get_or-set_same first p w 0 (omega (arith, l.high, l.first_room))) (found_here (omega (arith, l.high)) (here less)))
              (λ d. others u h d);
          nexts =
              λ x a b.
              either (ℕ_discrete x w)
              (λ c. rw (c, get_or-set_same next w (get_or first p 0) 0 (omega (arith, l.high, l.next_room)), ← ep, ← e) (l.firsts p (omega (arith, l.high))))
              (λ d. rw (get_or-set_other next w x (get_or first p 0) 0 d) (l.nexts x (omega arith) b));
        }
      where
        here : parent ps w < w → child ps p w ≡ true
        here less = rw (child_is ps p w (omega arith), eq-eqb (parent ps w) p (sym ep))

        others : (u : ℕ) → u < 256 → u ≢ p → Found n (child ps u) w (get_or (set first p w) u 0)
        others u h d =
            rw (get_or-set_other first p u w 0 d)
            (found_from {m = i} (omega arith) (λ j a b. rw (let same : j ≡ w = omega arith in same) (child_other ps u w (λ q. d (omega arith)))) (λ j a. refl) (l.firsts u h))

  pub linked_all : {first next : List ℕ} {i : ℕ} → n ≤ 256 → Grown ps n → i ≤ 1 → Linking n ps first next i → Linked n ps first next
  linked_all small grown le l =
      record {
        grown = grown;
        firsts = λ u h. found_later (omega arith) (λ j a. child_low ps u j (omega arith)) (omega arith) (l.firsts u (omega arith));
        nexts = λ w a b. l.nexts w (omega arith) b;
      }
