-- A list that is zero all over: in the pass that joins it, and by its places.
use mathlib.Core.Path.{◌≡◌, refl, sym, ap, ap₂, ◌∙◌}
use mathlib.Core.Bool.{Bool, true, false, ◌&&◌, true≢false, and-true}
use mathlib.Core.List.{List, [], ◌∷◌}
use Prim.Native.Nat.{ℕ, suc, ◌+◌, ◌-◌, ◌≤◌, ◌<◌}
use native.Mathlib.Omega.{arith}
use lib.ListN.{length, get_or, take, drop}
use Rattle.std.specs.List.{list_all}
use Rattle.std.proofs.lemmas.List.{length-drop, take_all, get_or-drop}
use Rattle.std.proofs.lemmas.List.Folds.{list_all_more, list_all_at}
use Rattle.tree.specs.inner.Places.{from}
use Rattle.tree.specs.Every.{every}
use Rattle.tree.proofs.Every.{same_test, from_at, from_of_lem}

-- ---- a turn of the pass

module _ {X : Type 0} (test : X → Bool) (xs : List X) where
  pub joined_more : (i : ℕ) (a b x : X) → i < length xs → test a ≡ list_all test (take i xs) → x ≡ get_or xs i x → test b ≡ (test a && test x) → test b ≡ list_all test (take (i + 1) xs)
  joined_more i a b x h e q f = f ∙ ap₂ ◌&&◌ e (ap test q) ∙ sym (list_all_more test xs i x h)

-- ---- by its places

module _ {X : Type 0} (test : X → Bool) (d : X) where
  at : (xs : List X) (i : ℕ) → list_all test xs ≡ true → i < length xs → test (get_or xs i d) ≡ true
  at xs i e h = go (test (get_or xs i d)) refl
    where
      go : (b : Bool) → test (get_or xs i d) ≡ b → test (get_or xs i d) ≡ true
      go true p = p
      go false p = absurd (true≢false (sym e ∙ list_all_at test xs i d h p))

  of : (xs : List X) → ((i : ℕ) → i < length xs → test (get_or xs i d) ≡ true) → list_all test xs ≡ true
  of [] f = refl
  of (x ∷ xs) f = ap₂ ◌&&◌ (f 0 (omega arith)) (of xs (λ i l. f (suc i) (omega arith)))

  -- the first place, and those from n on, by a test that comes to the same at each place
  module _ (xs : List X) (t : ℕ → Bool) (n : ℕ) (long : length xs ≡ n) (same : (i : ℕ) → test (get_or xs i d) ≡ t i) where
    pub first_zero : 1 ≤ n → list_all test (take 1 xs) ≡ every (from 0 t) 1
    unfolding every
    first_zero h = go xs long same
      where
        go : (xs : List X) → length xs ≡ n → ((i : ℕ) → test (get_or xs i d) ≡ t i) → list_all test (take 1 xs) ≡ every (from 0 t) 1
        go [] e s = absurd (omega (arith, h, e))
        go (x ∷ xs) e s = and-true (test x) ∙ s 0

    pub rest_zero : (k m : ℕ) → k ≡ m → m ≤ n → list_all test (take (n - k) (drop k xs)) ≡ every (from m t) n
    rest_zero k m e h = rw e (ap (list_all test) (take_all (n - m) (drop m xs) (omega (arith, length-drop m xs, long))) ∙ whole)
      where
        whole : list_all test (drop m xs) ≡ every (from m t) n
        whole = same_test _ _
            (λ e. from_of_lem m t n (λ i l g. sym (same i) ∙ ap (λ j. test (get_or xs j d)) {x = i} {y = m + (i - m)} (omega arith) ∙ sym (ap test (get_or-drop m xs (i - m) d)) ∙ at (drop m xs) (i - m) e (omega (arith, length-drop m xs, long))))
            (λ e. of (drop m xs) (λ i l. ap test (get_or-drop m xs i d) ∙ same (m + i) ∙ from_at m t n (m + i) e (omega (arith, length-drop m xs, long)) (omega arith)))
