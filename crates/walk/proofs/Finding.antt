-- What a search finds: nothing, what is here, and what a search from another place finds.
use mathlib.Core.Path.{◌≡◌, sym, ap, ◌∙◌}
use mathlib.Core.Bool.{Bool, true, false, true≢false}
use Prim.Native.Nat.{ℕ, zero, suc, ◌+◌, ◌-◌, ◌<◌, ◌≤◌}
use native.Mathlib.Nat.{le_refl, add-zero}
use native.Mathlib.Omega.{arith}
use Rattle.tree.proofs.Cases.{lt_or_le}
use Rattle.walk.specs.inner.Links.{Found}

pub found_none : {n : ℕ} {test : ℕ → Bool} → Found n test n n
found_none {n} = record { from = le_refl n; upto = le_refl n; skipped = λ j a b. absurd (omega arith); found = λ h. absurd (omega arith) }

pub found_here : {n : ℕ} {test : ℕ → Bool} {k : ℕ} → k < n → test k ≡ true → Found n test k k
found_here {k = k} l e = record { from = le_refl k; upto = omega arith; skipped = λ j a b. absurd (omega arith); found = λ h. e }

-- a search from k finds what a search from m finds, for a test that fails before m and is the same from m on
pub found_from : {n : ℕ} {test other : ℕ → Bool} {k m r : ℕ} → k ≤ m → ((j : ℕ) → k ≤ j → j < m → other j ≡ false) → ((j : ℕ) → m ≤ j → other j ≡ test j) → Found n test m r → Found n other k r
found_from {m = m} {r} l fails same f =
    record {
      from = omega (arith, f.from);
      upto = f.upto;
      skipped = λ j a b. lt_or_le j m (λ h. fails j a h) (λ h. same j h ∙ f.skipped j h b);
      found = λ h. same r f.from ∙ f.found h;
    }

-- a search may start later, where the test fails before
pub found_later : {n : ℕ} {test : ℕ → Bool} {k m r : ℕ} → m ≤ n → ((j : ℕ) → j < m → test j ≡ false) → k ≤ m → Found n test k r → Found n test m r
found_later {m = m} {r} h fails l f =
    record {
      from = lt_or_le r m (λ a. absurd (true≢false (sym (f.found (omega arith)) ∙ fails r a))) (λ a. a);
      upto = f.upto;
      skipped = λ j a b. f.skipped j (omega arith) b;
      found = f.found;
    }

-- what does not change where the test fails is the same at k and at the place found
pub found_same : {X : Type 0} (F : ℕ → X) {n : ℕ} {test : ℕ → Bool} {k r : ℕ} → ((j : ℕ) → test j ≡ false → F (j + 1) ≡ F j) → Found n test k r → F r ≡ F k
found_same F {k = k} {r} h f = let e : k + (r - k) ≡ r = omega (arith, f.from) in rw e at (over (r - k) (omega (arith, f.from)))
  where
    over : (d : ℕ) → k + d ≤ r → F (k + d) ≡ F k
    over zero l = ap F (add-zero k)
    over (suc d) l =
        let e : k + suc d ≡ k + d + 1 = omega arith in
        ap F e ∙ h (k + d) (f.skipped (k + d) (omega arith) (omega arith)) ∙ over d (omega arith)
