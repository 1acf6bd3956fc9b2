-- When reading and writing are refused, and that what was taken is read.
use mathlib.Core.Path.{◌≡◌, refl, sym, ap, ◌∙◌}
use mathlib.Core.Bool.{Bool, true, false, cond, and-false, true≢false, and-eq-true_iff}
use mathlib.Core.Logic.{◌⊎◌, inl, inr, ⊎_elim}
use mathlib.Core.List.{List}
use Prim.Native.Nat.{ℕ, ◌+◌, ◌-◌, ◌*◌, ◌^◌, ◌≤◌, ◌<◌}
use native.Mathlib.Nat.{suc-ne-zero}
use native.Mathlib.Decide.{dec_le}
use native.Mathlib.Omega.{arith}
use lib.Dec.{leb, ltb}
use borrow.Author.Tests.{le-leb, lt-leb, lt-ltb, leb-true, ltb-true}
use lib.ListN.{length}
use Rattle.fields.specs.Fields.{field, put_field}
use Rattle.fields.specs.Usable.{usable_bits, lies, takes, field_at, put_at}
use Rattle.refusal.specs.Numbers.{refusal_in, told}
use Rattle.refusal.specs.declared.Refusal.{Refusal}
use Rattle.refusal.proofs.Numbers.{numbers_apart, ok_no_err}
use Rattle.fields.specs.Promises.{FoundExactly, NotFoundExactly, TakenExactly, TakenIsRead, RefusedIsKept}
use Rattle.std.specs.Prelude.{Ok, Err}
use Rattle.refusal.specs.declared.Refusal.TheVariants.{Short}
use Rattle.fields.proofs.Kept.{length_kept}
use Rattle.fields.proofs.ReadBack.{read_back}

-- ---- the test for a field

module _ (n place w : ℕ) where
  pub there : w ≤ 64 → place + w ≤ usable_bits n → lies n place w ≡ true
  unfolding lies
  there h l = rw (le-leb w 64 h, le-leb (place + w) (usable_bits n) l)

  pub too_wide : 64 < w → lies n place w ≡ false
  unfolding lies
  too_wide h = rw (lt-leb w 64 h)

  pub past_end : usable_bits n < place + w → lies n place w ≡ false
  unfolding lies
  past_end h = rw (lt-leb (place + w) (usable_bits n) h) (and-false (leb w 64))

  -- the test by what is left from place on, which no sum can overflow
  pub by_rest : w ≤ 64 → place ≤ usable_bits n → leb w (usable_bits n - place) ≡ lies n place w
  by_rest h l = go (dec_le w (usable_bits n - place))
    where
      go : Dec (w ≤ usable_bits n - place) → leb w (usable_bits n - place) ≡ lies n place w
      go (yes d) = le-leb w (usable_bits n - place) d ∙ sym (there h (omega arith))
      go (no d) = lt-leb w (usable_bits n - place) (omega arith) ∙ sym (past_end (omega arith))

  pub lying : lies n place w ≡ true → (w ≤ 64) × (place + w ≤ usable_bits n)
  unfolding lies
  lying e =
      let t = (and-eq-true_iff (leb w 64) (leb (place + w) (usable_bits n))).0 e in
      (leb-true w 64 t.0, leb-true (place + w) (usable_bits n) t.1)

  pub missing : lies n place w ≡ false → (64 < w) ⊎ (usable_bits n < place + w)
  missing e = go (dec_le w 64) (dec_le (place + w) (usable_bits n))
    where
      go : Dec (w ≤ 64) → Dec (place + w ≤ usable_bits n) → (64 < w) ⊎ (usable_bits n < place + w)
      go (yes h) (yes l) = absurd (true≢false (sym (there h l) ∙ e))
      go (yes h) (no l) = inr (omega arith)
      go (no h) l = inl (omega arith)

-- ---- reading

pub found_exactly : FoundExactly
unfolding field_at
found_exactly s place w v = (
  λ e. go (lies (length s) place w) refl e,
  λ h. rw (there (length s) place w h.0 h.1, h.2),
)
  where
    go : (b : Bool) → lies (length s) place w ≡ b → told 0 (cond b (Ok (field s place w)) (Err Short)) ≡ (0, v) → (w ≤ 64) × (place + w ≤ usable_bits (length s)) × (v ≡ field s place w)
    go true p e = let h = lying (length s) place w p in (h.0, h.1, sym (ap (λ (t : ℕ × ℕ). t.1) e))
    go false p e = absurd (suc-ne-zero 0 (ap (λ (t : ℕ × ℕ). t.0) e))

pub not_found_exactly : NotFoundExactly
unfolding field_at
not_found_exactly s place w = (
  λ e. go (lies (length s) place w) refl e,
  ⊎_elim (λ h. rw (too_wide (length s) place w h)) (λ h. rw (past_end (length s) place w h)),
)
  where
    go : (b : Bool) → lies (length s) place w ≡ b → told 0 (cond b (Ok (field s place w)) (Err Short)) ≡ (1, 0) → (64 < w) ⊎ (usable_bits (length s) < place + w)
    go true p e = absurd (suc-ne-zero 0 (sym (ap (λ (t : ℕ × ℕ). t.0) e)))
    go false p e = missing (length s) place w p

-- what an answer tells
pub found : (s : List ℕ) (place w v : ℕ) → field_at s place w ≡ Ok v → (w ≤ 64) × (place + w ≤ usable_bits (length s)) × (v ≡ field s place w)
found s place w v e = (found_exactly s place w v).0 (ap (told 0) e)

pub cut_off : (s : List ℕ) (place w : ℕ) → w ≤ 64 → (r : Refusal) → field_at s place w ≡ Err r → (r ≡ Short) × (usable_bits (length s) < place + w)
unfolding field_at
cut_off s place w h r e = go (lies (length s) place w) refl e
  where
    go : (b : Bool) → lies (length s) place w ≡ b → cond b (Ok (field s place w)) (Err Short) ≡ Err r → (r ≡ Short) × (usable_bits (length s) < place + w)
    go true p f = absurd (ok_no_err f)
    go false p f = (numbers_apart r Short (sym (ap refusal_in f)), ⊎_elim (λ (l : 64 < w). absurd (omega arith)) (λ l. l) (missing (length s) place w p))

-- what an answer tells of the first field
module _ (s : List ℕ) (w : ℕ) where
  pub first_found : (v : ℕ) → field_at s 0 w ≡ Ok v → (w ≤ 8 * length s) × (v ≡ field s 0 w)
  first_found v e = let f = found s 0 w v e in (omega (arith, f.1), f.2)

  pub first_cut_off : w ≤ 64 → (r : Refusal) → field_at s 0 w ≡ Err r → (r ≡ Short) × (8 * length s < w)
  first_cut_off h r e = let f = cut_off s 0 w h r e in (f.0, omega (arith, f.1))

-- ---- writing

pub taken_exactly : TakenExactly
unfolding takes
taken_exactly n place w v = (
  λ e.
      let t = (and-eq-true_iff (lies n place w) (ltb v (2 ^ w))).0 e in
      let h = lying n place w t.0 in
      (h.0, h.1, ltb-true v (2 ^ w) t.1),
  λ h. rw (there n place w h.0 h.1, lt-ltb v (2 ^ w) h.2),
)

pub taking : (n place w v : ℕ) → takes n place w v ≡ true → (w ≤ 64) × (place + w ≤ usable_bits n)
taking n place w v e = let h = (taken_exactly n place w v).0 e in (h.0, h.1)

pub taken_is_put : (s : List ℕ) (place w v : ℕ) → w ≤ 64 → place + w ≤ usable_bits (length s) → v < 2 ^ w → put_at s place w v ≡ put_field s place w v
unfolding put_at
taken_is_put s place w v h l m = rw ((taken_exactly (length s) place w v).1 (h, l, m))

pub taken_is_read : TakenIsRead
unfolding put_at field_at
taken_is_read s place w v e =
    let h = (taken_exactly (length s) place w v).0 e in
    rw (e, length_kept s place w v, there (length s) place w h.0 h.1)
    (ap (λ (n : ℕ). (0, n)) (read_back s place w v h.2 (omega (arith, h.1))))

pub refused_is_kept : RefusedIsKept
unfolding put_at
refused_is_kept s place w v e = rw e
