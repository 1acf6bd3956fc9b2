-- Encoding and decoding undo each other.
use mathlib.Core.Path.{◌≡◌, refl, sym, ap}
use mathlib.Core.Bool.{Bool, true, false, cond}
use Prim.Native.Nat.{ℕ}
use lib.IntN.{ℤ, pos}
use Rattle.fields.proofs.ReadBack.{field_lt}
use Rattle.fields.proofs.Rooms.{found_exactly}
use Rattle.twos.specs.Twos.{twos, signed, within, encodes, decodes, encoded, decoded, narrowed, decoded32}
use Rattle.std.specs.Prelude.{Result, Ok, Err}
use Rattle.refusal.specs.Numbers.{told}
use Rattle.refusal.specs.declared.Refusal.{Refusal}
use Rattle.refusal.specs.declared.Refusal.TheVariants.{Misfit}
use Rattle.twos.specs.Promises.{RoundTrip, RoundTrip32, ReadDecodes}
use Rattle.twos.proofs.Signs.{twos_lt, signed_twos, twos_signed, signed_mag}
use Rattle.twos.proofs.Misfits.{encodes_there, encodes_is, decodes_there, decodes_is}
use Rattle.twos.proofs.Told.{never_misfit, never_refused, decoded_value}

-- z becomes n exactly where n becomes z
pub round_trip : RoundTrip
unfolding encoded decoded
round_trip w n z = (λ e. there (encodes w z) refl e, λ e. back (decodes w n) refl e)
  where
    there : (b : Bool) → encodes w z ≡ b → told 0 (cond b (Ok (twos w z)) (Err Misfit)) ≡ (0, n) → told (pos 0) (decoded w n) ≡ (0, z)
    there true q e =
        let h = encodes_is w z q in
        let f : n ≡ twos w z = sym (ap (λ (t : ℕ × ℕ). t.1) e) in
        rw (f, decodes_there w (twos w z) h.0 h.1 (twos_lt w h.0 z h.2)) (ap (λ (y : ℤ). (0, y)) (signed_twos w h.0 z h.2))
    there false q e = absurd (never_misfit e)

    back : (b : Bool) → decodes w n ≡ b → told (pos 0) (cond b (Ok (signed w n)) (Err Misfit)) ≡ (0, z) → told 0 (encoded w z) ≡ (0, n)
    back true q e =
        let h = decodes_is w n q in
        let f : z ≡ signed w n = sym (ap (λ (t : ℕ × ℤ). t.1) e) in
        rw (f, encodes_there w (signed w n) h.0 h.1 (signed_mag w h.0 n h.2)) (ap (λ (m : ℕ). (0, m)) (twos_signed w h.0 n h.2))
    back false q e = absurd (never_misfit e)

-- an i32 likewise
pub round_trip32 : RoundTrip32
unfolding decoded32
round_trip32 w n z = (
  λ e. rw (decoded_value (decoded w n) z ((round_trip w n z).0 e.0), e.1),
  λ e. go (decoded w n) refl e,
)
  where
    fit : (b : Bool) (y : ℤ) → within 32 y ≡ b → decoded w n ≡ Ok y → told (pos 0) (cond b (Ok y) (Err Misfit)) ≡ (0, z) → (told 0 (encoded w z) ≡ (0, n)) × (within 32 z ≡ true)
    fit true y q d e =
        let f : y ≡ z = ap (λ (t : ℕ × ℤ). t.1) e in
        ((round_trip w n z).1 (ap (told {A = ℤ} (pos 0)) (rw f at d)), rw f at q)
    fit false y q d e = absurd (never_misfit e)

    go : (d : Result ℤ Refusal) → decoded w n ≡ d → told (pos 0) (narrowed d) ≡ (0, z) → (told 0 (encoded w z) ≡ (0, n)) × (within 32 z ≡ true)
    go (Ok y) q e = fit (within 32 y) y refl q e
    go (Err r) q e = absurd (never_refused r e)

-- what was read has a value
pub read_decodes : ReadDecodes
unfolding decoded
read_decodes s place w n p e =
    let h = (found_exactly s place w n).0 e in
    rw (decodes_there w n p h.0 (rw h.2 (field_lt s place w)))
