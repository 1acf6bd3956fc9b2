-- What is found at a place: a request where all of it lies in the usable bytes, and nothing everywhere else.
use mathlib.Core.Path.{◌≡◌, refl, sym, ap}
use mathlib.Core.Bool.{Bool, true, false, cond}
use mathlib.Core.List.{List, [], ◌∷◌}
use Prim.Native.Nat.{ℕ, ◌≤◌, ◌<◌}
use native.Mathlib.Nat.{suc-ne-zero}
use lib.Dec.{leb}
use lib.ListN.{length}
use borrow.Author.Tests.{le-leb, lt-leb, leb-true, leb-false}
use Rattle.fields.specs.Usable.{usable_bits}
use Rattle.requests.specs.Promises.{ItemExactly, ItemShortExactly}
use Rattle.requests.specs.Reading.{Item, request_at, next_place, item_at, told}
use Rattle.requests.specs.declared.Request.{Request}
use Rattle.std.specs.Prelude.{Ok, Err}
use Rattle.refusal.specs.declared.Refusal.TheVariants.{Short}
use Rattle.refusal.specs.declared.Refusal.{Refusal}
use Rattle.refusal.proofs.Numbers.{ok_no_err}

module _ (s : List ℕ) (place : ℕ) where
  pub item_there : next_place s place ≤ usable_bits (length s) → item_at s place ≡ Ok (request_at s place, next_place s place)
  unfolding item_at
  item_there h = rw (le-leb (next_place s place) (usable_bits (length s)) h)

  pub item_cut : usable_bits (length s) < next_place s place → item_at s place ≡ Err Short
  unfolding item_at
  item_cut h = rw (lt-leb (next_place s place) (usable_bits (length s)) h)

pub item_exactly : ItemExactly
unfolding item_at
item_exactly s place next r = (
  λ e. go (leb (next_place s place) (usable_bits (length s))) refl e,
  λ h. rw (item_there s place h.0, h.1, h.2),
)
  where
    go : (b : Bool) → leb (next_place s place) (usable_bits (length s)) ≡ b → told (cond {A = Item} b (Ok (request_at s place, next_place s place)) (Err Short)) ≡ (0, (r, next) ∷ [])
        → (next_place s place ≤ usable_bits (length s)) × (r ≡ request_at s place) × (next ≡ next_place s place)
    go true p e =
        let l : ◌≡◌ {A = List (Request × ℕ)} ((request_at s place, next_place s place) ∷ []) ((r, next) ∷ []) = ap (λ (t : ℕ × List (Request × ℕ)). t.1) e in
        let q : ◌≡◌ {A = Request × ℕ} (request_at s place, next_place s place) (r, next) = cc (l) in
        (leb-true _ _ p, sym (ap (λ (t : Request × ℕ). t.0) q), sym (ap (λ (t : Request × ℕ). t.1) q))
    go false p e = absurd (suc-ne-zero 0 (ap (λ (t : ℕ × List (Request × ℕ)). t.0) e))

pub item_short_exactly : ItemShortExactly
unfolding item_at
item_short_exactly s place = (
  λ e. go (leb (next_place s place) (usable_bits (length s))) refl e,
  λ h. ap told (item_cut s place h),
)
  where
    go : (b : Bool) → leb (next_place s place) (usable_bits (length s)) ≡ b → told (cond {A = Item} b (Ok (request_at s place, next_place s place)) (Err Short)) ≡ (1, []) → usable_bits (length s) < next_place s place
    go true p e = absurd (suc-ne-zero 0 (sym (ap (λ (t : ℕ × List (Request × ℕ)). t.0) e)))
    go false p e = leb-false _ _ p

-- only a request that is cut off is refused
pub cut_item : (s : List ℕ) (place : ℕ) (r : Refusal) → item_at s place ≡ Err r → (r ≡ Short) × (usable_bits (length s) < next_place s place)
unfolding item_at
cut_item s place r e = go (leb (next_place s place) (usable_bits (length s))) refl e
  where
    go : (b : Bool) → leb (next_place s place) (usable_bits (length s)) ≡ b → cond {A = Item} b (Ok (request_at s place, next_place s place)) (Err Short) ≡ Err r
        → (r ≡ Short) × (usable_bits (length s) < next_place s place)
    go true p f = absurd (ok_no_err f)
    go false p f = (cc, leb-false _ _ p)
