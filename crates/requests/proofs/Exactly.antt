-- Bytes are accepted as these requests exactly where they are the bytes of their list.
use mathlib.Core.Path.{◌≡◌, sym, ap, ◌∙◌}
use mathlib.Core.List.{List, [], ◌∷◌}
use Prim.Native.Nat.{ℕ, ◌≤◌}
use native.Mathlib.Omega.{arith}
use lib.ListN.{length}
use Rattle.packed.specs.Parts.{Fit, bits_of_parts, Packs}
use Rattle.packed.proofs.Packing.{exactly_packed}
use Rattle.requests.specs.Lists.{AllSized, parts_of, list_parts}
use Rattle.requests.specs.Format.{Counted, Ruled, whole}
use Rattle.requests.specs.Promises.{ListExactly}
use Rattle.requests.specs.Reading.{count_at, place_of, requests_from, requests_of}
use Rattle.requests.specs.declared.Request.{Request}
use Rattle.requests.proofs.OneField.{sized_fits}
use Rattle.requests.proofs.Refusals.{list_ruled_exactly, accepted}
use Rattle.requests.proofs.Runs.{Run, length_from, run, run_back}

all_fit : (rs : List Request) → AllSized rs → Fit (parts_of rs)
all_fit [] h = tt
all_fit (r ∷ rs) h = (sized_fits r h.0, all_fit rs h.1)

module _ (s : List ℕ) (rs : List Request) where
  -- the requests that are read, and where they end
  module _ (n : ℕ) (e : requests_from s 13 n ≡ rs) where
    read : Run s 0 n rs
    unfolding place_of
    read = rw e at (run s 0 n n (omega arith))

    stops : bits_of_parts (list_parts rs) ≡ place_of s n
    unfolding place_of bits_of_parts
    stops = read.stop

  packs : Ruled s 0 → requests_of s ≡ rs → Packs s (list_parts rs)
  unfolding place_of
  packs h e =
      let n : ℕ = count_at s in
      let a = accepted s h in
      let t = stops n e in
      record {
        bytes = rw t a.1;
        parts = (sym (length_from s 13 n) ∙ ap length e, (read n e).holds);
        filling = rw t a.2;
      }

  reads : AllSized rs → length rs ≤ 4096 → Packs s (list_parts rs) → Ruled s 0 × (requests_of s ≡ rs)
  unfolding bits_of_parts
  reads h l p =
      let e = run_back s 13 rs h p.parts.1 in
      let t = stops (length rs) e in
      let c : count_at s ≡ length rs = p.parts.0 in
      let g : Counted s (length rs) = record { there = omega (arith, p.bytes); count = sym c; few = l } in
      (whole (length rs) g (rw (← t) p.bytes) (rw (← t) p.filling), ap (requests_from s 13) c ∙ e)

pub list_exactly : ListExactly
list_exactly s rs b h l =
    let x = exactly_packed s (list_parts rs) b (omega arith, all_fit rs h) in (
      λ p. x.0 (packs s rs ((list_ruled_exactly s 0).0 p.0) p.1),
      λ e. let r = reads s rs h l (x.1 e) in ((list_ruled_exactly s 0).1 r.0, r.1),
    )
