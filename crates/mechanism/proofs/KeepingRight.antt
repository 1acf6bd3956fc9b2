-- Where each leased cache is the aggregate of its side, it is so after a combine and after a write.
use mathlib.Core.Path.{◌≡◌, refl, sym, ap, ◌∙◌}
use mathlib.Core.Bool.{Bool, true, false, not, cond, ◌&&◌, true≢false}
use mathlib.Core.Logic.{◌≢◌}
use Prim.Native.Nat.{ℕ, zero, suc, ◌<◌}
use native.Mathlib.Omega.{arith}
use lib.Dec.{eqb}
use lib.IntN.{ℤ}
use borrow.Author.Tests.{ne_eqb}
use Rattle.tree.specs.Operation.{Op, aggregate}
use Rattle.tree.specs.Sides.{side}
use Rattle.tree.proofs.Folds.{same_where}
use Rattle.rule.specs.Pair.{combine, write, next}
use Rattle.requests.specs.declared.Request.TheVariants.{Combine, Write}
use Rattle.session.specs.Holding.{value_of, lease_of, cache_of, Typed}
use Rattle.session.specs.Soundness.{Sound}
use Rattle.session.specs.declared.Session.{Session}
use Rattle.mechanism.specs.Requests.{valued, after_combine, after_write}
use Rattle.mechanism.specs.Pairwise.{moves, tell_of, Pair, Right, Plain}
use Rattle.mechanism.specs.Promises.{StaysRight}
use Rattle.mechanism.proofs.Valued.{valued_off, valued_has}
use Rattle.mechanism.proofs.Sums.{reply_right, tell_right}
use Rattle.mechanism.proofs.Held.{lease_held, cache_held}
use Rattle.mechanism.proofs.After.{cell_after}

-- a cache y is z after a request, where it was so if leased, and what is told is z
right_combined : (b : ℕ) (near : Bool) (k : ℕ) (y z : ℤ) → (k ≢ 0 → y ≡ z) → moves b combine near k ≢ 0 → cond (not near && eqb k 0) z y ≡ z
unfolding moves
right_combined b true k y z r d = r d
right_combined b false zero y z r d = refl
right_combined b false (suc k) y z r d = rw (ne_eqb (suc k) 0 (omega arith)) (r (omega arith))

right_written : (b : ℕ) (near : Bool) (k : ℕ) (y t z : ℤ) → (k ≢ 0 → t ≡ z) → (near ≡ false → k ≢ 0 → y ≡ z) → moves b write near k ≢ 0 → cond (near && not (eqb k 0)) t y ≡ z
unfolding moves next
right_written b false k y t z p r d = r refl d
right_written b true zero y t z p r d = absurd (d refl)
right_written b true (suc k) y t z p r d = rw (ne_eqb (suc k) 0 (omega arith)) (p (omega arith))

-- the values of a side without x are as they were
same_side : (op : Op ℤ) (s : Session) (x : ℕ) (z : ℤ) (u v : ℕ) → side s.tree.parents u v x ≡ false
    → aggregate op (value_of s) (side s.tree.parents u v) s.tree.count ≡ aggregate op (value_of (valued s x z)) (side s.tree.parents u v) s.tree.count
same_side op s x z u v e = same_where op (side s.tree.parents u v) (value_of s) (value_of (valued s x z)) s.tree.count
    (λ j h t. sym (valued_off s x z j (λ o. true≢false (sym t ∙ rw o e))))

module _ (op : Op ℤ) (b : ℕ) (s : Session) (t : Typed s) (sd : Sound b s) (plain : Plain op s) (right : Right op s) (x : ℕ) (hx : x < s.tree.count) where
  combine_right : Right op (after_combine op b s x)
  unfolding after_combine
  combine_right u v q d =
      let p : Pair s u v = record { near = q.near; far = q.far; edge = q.edge } in
      let c = cell_after op b s t sd (Combine x) hx u v p in
      cache_held (after_combine op b s x) u v c
      ∙ ap (λ y. cond (not (side s.tree.parents u v x) && eqb (lease_of s u v) 0) y (cache_of s u v)) (reply_right op b s sd plain right u v p)
      ∙ right_combined b (side s.tree.parents u v x) (lease_of s u v) _ _ (right u v p) (λ e. d (lease_held (after_combine op b s x) u v c ∙ e))

  write_right : (z : ℤ) → op.◌⊕◌ z op.ε ≡ z → Right op (after_write op s x z)
  unfolding after_write
  write_right z unit u v q d =
      let p : Pair s u v = record { near = q.near; far = q.far; edge = q.edge } in
      let c = cell_after op b s t sd (Write x z) hx u v p in
      cache_held (after_write op s x z) u v c
      ∙ right_written b (side s.tree.parents u v x) (lease_of s u v) (cache_of s u v) (tell_of op s x z u v) _
      (tell_right op b s t sd plain right x z unit hx u v p)
      (λ e k. right u v p k ∙ same_side op s x z u v e)
      (λ e. d (lease_held (after_write op s x z) u v c ∙ e))

pub stays_right : StaysRight
unfolding after_combine after_write
stays_right op b s t sd plain right (Combine x) unit hx = (plain, combine_right op b s t sd plain right x hx)
stays_right op b s t sd plain right (Write x z) unit hx = (
  valued_has s x z (λ y. op.◌⊕◌ y op.ε ≡ y) t (omega (arith, sd.tree_in_rule.few)) unit plain,
  write_right op b s t sd plain right x hx z unit,
)
