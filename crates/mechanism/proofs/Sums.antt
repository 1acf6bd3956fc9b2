-- What is told on a pair is in the range of its side, and is its aggregate where leased caches are.
use mathlib.Core.Path.{◌≡◌, sym, ◌∙◌}
use mathlib.Core.Bool.{true, true≢false}
use mathlib.Core.Logic.{◌≢◌}
use Prim.Native.Nat.{ℕ, zero, suc, ◌<◌, ◌≤◌}
use native.Mathlib.Nat.{le_refl}
use native.Mathlib.Omega.{arith}
use lib.IntN.{ℤ}
use Rattle.twos.specs.Twos.{within}
use Rattle.tree.specs.Operation.{Op, fold, aggregate}
use Rattle.tree.specs.Sides.{side}
use Rattle.tree.specs.Sizes.{size}
use Rattle.tree.specs.Ranges.{Range}
use Rattle.tree.proofs.Folds.{same_where}
use Rattle.tree.proofs.Ranges.{range_of_one, range_fits}
use Rattle.tree.proofs.Sizes.{size_least, sizes_add}
use Rattle.tree.proofs.Toward.{adjacent_sym}
use Rattle.session.specs.Holding.{value_of, lease_of, Typed}
use Rattle.session.specs.Soundness.{Sound}
use Rattle.session.specs.declared.Session.{Session}
use Rattle.mechanism.specs.Views.{view}
use Rattle.mechanism.specs.Combining.{hears, sofar, ask}
use Rattle.mechanism.specs.Requests.{valued, combines}
use Rattle.mechanism.specs.Pairwise.{reply_of, tell_of, Pair, Right, Plain, Ranging}
use Rattle.mechanism.specs.Promises.{AnswerRight}
use Rattle.mechanism.proofs.Others.{size_most}
use Rattle.mechanism.proofs.Totals.{sum_is}
use Rattle.mechanism.proofs.Told.{Edge, ask_has, hears_has, carry_has}
use Rattle.mechanism.proofs.Aggregates.{total_side, total_whole}
use Rattle.mechanism.proofs.Ranging.{wider, side_in, part_in}
use Rattle.mechanism.proofs.Valued.{valued_off, valued_has}

module _ (op : Op ℤ) (b : ℕ) (ranging : Ranging op) (s : Session) (typed : Typed s) (i : Sound b s) where
  -- z is in the range of u's side of its edge to v
  abbrev In : ℕ → ℕ → ℤ → Type 0
  In u v z = Range (size s.tree.parents s.tree.count u v) z

  ones : (u : ℕ) → Range 1 (value_of s u)
  ones u = (range_of_one (value_of s u)).1 (typed.values_small u)

  -- so is u's value: each side has a node
  own_in : (u v : ℕ) → Edge (view s) u v → In u v (value_of s u)
  own_in u v e =
      wider 1 (size s.tree.parents s.tree.count u v) (value_of s u)
      (size_least s.tree.parents s.tree.count i.tree_in_rule.grown u v e.near e.edge) (ones u)

  pub reply_in : (u v : ℕ) → Pair s u v → Range (size s.tree.parents s.tree.count u v) (reply_of op s u v)
  reply_in u v p =
      ask_has op (view s) i.tree_in_rule.grown In (side_in op ranging (view s) i.tree_in_rule.grown ones)
      (λ u v e d. i.caches_in u v e.near e.far e.edge)
      s.tree.count u v (record { near = p.near; far = p.far; edge = p.edge }) (λ l. own_in)

  pub tell_in : (x : ℕ) (z : ℤ) → within 32 z ≡ true → x < s.tree.count → (u v : ℕ) → Pair s u v → lease_of s u v ≢ 0
      → Range (size s.tree.parents s.tree.count u v) (tell_of op s x z u v)
  tell_in x z h hx u v p =
      carry_has op (view (valued s x z)) i.tree_in_rule.grown In
      (side_in op ranging (view (valued s x z)) i.tree_in_rule.grown
      (valued_has s x z (λ y. Range 1 y) typed (omega (arith, i.tree_in_rule.few)) ((range_of_one z).1 h) ones))
      x i.ordered (λ u v e d o. i.caches_in u v e.near e.far e.edge)
      s.tree.count u v (size_most s.tree.parents s.tree.count i.tree_in_rule.grown u v p.near p.far p.edge) (record { near = p.near; far = p.far; edge = p.edge })

  -- every partial sum of a walk fits 40 bits, whatever the falling number
  pub partly_fits : (f u v k : ℕ) → u < s.tree.count → v < s.tree.count → k ≤ s.tree.count → within 40 (sofar op (view s) (ask op (view s) f) u v k).sum ≡ true
  partly_fits f u v k hu hv l =
      range_fits s.tree.count (sofar op (view s) (ask op (view s) f) u v k).sum i.tree_in_rule.few (rw (sum_is op (view s) (ask op (view s) f) u v k)
      (part_in op ranging (view s) i.tree_in_rule.grown ones (λ c. (hears op (view s) (ask op (view s) f) u c).sum) u v k hu l
      (hears_has op (view s) i.tree_in_rule.grown In (side_in op ranging (view s) i.tree_in_rule.grown ones)
      (λ u v e d. i.caches_in u v e.near e.far e.edge) f u v hu (λ w e o. own_in))))

-- the aggregate of u's side of its edge to v
abbrev Held : Op ℤ → Session → ℕ → ℕ → ℤ → Type 0
Held op s u v y = y ≡ aggregate op (value_of s) (side s.tree.parents u v) s.tree.count

pub reply_right : (op : Op ℤ) (b : ℕ) (s : Session) → Sound b s → Plain op s → Right op s → (u v : ℕ) → Pair s u v → reply_of op s u v ≡ aggregate op (value_of s) (side s.tree.parents u v) s.tree.count
reply_right op b s i plain right u v p =
    ask_has op (view s) i.tree_in_rule.grown (Held op s) (total_side op (view s) i.tree_in_rule.grown plain)
    (λ u v e. right u v (record { near = e.near; far = e.far; edge = e.edge }))
    s.tree.count u v (record { near = p.near; far = p.far; edge = p.edge })
    (λ l. absurd (omega (arith, size_most s.tree.parents s.tree.count i.tree_in_rule.grown u v p.near p.far p.edge)))

-- a cache that is used is of a side without x, so it is right after the write where it was right before
pub tell_right : (op : Op ℤ) (b : ℕ) (s : Session) → Typed s → Sound b s → Plain op s → Right op s → (x : ℕ) (z : ℤ) → op.◌⊕◌ z op.ε ≡ z → x < s.tree.count → (u v : ℕ) → Pair s u v → lease_of s u v ≢ 0
    → tell_of op s x z u v ≡ aggregate op (value_of (valued s x z)) (side s.tree.parents u v) s.tree.count
tell_right op b s typed i plain right x z h hx u v p =
    carry_has op (view (valued s x z)) i.tree_in_rule.grown (Held op (valued s x z))
    (total_side op (view (valued s x z)) i.tree_in_rule.grown (valued_has s x z (λ y. op.◌⊕◌ y op.ε ≡ y) typed (omega (arith, i.tree_in_rule.few)) h plain))
    x i.ordered
    (λ u v e d o. right u v (record { near = e.near; far = e.far; edge = e.edge }) d
    ∙ same_where op (side s.tree.parents u v) (value_of s) (value_of (valued s x z)) s.tree.count (λ j l m. sym (valued_off s x z j (λ q. true≢false (sym m ∙ rw q o)))))
    s.tree.count u v (size_most s.tree.parents s.tree.count i.tree_in_rule.grown u v p.near p.far p.edge) (record { near = p.near; far = p.far; edge = p.edge })

module _ (op : Op ℤ) (b : ℕ) (s : Session) (i : Sound b s) (plain : Plain op s) (right : Right op s) (x : ℕ) (hx : x < s.tree.count) where
  whole_right : (k : ℕ) → s.tree.count ≤ k → (ask op (view s) k x x).sum ≡ fold op (value_of s) s.tree.count
  unfolding ask
  whole_right zero l = absurd (omega arith)
  whole_right (suc k) l =
      sum_is op (view s) (ask op (view s) k) x x s.tree.count
      ∙ total_whole op (view s) i.tree_in_rule.grown plain (λ c. (hears op (view s) (ask op (view s) k) x c).sum) x hx
      (hears_has op (view s) i.tree_in_rule.grown (Held op s) (total_side op (view s) i.tree_in_rule.grown plain)
      (λ u v e. right u v (record { near = e.near; far = e.far; edge = e.edge })) k x x hx (λ w e m. absurd (omega (
        arith,
        sizes_add s.tree.parents s.tree.count i.tree_in_rule.grown w x e.near e.far e.edge,
        size_least s.tree.parents s.tree.count i.tree_in_rule.grown x w e.far (adjacent_sym s.tree.parents w x ∙ e.edge),
      ))))

pub answer_right : AnswerRight
unfolding combines
answer_right op b s i plain right x hx = whole_right op b s i plain right x hx s.tree.count (le_refl s.tree.count)
