-- One pass over the nodes, from the last one down, sums for each what it knows of its children, and keeps at each child what it was before.
use mathlib.Core.Path.{◌≡◌, refl, sym, ap, ◌∙◌}
use mathlib.Core.Bool.{true, false}
use mathlib.Core.List.{List, ◌++◌}
use mathlib.Core.Logic.{◌≢◌}
use Prim.Native.Nat.{ℕ, zero, suc, ◌+◌, ◌-◌, ◌<◌, ◌≤◌}
use native.Mathlib.Nat.{add-zero, le_refl}
use native.Mathlib.Decide.{ℕ_discrete}
use native.Mathlib.Omega.{arith}
use lib.IntN.{ℤ, pos, ◌+ℤ◌}
use lib.ListN.{get_or, set, take, drop, length, length-set, length-append, replicate, length-replicate, get_or-append, get_or-replicate}
use lib.Seq.{get_or-set_same, get_or-set_other}
use mir.Syntax.{w64}
use mir.Val.{SFits}
use borrow.Author.Tests.{eqb-true, lt-ltb, le-ltb, eq-eqb, ne_eqb}
use Rattle.std.proofs.lemmas.List.{length-drop, length-take-le}
use Rattle.tree.specs.Operation.{sum}
use Rattle.tree.specs.Parents.{parent}
use Rattle.tree.specs.Sides.{adjacent, below}
use Rattle.tree.specs.Turns.{turn}
use Rattle.tree.proofs.Cases.{either, order, lt_or_le}
use Rattle.tree.proofs.Toward.{adjacent_ne}
use Rattle.session.specs.Holding.{pair_at}
use Rattle.mechanism.specs.Views.{View}
use Rattle.mechanism.specs.Spreading.{add_if}
use Rattle.tree.proofs.Children.{child_is}
use Rattle.walk.specs.inner.Laters.{known, away, later, Passing, Passed}
use Rattle.walk.proofs.Neighbours.{near_below, near_self, near_above}
use Rattle.walk.proofs.Ways.{Ahead, ahead_none, on_way, off_way, ahead_on, ahead_off}

-- the candidate at place k is k: all that follows knows the order by this alone
turn_is : (n u k : ℕ) → turn n u k ≡ k
unfolding turn
turn_is n u k = refl

-- ---- what u knows of its candidates from c on is `later q x u (q.count - c)`

module _ (q : View) (x u : ℕ) where
  later_next : (w : ℕ) → w < q.count → later q x u (q.count - w) ≡ add_if sum q (away q x u w) (later q x u (q.count - suc w)) (known q w u)
  unfolding later
  later_next w h =
      let e : q.count - w ≡ suc (q.count - suc w) = omega arith in
      let f : q.count - suc (q.count - suc w) ≡ w = omega arith in
      rw (e, f, turn_is)

  -- a candidate that is no neighbour adds nothing
  later_far : (w : ℕ) → w < q.count → adjacent q.parents w u ≡ false → later q x u (q.count - w) ≡ later q x u (q.count - suc w)
  later_far w h e = later_next w h ∙ rw e

  later_over : (c d : ℕ) → c + d ≤ q.count → ((j : ℕ) → c ≤ j → j < c + d → adjacent q.parents j u ≡ false) → later q x u (q.count - c) ≡ later q x u (q.count - (c + d))
  later_over c zero h e = ap (λ k. later q x u (q.count - k)) (sym (add-zero c))
  later_over c (suc d) h e =
      let same : suc (c + d) ≡ c + suc d = omega arith in
      later_over c d (omega arith) (λ j a b. e j a (omega arith)) ∙ later_far (c + d) (omega arith) (e (c + d) (omega arith) (omega arith)) ∙ ap (λ k. later q x u (q.count - k)) same

  -- there is no neighbour between the parent and the node
  later_parent : u < q.count → parent q.parents u < u → later q x u (q.count - suc (parent q.parents u)) ≡ later q x u (q.count - u)
  later_parent h l =
      let p = parent q.parents u in
      let e : suc p + (u - suc p) ≡ u = omega arith in
      rw e at (later_over (suc p) (u - suc p) (omega arith) (λ j a b. near_below q.parents u j (omega arith) ∙ ne_eqb p j (λ o. omega arith)))

-- of the nodes up to w, none but its parent is its neighbour
far : (ps : List ℕ) (w u : ℕ) → u ≤ w → u ≢ parent ps w → adjacent ps w u ≡ false
far ps w u l d = lt_or_le u w
    (λ h. near_above ps u w h ∙ child_is ps u w h ∙ ne_eqb (parent ps w) u (λ e. d (sym e)))
    (λ h. near_self ps u w (omega arith))

module _ (q : View) (x w : ℕ) (h : w < q.count) (less : parent q.parents w < w) where
  abbrev p : ℕ
  p = parent q.parents w

  beside : adjacent q.parents w p ≡ true
  beside = near_above q.parents p w less ∙ child_is q.parents p w less ∙ eq-eqb p p refl

  -- the parent gets what it knows of w, where x is not below w
  later_towards : below q.parents w x ≡ true → later q x p (q.count - w) ≡ later q x p (q.count - suc w)
  later_towards b = later_next q x p w h ∙ rw (beside, lt-ltb p w less, b)

  later_child : below q.parents w x ≡ false → later q x p (q.count - w) ≡ later q x p (q.count - suc w) +ℤ known q w p
  later_child b = later_next q x p w h ∙ rw (beside, lt-ltb p w less, b)

-- ---- the loop

-- the nodes from i on are passed: the others have summed up what they know of these, and these all that they know of their children
pub record Passes (q : View) (x : ℕ) (up down : List ℤ) (at i : ℕ) : Type 0 where
  pub low : 0 < i
  pub high : i ≤ q.count
  pub up_room : length up ≡ 256
  pub down_room : length down ≡ 256
  pub ahead : Ahead q.parents x at i
  pub rising : (u : ℕ) → u < i → get_or up u (pos 0) ≡ later q x u (q.count - i)
  pub risen : (u : ℕ) → u < q.count → i ≤ u → get_or up u (pos 0) ≡ later q x u (q.count - u)
  pub kept : (w : ℕ) → w < q.count → i ≤ w → get_or down w (pos 0) ≡ later q x (parent q.parents w) (q.count - suc w)

later_none : (q : View) (x u m : ℕ) → m ≡ 0 → later q x u m ≡ pos 0
unfolding later
later_none q x u m e = rw e

-- at first there are zeros, as many as there are nodes
pub passes_none : {q : View} {x : ℕ} (up : List ℤ) {down zeros : List ℤ} → Passing q x → length up ≡ 256 → length down ≡ 256 → zeros ≡ replicate (length (take q.count up)) (pos 0)
    → Passes q x (zeros ++ drop q.count up) down x q.count
passes_none {q} {x} up {down} {zeros} h up_long down_long e =
    record {
      low = omega (arith, h.inside);
      high = le_refl q.count;
      up_room = omega (arith, length-append zeros (drop q.count up), length-drop q.count up, long, up_long, h.room);
      down_room = down_long;
      ahead = ahead_none h.inside;
      rising = λ u l. get_or-append zeros (drop q.count up) (pos 0) u (omega (arith, long)) ∙ rw e (get_or-replicate (length (take q.count up)) u (pos 0) (pos 0) (omega (arith, short))) ∙ sym (later_none q x u (q.count - q.count) (omega arith));
      risen = λ u l m. absurd (omega arith);
      kept = λ w l m. absurd (omega arith);
    }
  where
    short : length (take q.count up) ≡ q.count
    short = length-take-le q.count up (omega (arith, up_long, h.room))

    long : length zeros ≡ q.count
    long = ap length e ∙ length-replicate (length (take q.count up)) (pos 0) ∙ short

-- the turn of w, with parent p
pub record Turning (q : View) (x : ℕ) (up down : List ℤ) (at i w p : ℕ) : Type 0 where
  pub passing : Passing q x
  pub before : Passes q x up down at i
  pub next : i ≡ suc w
  pub some : 0 < w
  pub is : p ≡ parent q.parents w

module _ {q : View} {x : ℕ} {up down : List ℤ} {at i w p : ℕ} (t : Turning q x up down at i w p) where
  s : Passes q x up down at (suc w)
  s = rw t.next at t.before

  inside : w < q.count
  inside = s.high

  less : parent q.parents w < w
  less = t.passing.grown w t.some inside

  pub parent_less : p < w
  parent_less = rw t.is less

  holds : get_or up p (pos 0) ≡ later q x p (q.count - suc w)
  holds = s.rising p (omega (arith, parent_less))

  -- where p holds what it is due, and all others what they held
  turned : {up' : List ℤ} {at' : ℕ} → Ahead q.parents x at' w → length up' ≡ 256 → get_or up' p (pos 0) ≡ later q x p (q.count - w) → ((u : ℕ) → u ≢ p → get_or up' u (pos 0) ≡ get_or up u (pos 0))
      → Passes q x up' (set down w (get_or up p (pos 0))) at' w
  turned {up'} {at'} a long due others =
      record {
        low = t.some;
        high = omega (arith, inside);
        up_room = long;
        down_room = rw length-set s.down_room;
        ahead = a;
        rising = λ u l. now u (omega arith);
        risen = λ u l m. either (ℕ_discrete u w)
            (λ e. rw e (now w (le_refl w)))
            (λ d. others u (λ e. omega (arith, parent_less)) ∙ s.risen u l (omega arith));
        kept = λ v l m. either (ℕ_discrete v w)
            (λ e. rw (e, get_or-set_same down w (get_or up p (pos 0)) (pos 0) (omega (arith, inside, t.passing.room, s.down_room)), ← t.is) holds)
            (λ d. get_or-set_other down w v (get_or up p (pos 0)) (pos 0) d ∙ s.kept v l (omega arith));
      }
    where
      now : (u : ℕ) → u ≤ w → get_or up' u (pos 0) ≡ later q x u (q.count - w)
      now u l = either (ℕ_discrete u p)
          (λ e. rw e due)
          (λ d. others u d ∙ s.rising u (omega arith) ∙ sym (later_far q x u w inside (far q.parents w u l (λ o. d (o ∙ sym t.is)))))

  pub passes_on : w ≡ at → Passes q x up (set down w (get_or up p (pos 0))) p w
  passes_on e =
      turned (rw t.is (ahead_on t.passing.grown inside s.ahead t.some e)) s.up_room
      (holds ∙ rw t.is (sym (later_towards q x w inside less (on_way t.passing.grown inside s.ahead e)))) (λ u d. refl)

  module _ (d : w ≢ at) {z : ℤ} (knows : z ≡ known q w p) where
    due : get_or up p (pos 0) +ℤ z ≡ later q x p (q.count - w)
    due = rw (knows, holds, t.is) (sym (later_child q x w inside less (off_way t.passing.grown inside s.ahead d)))

    pub due_fits : SFits w64 (get_or up p (pos 0) +ℤ z)
    due_fits = rw due (t.passing.fits p (q.count - w) (omega (arith, parent_less, inside)) (omega arith))

    pub passes_off : {y : ℤ} → y ≡ get_or up p (pos 0) +ℤ z → Passes q x (set up p y) (set down w (get_or up p (pos 0))) at w
    passes_off {y} e =
        turned (ahead_off t.passing.grown inside s.ahead d) (rw length-set s.up_room)
        (get_or-set_same up p y (pos 0) (omega (arith, parent_less, inside, t.passing.room, s.up_room)) ∙ e ∙ due)
        (λ u o. get_or-set_other up p u y (pos 0) o)

-- at last all are passed
pub passed_all : {q : View} {x : ℕ} {up down : List ℤ} {at i : ℕ} → Passes q x up down at i → i ≤ 1 → Passed q x up down
unfolding pair_at
passed_all {q} {x} {up} {down} {at} {i} s l = record { laid = λ u k a b c. rw turn_is (laid u k a b (rw turn_is at c)) }
  where
    ps : List ℕ
    ps = q.parents

    laid : (u k : ℕ) → u < q.count → k < q.count → adjacent ps k u ≡ true → pair_at (pos 0) up down u k ≡ later q x u (q.count - suc k)
    laid u k a b c = order k u
        (λ m. let e : parent ps u ≡ k = eqb-true (parent ps u) k (sym (near_below ps u k m) ∙ c) in
        rw (lt-ltb k u m) (s.risen u a (omega (arith, s.low)) ∙ sym (rw e at (later_parent q x u a (omega arith)))))
        (λ e. absurd (adjacent_ne ps k u c e))
        (λ m. let e : parent ps k ≡ u = eqb-true (parent ps k) u (sym (near_above ps u k m ∙ child_is ps u k m) ∙ c) in
        rw (le-ltb k u (omega arith)) (rw e at (s.kept k b (omega (arith, s.low)))))
