-- The write's walk, step by step: what each way through `tell` and each turn of `spread` adds.
use mathlib.Core.Path.{◌≡◌, refl, sym, ap, ap₂, ◌∙◌}
use mathlib.Core.Bool.{true, false, and-false}
use mathlib.Core.Logic.{◌≢◌}
use mathlib.Core.List.{List, [], ◌∷◌, ◌++◌, append-nil}
use Prim.Native.Nat.{ℕ, zero, suc, ◌+◌, ◌-◌, ◌<◌}
use native.Mathlib.Nat.{le_refl}
use native.Mathlib.Numerals.{add-one, sub-one}
use native.Mathlib.Omega.{arith}
use lib.IntN.{ℤ, pos, ◌+ℤ◌}
use mir.Syntax.{w64}
use mir.Val.{SFits}
use borrow.Author.Tests.{eq-eqb, ne_eqb}
use Rattle.tree.specs.Operation.{sum}
use Rattle.tree.specs.Ranges.{Range}
use Rattle.tree.specs.Sides.{adjacent, other}
use Rattle.tree.specs.Sizes.{size}
use Rattle.tree.specs.Turns.{turn, joined}
use Rattle.tree.proofs.Turns.{turn_inside}
use Rattle.messages.specs.declared.Message.{Message}
use Rattle.messages.specs.declared.Message.TheVariants.{Update, Release}
use Rattle.session.specs.Holding.{pair_at}
use Rattle.mechanism.specs.Views.{View}
use Rattle.mechanism.specs.Spreading.{add_if, carried, sends, spread}
use Rattle.mechanism.proofs.Others.{size_most}
use Rattle.trace.specs.declared.Trace.{Trace}
use Rattle.trace.specs.inner.Traces.{pushed, pushed_all}
use Rattle.walk.specs.inner.Links.{Found, neighbour_at, Turned}
use Rattle.walk.specs.inner.Laters.{known}
use Rattle.walk.specs.inner.Telling.{before, Spreading, Telling, Spread, Told}
use Rattle.walk.proofs.Finding.{found_same}
use Rattle.walk.proofs.Pushing.{pushed_all-none, pushed_all-append, pushed_all-told, pushed_all-asked}
use Rattle.walk.proofs.Split.{split}
use Rattle.walk.proofs.Reaching.{range_wide, before_in, carried_in}
use Rattle.walk.proofs.Coming.{come_on}

-- ---- what u, told z by v, sends to w; l is what `Ground::lease` returned

abbrev sends_to : View → ℕ → ℕ → ℕ → ℤ → ℕ → List Message
sends_to q f u v z w = sends sum q (other q.parents u v w) (q.lease u w) (spread sum q f) u v z w

module _ (q : View) (u v w : ℕ) where
  other_back : w ≡ v → other q.parents u v w ≡ false
  other_back e = rw (eq-eqb v w (sym e), and-false)

  other_far : adjacent q.parents w u ≡ false → other q.parents u v w ≡ false
  other_far e = rw e

  other_yes : adjacent q.parents w u ≡ true → w ≢ v → other q.parents u v w ≡ true
  other_yes a d = rw (a, ne_eqb v w (λ e. d (sym e)))

  module _ (f : ℕ) (z : ℤ) where
    sends_not : other q.parents u v w ≡ false → sends_to q f u v z w ≡ []
    unfolding sends
    sends_not e = rw e

    module _ (yes : other q.parents u v w ≡ true) {l : ℕ} (leased : l ≡ q.lease u w) where
      sends_none : l ≡ 0 → sends_to q f u v z w ≡ []
      unfolding sends
      sends_none e = rw (yes, ← leased, e)

      sends_last : l ≡ 1 → sends_to q f u v z w ≡ Update u w (carried sum q u v z w) ∷ (spread sum q f w u (carried sum q u v z w) ++ (Release w u ∷ []))
      unfolding sends
      sends_last e = rw (yes, ← leased, e)

      sends_more : l ≢ 0 → l ≢ 1 → sends_to q f u v z w ≡ Update u w (carried sum q u v z w) ∷ spread sum q f w u (carried sum q u v z w)
      unfolding sends
      sends_more some d = rw yes (go (q.lease u w) (rw leased at some) (rw leased at d))
        where
          go : (l : ℕ) → l ≢ 0 → l ≢ 1 → sends sum q true l (spread sum q f) u v z w ≡ Update u w (carried sum q u v z w) ∷ spread sum q f w u (carried sum q u v z w)
          go zero a b = absurd (a refl)
          go (suc zero) a b = absurd (b refl)
          go (suc (suc l)) a b = rw append-nil

-- ---- the ways through `tell`: what each leaves, and that its sums fit; a is what u knows of w, b what comes after w

module _ {q : View} {u v : ℕ} {z : ℤ} {w : ℕ} {y : ℤ} where
  pub told_back : w ≡ v → {f : ℕ} {t : Trace} → Told q f u v z w y t y t
  told_back e {f} {t} = record { sums = rw (other_back q u v w e); logs = rw (sends_not q u v w f z (other_back q u v w e), pushed_all-none t) }

  module _ {first next : List ℕ} {later_up later_down : List ℤ} (h : Telling q first next later_up later_down u v z w y) where
    here : w < q.count
    here = rw h.turned at (turn_inside q.count u h.spreading.inside h.place h.inside)

    pub both_small : (u < 256) × (w < 256)
    both_small = (omega (arith, h.spreading.inside, h.spreading.steady.room), omega (arith, here, h.spreading.steady.room))

  module _ {first next : List ℕ} {later_up later_down : List ℤ} (h : Telling q first next later_up later_down u v z w y) (d : w ≢ v) where
    abbrev at : Spreading q first next later_up later_down u v z
    at = h.spreading

    yes : other q.parents u v w ≡ true
    yes = other_yes q u v w h.beside d

    pub adds_fits : {a : ℤ} → a ≡ known q w u → SFits w64 (y +ℤ a)
    unfolding before
    adds_fits {a} e =
        range_wide q.count q.count (y +ℤ a) at.steady.room (le_refl q.count)
        (rw (e, h.sums) (rw (h.turned, yes) at (before_in q at.steady at.x u v z at.told at.inside at.come (suc h.place) h.inside)))

    pub told_none : {a y' : ℤ} → a ≡ known q w u → y' ≡ y +ℤ a → {l : ℕ} → l ≡ q.lease u w → l ≡ 0 → {f : ℕ} {t : Trace} → Told q f u v z w y t y' t
    told_none e i leased n {f} {t} = record { sums = rw (yes, ← e) i; logs = rw (sends_none q u v w f z yes leased n, pushed_all-none t) }

    module _ {l : ℕ} (leased : l ≡ q.lease u w) (some : l ≢ 0) {b : ℤ} (laid : b ≡ pair_at (pos 0) later_up later_down u w) where
      -- what u sends to w: its sum before w, and what was laid by
      whole : y +ℤ b ≡ carried sum q u v z w
      whole = sym (
          split q at.x u v z w h.place at.steady at.told at.inside at.come h.inside h.turned yes (rw leased at some)
          ∙ ap₂ ◌+ℤ◌ (sym h.sums) (sym (laid ∙ rw h.turned at (at.passed.laid u h.place at.inside h.inside (rw h.turned h.beside)))))

      part : Range (size q.parents q.count u w) (y +ℤ b)
      part = rw whole (carried_in q at.steady at.x u v z at.told at.inside at.come w (here h) yes (rw leased at some))

      pub sends_fits : SFits w64 (y +ℤ b)
      sends_fits =
          range_wide q.count (size q.parents q.count u w) (y +ℤ b) at.steady.room (size_most q.parents q.count at.steady.grown u w at.inside (here h) h.beside) part

      module _ {p : ℤ} (e : p ≡ y +ℤ b) where
        pub spreading_on : Spreading q first next later_up later_down w u p
        spreading_on =
            record {
              x = at.x;
              start = at.start;
              inside = here h;
              come = at.inside;
              steady = at.steady;
              linked = at.linked;
              passed = at.passed;
              told = come_on q at.x at.steady.grown at.start u v w z p at.inside (here h) at.told yes (rw e part);
            }

        same : p ≡ carried sum q u v z w
        same = e ∙ whole

        -- an update, what is said beyond it, and a release where the number falls to 0
        module _ {a y' : ℤ} (adds : a ≡ known q w u) (i : y' ≡ y +ℤ a) {f : ℕ} {t t₁ t₂ : Trace} (pushes : t₁ ≡ pushed (Update u w p) t) (goes : Spread q f w u p t₁ t₂) where
          pub told_last : l ≡ 1 → {t₃ : Trace} → t₃ ≡ pushed (Release w u) t₂ → Told q f u v z w y t y' t₃
          told_last n r =
              record {
                sums = rw (yes, ← adds) i;
                logs = rw (sends_last q u v w f z yes leased n, ← same) (pushed_all-asked (Update u w p) (Release w u) (spread sum q f w u p) t pushes goes.logs r);
              }

          pub told_more : l ≢ 1 → Told q f u v z w y t y' t₂
          told_more n =
              record { sums = rw (yes, ← adds) i; logs = rw (sends_more q u v w f z yes leased some n, ← same) (pushed_all-told (Update u w p) (spread sum q f w u p) t pushes goes.logs) }

-- ---- the turns of `spread`

-- what u, told z by v, sends to its first k candidates
abbrev sent : View → ℕ → ℕ → ℕ → ℤ → ℕ → List Message
sent q f u v z k = joined (λ j. sends_to q f u v z (turn q.count u j)) k

-- its sum before the place k, and its messages after those of t
pub record Partly (q : View) (f u v : ℕ) (z : ℤ) (k : ℕ) (t : Trace) (y : ℤ) (t' : Trace) : Type 0 where
  pub sums : y ≡ before q u v z k
  pub logs : t' ≡ pushed_all (sent q f u v z k) t

module _ (q : View) (u v : ℕ) (z : ℤ) where
  before_next : (k : ℕ) → before q u v z (k + 1) ≡ add_if sum q (other q.parents u v (turn q.count u k)) (before q u v z k) (known q (turn q.count u k) u)
  unfolding before
  before_next k = rw add-one

  sent_next : (f k : ℕ) → sent q f u v z (k + 1) ≡ sent q f u v z k ++ sends_to q f u v z (turn q.count u k)
  unfolding joined
  sent_next f k = rw add-one

  -- candidates that are no neighbours change nothing, so a walk may go from neighbour to neighbour
  before_far : (k : ℕ) → neighbour_at q.count q.parents u k ≡ false → before q u v z (k + 1) ≡ before q u v z k
  unfolding neighbour_at
  before_far k e = rw (before_next k, other_far q u v (turn q.count u k) e)

  sent_far : (f k : ℕ) → neighbour_at q.count q.parents u k ≡ false → sent q f u v z (k + 1) ≡ sent q f u v z k
  unfolding neighbour_at
  sent_far f k e = sent_next f k ∙ ap (λ s. sent q f u v z k ++ s) (sends_not q u v (turn q.count u k) f z (other_far q u v (turn q.count u k) e)) ∙ append-nil (sent q f u v z k)

  spread_some : (f : ℕ) → f ≢ 0 → spread sum q f u v z ≡ sent q (f - 1) u v z q.count
  unfolding spread
  spread_some zero d = absurd (d refl)
  spread_some (suc f) d = rw sub-one

module _ {q : View} {u v : ℕ} {z : ℤ} where
  pub start_fits : {first next : List ℕ} {later_up later_down : List ℤ} → Spreading q first next later_up later_down u v z → SFits w64 (q.value u +ℤ z)
  unfolding before
  start_fits s =
      range_wide q.count q.count (q.value u +ℤ z) s.steady.room (le_refl q.count) (before_in q s.steady s.x u v z s.told s.inside s.come 0 (omega arith))

  partly_far : {f k r : ℕ} {t t' : Trace} {y : ℤ} → Found q.count (neighbour_at q.count q.parents u) k r → Partly q f u v z k t y t' → Partly q f u v z r t y t'
  partly_far {f} {t = t} h a =
      record {
        sums = a.sums ∙ sym (found_same (before q u v z) (before_far q u v z) h);
        logs = a.logs ∙ ap (λ s. pushed_all s t) (sym (found_same (sent q f u v z) (sent_far q u v z f) h));
      }

  pub partly_first : {f r : ℕ} {t : Trace} {y : ℤ} → Found q.count (neighbour_at q.count q.parents u) 0 r → y ≡ q.value u +ℤ z → Partly q f u v z r t y t
  unfolding before joined pushed_all
  partly_first h e = partly_far h (record { sums = e; logs = refl })

  module _ {f : ℕ} {t : Trace} {k w r : ℕ} (g : Turned q.count q.parents u k w r) {y : ℤ} {t₁ : Trace} (a : Partly q f u v z k t y t₁) where
    pub telling : {first next : List ℕ} {later_up later_down : List ℤ} → Spreading q first next later_up later_down u v z → Telling q first next later_up later_down u v z w y
    unfolding neighbour_at
    telling s = record { spreading = s; place = k; inside = g.place; turned = sym g.turned; beside = rw g.turned g.beside; sums = a.sums }

    pub partly_next : {y' : ℤ} {t₂ : Trace} → Told q f u v z w y t₁ y' t₂ → Partly q f u v z r t y' t₂
    partly_next b =
        partly_far g.next
        (record {
          sums = rw (before_next q u v z k, ← g.turned, ← a.sums) b.sums;
          logs = rw (sent_next q u v z f k, pushed_all-append, ← g.turned, ← a.logs) b.logs;
        })

  pub spread_all : {f k : ℕ} {t t' : Trace} {y : ℤ} → f ≢ 0 → k ≡ q.count → Partly q (f - 1) u v z k t y t' → Spread q f u v z t t'
  spread_all {f} d e a = record { logs = rw (spread_some q u v z f d) (rw e at a.logs) }

  pub spread_none : {f : ℕ} {t : Trace} → f ≡ 0 → Spread q f u v z t t
  unfolding spread pushed_all
  spread_none e = record { logs = rw e }
