-- The combine's walk, step by step: what each way through `visit` and each turn of `ask` adds.
use mathlib.Core.Path.{◌≡◌, refl, sym, ◌∙◌}
use mathlib.Core.Bool.{Bool, true, false, and-false}
use mathlib.Core.Logic.{◌≢◌}
use mathlib.Core.List.{List, [], ◌++◌, append-nil}
use Prim.Native.Nat.{ℕ, zero, suc, ◌+◌, ◌-◌}
use native.Mathlib.Numerals.{add-one, sub-one}
use native.Mathlib.Omega.{arith}
use lib.IntN.{ℤ, ◌+ℤ◌}
use mir.Syntax.{w64}
use mir.Val.{SFits}
use borrow.Author.Tests.{eq-eqb, ne_eqb}
use Rattle.tree.specs.Operation.{sum}
use Rattle.tree.specs.Sides.{adjacent, other}
use Rattle.tree.specs.Turns.{turn}
use Rattle.messages.specs.declared.Message.TheVariants.{Probe, Response}
use Rattle.mechanism.specs.Views.{View}
use Rattle.mechanism.specs.Combining.{Said, said, asked, heard, step_if, sofar, ask}
use Rattle.trace.specs.declared.Trace.{Trace}
use Rattle.trace.specs.inner.Traces.{pushed, pushed_all}
use Rattle.walk.specs.inner.Links.{Found, neighbour_at, Turned}
use Rattle.walk.specs.inner.Asking.{Asking, Visiting, Replied, Visited}
use Rattle.walk.proofs.Finding.{found_same}
use Rattle.walk.proofs.Neighbours.{beside_inside}
use Rattle.walk.proofs.Pushing.{pushed_all-none, pushed_all-append, pushed_all-asked}

-- ---- a step by its ways; l is what `Ground::lease` returned

-- what u, come from v, adds to acc for w
abbrev step : View → (ℕ → ℕ → Said) → ℕ → ℕ → ℕ → Said → Said
step q next u v w acc = step_if sum q (other q.parents u v w) next u w acc

module _ (q : View) (next : ℕ → ℕ → Said) (u v w : ℕ) (acc : Said) where
  -- the neighbour that u is come from, and a candidate that is no neighbour, change nothing
  step_back : w ≡ v → step q next u v w acc ≡ acc
  unfolding step_if
  step_back e = rw (eq-eqb v w (sym e), and-false)

  step_far : adjacent q.parents w u ≡ false → step q next u v w acc ≡ acc
  unfolding step_if
  step_far e = rw e

  module _ (beside : adjacent q.parents w u ≡ true) (d : w ≢ v) {l : ℕ} (leased : l ≡ q.lease w u) where
    step_kept : l ≢ 0 → step q next u v w acc ≡ said (acc.sum +ℤ q.cache w u) (acc.log ++ [])
    unfolding step_if heard
    step_kept some = rw (beside, ne_eqb v w (λ e. d (sym e)), ← leased, ne_eqb l 0 some)

    step_asked : l ≡ 0 → step q next u v w acc ≡ said (acc.sum +ℤ (next w u).sum) (acc.log ++ (asked sum q u w (next w u)).log)
    unfolding step_if heard
    step_asked none = rw (beside, ne_eqb v w (λ e. d (sym e)), ← leased, eq-eqb l 0 none)

-- ---- the three ways through `visit`: what each leaves, and that its sum fits; y is what is added to the sum

module _ {q : View} {f u v w : ℕ} {z : ℤ} where
  pub visited_back : w ≡ v → {t : Trace} → Visited q f u v w z t z t
  visited_back e {t} = record { sums = rw (step_back q (ask sum q f) u v w (said z []) e); logs = rw (step_back q (ask sum q f) u v w (said z []) e, pushed_all-none t) }

  module _ {first next : List ℕ} (h : Visiting q first next f u v w z) (d : w ≢ v) {l : ℕ} (leased : l ≡ q.lease w u) where
    module _ (some : l ≢ 0) {y : ℤ} (k : y ≡ q.cache w u) where
      kept : step q (ask sum q f) u v w (said z []) ≡ said (z +ℤ q.cache w u) []
      kept = step_kept q (ask sum q f) u v w (said z []) h.beside d leased some

      pub kept_fits : SFits w64 (z +ℤ y)
      kept_fits = rw k (rw kept at h.fits)

      pub visited_kept : {z' : ℤ} {t : Trace} → z' ≡ z +ℤ y → Visited q f u v w z t z' t
      visited_kept {t = t} e = record { sums = rw (kept, ← k) e; logs = rw (kept, pushed_all-none t) }

    module _ (none : l ≡ 0) {y : ℤ} {t₁ t₂ : Trace} (told : Replied q f w u t₁ y t₂) where
      answered : step q (ask sum q f) u v w (said z []) ≡ said (z +ℤ (ask sum q f w u).sum) (asked sum q u w (ask sum q f w u)).log
      answered = step_asked q (ask sum q f) u v w (said z []) h.beside d leased none

      pub asked_fits : SFits w64 (z +ℤ y)
      asked_fits = rw told.sums (rw answered at h.fits)

      pub visited_asked : {z' : ℤ} {t t₃ : Trace} → t₁ ≡ pushed (Probe u w) t → t₃ ≡ pushed (Response w u y) t₂ → z' ≡ z +ℤ y → Visited q f u v w z t z' t₃
      visited_asked {t = t} p r e =
          record { sums = rw (answered, ← told.sums) e; logs = rw (answered, ← told.sums) (pushed_all-asked (Probe u w) (Response w u y) (ask sum q f w u).log t p told.logs r) }

-- ---- the turns of `ask`

-- what u, come from v, said of its first k candidates: its sum, and its messages after those of t
pub record Partly (q : View) (f u v k : ℕ) (t : Trace) (z : ℤ) (t' : Trace) : Type 0 where
  pub sums : z ≡ (sofar sum q (ask sum q f) u v k).sum
  pub logs : t' ≡ pushed_all (sofar sum q (ask sum q f) u v k).log t

sofar_next : (q : View) (next : ℕ → ℕ → Said) (u v k : ℕ) → sofar sum q next u v (k + 1) ≡ step q next u v (turn q.count u k) (sofar sum q next u v k)
unfolding sofar
sofar_next q next u v k = rw add-one

-- candidates that are no neighbours change nothing, so a walk may go from neighbour to neighbour
sofar_far : (q : View) (next : ℕ → ℕ → Said) (u v k : ℕ) → neighbour_at q.count q.parents u k ≡ false → sofar sum q next u v (k + 1) ≡ sofar sum q next u v k
unfolding neighbour_at
sofar_far q next u v k e = sofar_next q next u v k ∙ step_far q next u v (turn q.count u k) (sofar sum q next u v k) e

-- a step's messages stand after those before it, and depend on the sum alone
step_if-split : (q : View) (b : Bool) (next : ℕ → ℕ → Said) (u w : ℕ) (acc : Said)
    → step_if sum q b next u w acc ≡ said (step_if sum q b next u w (said acc.sum [])).sum (acc.log ++ (step_if sum q b next u w (said acc.sum [])).log)
unfolding step_if
step_if-split q true next u w acc = refl
step_if-split q false next u w acc = rw append-nil

step_split : (q : View) (next : ℕ → ℕ → Said) (u v w : ℕ) (acc : Said)
    → step q next u v w acc ≡ said (step q next u v w (said acc.sum [])).sum (acc.log ++ (step q next u v w (said acc.sum [])).log)
step_split q next u v w acc = step_if-split q (other q.parents u v w) next u w acc

ask_some : (q : View) (f u v : ℕ) → f ≢ 0 → ask sum q f u v ≡ sofar sum q (ask sum q (f - 1)) u v q.count
unfolding ask
ask_some q zero u v d = absurd (d refl)
ask_some q (suc f) u v d = rw sub-one

partly_far : {q : View} {f u v k r : ℕ} {t t' : Trace} {z : ℤ} → Found q.count (neighbour_at q.count q.parents u) k r → Partly q f u v k t z t' → Partly q f u v r t z t'
partly_far {q} {f} {u} {v} h a =
    let e = sym (found_same (sofar sum q (ask sum q f) u v) (sofar_far q (ask sum q f) u v) h) in
    record { sums = rw e at a.sums; logs = rw e at a.logs }

module _ {q : View} {f u v : ℕ} {z : ℤ} {t : Trace} where
  pub partly_first : {r : ℕ} → Found q.count (neighbour_at q.count q.parents u) 0 r → z ≡ q.value u → Partly q f u v r t z t
  unfolding sofar pushed_all
  partly_first h e = partly_far h (record { sums = e; logs = refl })

  pub told_none : f ≡ 0 → z ≡ q.value u → Replied q f u v t z t
  unfolding ask pushed_all
  told_none e h = record { sums = rw e h; logs = rw e }

  pub told_all : {k : ℕ} {t' : Trace} → f ≢ 0 → k ≡ q.count → Partly q (f - 1) u v k t z t' → Replied q f u v t z t'
  told_all d e a = record { sums = rw (ask_some q f u v d) (rw e at a.sums); logs = rw (ask_some q f u v d) (rw e at a.logs) }

  module _ {k w r : ℕ} (g : Turned q.count q.parents u k w r) where
    pub visiting : {first next : List ℕ} {t' : Trace} → Asking q first next u v → Partly q f u v k t z t' → Visiting q first next f u v w z
    unfolding neighbour_at
    visiting p a =
        record {
          asking = p;
          there = beside_inside p.inside g;
          beside = rw g.turned g.beside;
          fits = rw (a.sums, g.turned) (rw (sofar_next, step_split) at (p.fit.fit f u v (k + 1) p.inside p.come (omega (arith, g.place))));
        }

    pub partly_next : {z' : ℤ} {t₁ t₂ : Trace} → Partly q f u v k t z t₁ → Visited q f u v w z t₁ z' t₂ → Partly q f u v r t z' t₂
    partly_next a b =
        partly_far g.next
        (record {
          sums = rw (sofar_next, step_split, ← g.turned, ← a.sums) b.sums;
          logs = rw (sofar_next, step_split, pushed_all-append, ← g.turned, ← a.sums, ← a.logs) b.logs;
        })
