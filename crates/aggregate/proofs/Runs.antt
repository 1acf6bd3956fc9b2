-- Requests one by one: what holds from turn to turn holds of all, and how far they come.
use mathlib.Core.Path.{◌≡◌, refl}
use mathlib.Core.Bool.{cond}
use mathlib.Core.List.{List, [], ◌∷◌}
use Prim.Native.Nat.{ℕ, zero, suc, ◌+◌, ◌<◌, ◌≤◌}
use native.Mathlib.Omega.{arith}
use lib.Dec.{eqb}
use lib.IntN.{ℤ}
use lib.ListN.{length, take, length-set}
use borrow.Author.Tests.{ne_eqb}
use Rattle.requests.specs.Lists.{Sized, AllSized, combines_in}
use Rattle.requests.specs.declared.Request.{Request}
use Rattle.requests.specs.declared.Request.TheVariants.{Combine, Write}
use Rattle.aggregate.specs.Running.{Running, in_turn, stored, done, Ended, runs, Serves, all_done, stopped, accepted, spoken_in}

-- there are as many answer places as before
pub stored_length : (r : Request) (z : ℤ) (k : ℕ) (answers : List ℤ) → length (stored r z k answers) ≡ length answers
stored_length (Combine x) z k answers = length-set answers k z
stored_length (Write x v) z k answers = refl

-- what comes of the first request's refusal
abbrev from : ℕ → Ended → Running → Ended
from n e o = cond (eqb n 0) e (record { refusal = n; reached = o })

refused_there : (n : ℕ) (e : Ended) (o : Running) → from (suc n) e o ≡ record { refusal = suc n; reached = o }
refused_there n e o = rw (ne_eqb (suc n) 0 (omega arith))

-- a relation that a request which is accepted keeps holds between the first turn and the last
module _ (P : Running → Running → Type 0) (none : (o : Running) → P o o) (more : (r : Request) (o o' : Running) → Sized r → (in_turn r o).outcome.refusal ≡ 0 → P (done r o) o' → P o o') where
  pub along : (rs : List Request) (o : Running) → AllSized rs → P o (runs rs o).reached
  unfolding runs
  along [] o sized = none o
  along (r ∷ rs) o sized = go (along rs (done r o) sized.1) (in_turn r o).outcome.refusal refl
    where
      go : P (done r o) (runs rs (done r o)).reached → (n : ℕ) → (in_turn r o).outcome.refusal ≡ n → P o (from n (runs rs (done r o)) o).reached
      go rest zero e = more r o (runs rs (done r o)).reached sized.0 e rest
      go rest (suc n) e = rw (refused_there n (runs rs (done r o)) o) (none o)

pub serves : (rs : List Request) (o : Running) → Serves (runs rs o).refusal (runs rs o).reached rs o
unfolding runs
serves [] o = all_done refl
serves (r ∷ rs) o = go (serves rs (done r o)) (in_turn r o).outcome.refusal refl
  where
    go : Serves (runs rs (done r o)).refusal (runs rs (done r o)).reached rs (done r o) → (n : ℕ) → (in_turn r o).outcome.refusal ≡ n → Serves (from n (runs rs (done r o)) o).refusal (from n (runs rs (done r o)) o).reached (r ∷ rs) o
    go rest zero e = accepted r rs o e rest
    go rest (suc n) e = rw (refused_there n (runs rs (done r o)) o) (stopped r rs (omega arith) e)

-- how far requests come: k of them are done, which would have been accepted alone and have said as much
pub record Reach (rs : List Request) (o : Running) (n : ℕ) (o' : Running) : Type 0 where
  pub k : ℕ
  pub counted : o'.totals.requests ≡ o.totals.requests + k
  pub within : k ≤ length rs
  pub alone : runs (take k rs) o ≡ record { refusal = 0; reached = o' }
  pub spoken : spoken_in (take k rs) o ≡ spoken_in rs o
  pub all : n ≡ 0 → (k ≡ length rs) × (o'.totals.answers ≡ o.totals.answers + combines_in rs)
  pub short : 0 < n → k < length rs

pub reach : (rs : List Request) (o : Running) → Reach rs o (runs rs o).refusal (runs rs o).reached
unfolding runs combines_in done spoken_in
reach [] o = record { k = 0; counted = omega arith; within = omega arith; alone = refl; spoken = refl; all = λ e. (refl, omega arith); short = λ h. absurd (omega arith) }
reach (r ∷ rs) o = go (reach rs (done r o)) (in_turn r o).outcome.refusal refl
  where
    go : Reach rs (done r o) (runs rs (done r o)).refusal (runs rs (done r o)).reached → (n : ℕ) → (in_turn r o).outcome.refusal ≡ n → Reach (r ∷ rs) o (from n (runs rs (done r o)) o).refusal (from n (runs rs (done r o)) o).reached
    go l zero e =
        record {
          k = suc l.k;
          counted = omega (arith, l.counted);
          within = omega (arith, l.within);
          alone = rw e l.alone;
          spoken = rw (e, l.spoken);
          all = λ z. let a = l.all z in (omega (arith, a.0), omega (arith, a.1));
          short = λ h. omega (arith, l.short h);
        }
    go l (suc n) e =
        rw (refused_there n (runs rs (done r o)) o)
        (record { k = 0; counted = omega arith; within = omega arith; alone = refl; spoken = rw (e, ne_eqb (suc n) 0 (omega arith)); all = λ z. absurd (omega arith); short = λ h. omega arith })

-- the first of sized requests are sized
pub sized_first : (k : ℕ) (rs : List Request) → AllSized rs → AllSized (take k rs)
sized_first zero rs sized = tt
sized_first (suc k) [] sized = tt
sized_first (suc k) (r ∷ rs) sized = (sized.0, sized_first k rs sized.1)

-- as many combines among the first as among all, at most
pub combines_first : (k : ℕ) (rs : List Request) → combines_in (take k rs) ≤ combines_in rs
unfolding combines_in
combines_first zero rs = omega arith
combines_first (suc k) [] = omega arith
combines_first (suc k) (r ∷ rs) = omega (arith, combines_first k rs)
