-- How a session starts: fresh and sound, or refused; and loaded as its table is read.
use mathlib.Core.Path.{◌≡◌, refl, sym, ap, ◌∙◌}
use mathlib.Core.Bool.{Bool, true, false, cond}
use mathlib.Core.Logic.{◌≢◌}
use mathlib.Core.List.{List}
use Prim.Native.Nat.{ℕ, zero, suc, ◌<◌}
use native.Mathlib.Nat.{not-suc-le-zero}
use native.Mathlib.Decide.{ℕ_discrete}
use native.Mathlib.Omega.{arith}
use lib.Dec.{ltb}
use lib.IntN.{pos}
use lib.ListN.{get_or, replicate}
use borrow.Author.Tests.{eq-eqb, ne_eqb}
use Rattle.tree.specs.Parents.{InRule, in_rule}
use Rattle.tree.specs.declared.Tree.{Tree}
use Rattle.tree.proofs.Cases.{either}
use Rattle.tree.proofs.InRule.{in_rule_exactly}
use Rattle.refusal.specs.declared.Refusal.{Refusal}
use Rattle.refusal.proofs.Numbers.{numbers_within}
use Rattle.std.specs.Prelude.{Result, Ok, Err}
use Rattle.table.specs.Reading.{reading_of}
use Rattle.table.specs.Told.{Reading, told_reading}
use Rattle.session.specs.Told.{Started, told_started}
use Rattle.table.proofs.Tables.{accepted_rule}
use Rattle.table.proofs.Verdicts.{table_ruled_exactly, reading_accepted}
use Rattle.session.specs.Holding.{pair_at}
use Rattle.session.specs.Promises.{FreshSound, FreshExactly, FreshRefusedWithZeros, LoadRefuses, LoadAccepts}
use Rattle.session.specs.Soundness.{Unused}
use Rattle.session.specs.Starting.{empty, fresh_of, zeros, started_of, loaded_of}
use Rattle.session.specs.declared.Session.{Session}
use Rattle.session.proofs.Limits.{zero_in_range}

-- ---- zeros are within every limit

-- a list of zeros is zero everywhere, and so is each pair of two such lists
pub all_same : {A : Type 0} (d : A) (n i : ℕ) → get_or (replicate n d) i d ≡ d
all_same d zero i = refl
all_same d (suc n) zero = refl
all_same d (suc n) (suc i) = all_same d n i

pub pair_same : {A : Type 0} (d : A) (u v : ℕ) → pair_at d (replicate 256 d) (replicate 256 d) u v ≡ d
unfolding pair_at
pair_same d u v = go (ltb v u)
  where
    go : (b : Bool) → cond b (get_or (replicate 256 d) u d) (get_or (replicate 256 d) v d) ≡ d
    go true = all_same d 256 u
    go false = all_same d 256 v

unused_empty : (i : ℕ) → Unused empty i
unused_empty i = record { no_lease = all_same 0 256 i; no_cache = all_same (pos 0) 256 i; no_messages = all_same 0 256 i }

pub fresh_sound : FreshSound
fresh_sound b t r =
    record {
      tree_in_rule = r;
      low = λ u v hu hv a. rw (pair_same {A = ℕ} 0 u v) (omega arith);
      ordered = λ r u v hr hu hv a b d. rw (pair_same {A = ℕ} 0 u v) (omega arith);
      caches_in = λ u v hu hv a. record { within = rw (pair_same (pos 0) u v) (zero_in_range _) };
      few = omega arith;
      paid = λ u v hu hv a. rw (pair_same {A = ℕ} 0 u v) (omega arith);
      no_pairs = λ i h u. (unused_empty i, unused_empty i);
      no_values = λ i h g. all_same (pos 0) 256 i;
    }

-- ---- what starting answers

module _ (t : Tree) where
  pub started : InRule t.parents t.count → started_of t ≡ record { refusal = 0; session = fresh_of t }
  unfolding started_of
  started r = rw ((in_rule_exactly t.parents t.count).1 r)

  not_started : in_rule t.parents t.count ≡ false → started_of t ≡ record { refusal = 6; session = zeros }
  unfolding started_of
  not_started e = rw e

pub fresh_exactly : FreshExactly
fresh_exactly t = (λ e. (in_rule_exactly t.parents t.count).0 (go (in_rule t.parents t.count) refl e), λ r. rw (started t r))
  where
    go : (b : Bool) → in_rule t.parents t.count ≡ b → (started_of t).refusal ≡ 0 → in_rule t.parents t.count ≡ true
    go true p e = p
    go false p e = let six : ◌≡◌ {A = ℕ} 6 0 = rw (not_started t p) at e in absurd (omega arith)

pub fresh_refused_with_zeros : FreshRefusedWithZeros
fresh_refused_with_zeros t h = go (in_rule t.parents t.count) refl
  where
    go : (b : Bool) → in_rule t.parents t.count ≡ b → started_of t ≡ record { refusal = 6; session = zeros }
    go true p = let none : 0 < 0 = rw (started t ((in_rule_exactly t.parents t.count).0 p)) at h in absurd (not-suc-le-zero none)
    go false p = not_started t p

-- ---- what loading answers

module _ (s : Session) (bytes : List ℕ) where
  read_rule : (reading_of bytes).refusal ≡ 0 → InRule (reading_of bytes).tree.parents (reading_of bytes).tree.count
  read_rule e = let j = (table_ruled_exactly bytes 0).0 e in rw (reading_accepted bytes j) (accepted_rule bytes j)

  pub loads : (reading_of bytes).refusal ≡ 0 → loaded_of s bytes ≡ started_of (reading_of bytes).tree
  unfolding loaded_of
  loads e = rw (eq-eqb (reading_of bytes).refusal 0 e) (sym (started (reading_of bytes).tree (read_rule e)))

  pub loads_not : (reading_of bytes).refusal ≢ 0 → loaded_of s bytes ≡ record { refusal = (reading_of bytes).refusal; session = s }
  unfolding loaded_of
  loads_not d = rw (ne_eqb (reading_of bytes).refusal 0 d)

  -- what starting a session of the tree answers, once its table is read
  pub loads_as : (t : Tree) → told_reading (Ok t) ≡ reading_of bytes → (x : Result Session Refusal) → told_started zeros x ≡ started_of t → told_started s x ≡ loaded_of s bytes
  loads_as t e (Ok a) f = f ∙ sym (loads (ap (λ (r : Reading). r.refusal) (sym e)) ∙ ap (λ (r : Reading). started_of r.tree) (sym e))
  loads_as t e (Err r) f =
      let rule : InRule t.parents t.count = rw (← e) at (read_rule (ap (λ (r : Reading). r.refusal) (sym e))) in
      absurd (omega (arith, numbers_within r, ap (λ (y : Started). y.refusal) (f ∙ started t rule)))

  -- an accepted load is an accepted table
  pub read_well : (loaded_of s bytes).refusal ≡ 0 → (reading_of bytes).refusal ≡ 0
  read_well e = either (ℕ_discrete (reading_of bytes).refusal 0) (λ z. z) (λ d. absurd (d (rw (loads_not d) at e)))

pub load_refuses : LoadRefuses
load_refuses s bytes h = loads_not s bytes (omega arith)

pub load_accepts : LoadAccepts
load_accepts s bytes t e =
    let z : (reading_of bytes).refusal ≡ 0 = rw e in
    let r : InRule t.parents t.count = rw e at (read_rule s bytes z) in
    ((rw e at (loads s bytes z)) ∙ started t r, r)
