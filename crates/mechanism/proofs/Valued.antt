-- The values of a session with z as the value of x.
use mathlib.Core.Path.{◌≡◌, ◌∙◌}
use mathlib.Core.Bool.{true}
use mathlib.Core.Logic.{◌≢◌}
use Prim.Native.Nat.{ℕ, ◌<◌}
use native.Mathlib.Decide.{ℕ_discrete}
use native.Mathlib.Omega.{arith}
use lib.IntN.{ℤ, pos}
use lib.ListN.{length-set}
use lib.Seq.{get_or-set_same, get_or-set_other}
use Rattle.twos.specs.Twos.{within}
use Rattle.tree.proofs.Cases.{either}
use Rattle.session.specs.Holding.{value_of, Typed}
use Rattle.session.specs.Soundness.{Sound}
use Rattle.session.specs.declared.Session.{Session}
use Rattle.mechanism.specs.Requests.{valued}

module _ (s : Session) (x : ℕ) (z : ℤ) where
  pub valued_off : (u : ℕ) → u ≢ x → value_of (valued s x z) u ≡ value_of s u
  valued_off u d = get_or-set_other s.values x u z (pos 0) d

  -- what holds of z and of all values holds of all values then
  pub valued_has : (P : ℤ → Type 0) → Typed s → x < 256 → P z → ((u : ℕ) → P (value_of s u)) → (u : ℕ) → P (value_of (valued s x z) u)
  valued_has P t h new old u = either (ℕ_discrete u x)
      (λ e. rw (e, get_or-set_same s.values x z (pos 0) (omega (arith, t.values_long))) new)
      (λ d. rw (valued_off u d) (old u))

-- a sound session is sound with a new value at a node
pub valued_sound : {b : ℕ} (s : Session) (x : ℕ) (z : ℤ) → Sound b s → x < s.tree.count → Sound b (valued s x z)
valued_sound s x z i h =
    record {
      tree_in_rule = i.tree_in_rule;
      low = i.low;
      ordered = i.ordered;
      caches_in = i.caches_in;
      few = i.few;
      paid = i.paid;
      no_pairs = i.no_pairs;
      no_values = λ j l m. valued_off s x z j (omega arith) ∙ i.no_values j l m;
    }

pub valued_typed : (s : Session) (x : ℕ) (z : ℤ) → Typed s → x < 256 → within 32 z ≡ true → Typed (valued s x z)
valued_typed s x z t h small =
    record {
      parents_long = t.parents_long;
      values_long = rw length-set t.values_long;
      values_small = valued_has s x z (λ v. within 32 v ≡ true) t h small t.values_small;
      up_long = t.up_long;
      down_long = t.down_long;
    }
