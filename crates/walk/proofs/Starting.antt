-- A write's walk can start at any node of a sound session.
use mathlib.Core.List.{List}
use Prim.Native.Nat.{ℕ, ◌<◌}
use native.Mathlib.Nat.{le_refl}
use lib.IntN.{ℤ, pos}
use Rattle.tree.proofs.Ranges.{range_of_one}
use Rattle.session.specs.Holding.{value_of, Typed}
use Rattle.session.specs.Soundness.{Sound}
use Rattle.session.specs.declared.Session.{Session}
use Rattle.mechanism.specs.Views.{View, view}
use Rattle.walk.specs.inner.Links.{Linked}
use Rattle.walk.specs.inner.Laters.{later, Passing, Passed}
use Rattle.walk.specs.inner.Telling.{Steady, Spreading}
use Rattle.walk.proofs.Reaching.{range_wide, later_in}
use Rattle.walk.proofs.Coming.{come_first}

pub sound_steady : (b : ℕ) (s : Session) → Typed s → Sound b s → Steady (view s)
sound_steady b s typed i =
    record {
      room = i.tree_in_rule.few;
      grown = i.tree_in_rule.grown;
      ordered = i.ordered;
      values_in = λ u. (range_of_one (value_of s u)).1 (typed.values_small u);
      caches_in = λ u v hu hv a d. i.caches_in u v hu hv a;
    }

module _ {q : View} {x : ℕ} (steady : Steady q) (hx : x < q.count) where
  pub passing : Passing q x
  passing =
      record {
        room = steady.room;
        inside = hx;
        grown = steady.grown;
        fits = λ u m hu l. range_wide q.count q.count (later q x u m) steady.room (le_refl q.count) (later_in q steady x u m hu l);
      }

  pub spreading_first : {first next : List ℕ} {later_up later_down : List ℤ} → Linked q.count q.parents first next → Passed q x later_up later_down
      → Spreading q first next later_up later_down x x (pos 0)
  spreading_first linked passed =
      record { x = x; start = hx; inside = hx; come = hx; steady = steady; linked = linked; passed = passed; told = come_first q x steady.grown hx }
