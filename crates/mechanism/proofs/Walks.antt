-- What the requests of a sound session say, as tours.
use mathlib.Core.Path.{◌≡◌}
use Prim.Native.Nat.{ℕ, ◌<◌}
use lib.IntN.{ℤ}
use Rattle.tree.specs.Operation.{Op}
use Rattle.tree.specs.inner.Tours.{tour}
use Rattle.session.specs.Soundness.{Sound}
use Rattle.session.specs.declared.Session.{Session}
use Rattle.mechanism.specs.Views.{view}
use Rattle.mechanism.specs.Requests.{valued, combines, writes}
use Rattle.mechanism.proofs.Asking.{asks, probes, responses, combine_tour}
use Rattle.mechanism.proofs.Telling.{tells, updates, releases, write_tour}

module _ (op : Op ℤ) (b : ℕ) (s : Session) (i : Sound b s) (x : ℕ) (hx : x < s.tree.count) where
  pub combines_tour : (combines op s x).log ≡ tour s.tree.parents s.tree.count (asks (view s)) probes (responses op (view s)) s.tree.count x
  unfolding combines
  combines_tour = combine_tour op (view s) i.tree_in_rule.grown x hx

  pub writes_tour : (z : ℤ) → writes op s x z ≡ tour s.tree.parents s.tree.count (tells (view s)) (updates op (view (valued s x z)) x) (releases (view s)) s.tree.count x
  unfolding writes
  writes_tour z = write_tour op (view (valued s x z)) x i.tree_in_rule.grown hx
