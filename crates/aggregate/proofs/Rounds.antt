-- A way round a node stays by its links and its tree, and says in their words what a call gives.
use mathlib.Core.Path.{◌≡◌, ◌∙◌}
use Prim.Native.Nat.{ℕ}
use Rattle.std.specs.Prelude.{Some, None}
use Rattle.tree.specs.declared.Tree.{Tree}
use Rattle.walk.specs.inner.Links.{Turned}
use Rattle.aggregate.specs.inner.Rounds.{Round, Goes}
use Rattle.aggregate.specs.declared.links.Links.{Links}
use Rattle.aggregate.specs.declared.links.Neighbours.{Neighbours}

module _ {links : Links} {tree : Tree} {u : ℕ} {s : Neighbours} (h : Round links tree u s) where
  pub round_on : {t : Neighbours} → Round s.links.now s.tree.now s.node t → Round links tree u t
  round_on g = record { by = g.by ∙ h.by; of = g.of ∙ h.of; at = g.at ∙ h.at }

  pub turned : {w : ℕ} {t : Neighbours} → Goes s (Some w) t → Turned tree.count tree.parents u s.place w t.place
  turned g = rw (h.of, h.at) at g.1

  pub ended : {t : Neighbours} → Goes s None t → s.place ≡ tree.count
  ended g = rw h.of at g.1
