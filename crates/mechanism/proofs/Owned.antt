-- Every message of a request is of a pair of neighbours in the tree.
use mathlib.Core.Path.{◌∙◌}
use mathlib.Core.List.{List, [], ◌∷◌, ◌++◌}
use Prim.Native.Nat.{ℕ, zero, suc, ◌<◌}
use lib.IntN.{ℤ}
use Rattle.tree.specs.Operation.{Op}
use Rattle.tree.proofs.Toward.{adjacent_sym}
use Rattle.messages.specs.declared.Message.{Message}
use Rattle.requests.specs.declared.Request.{Request}
use Rattle.requests.specs.declared.Request.TheVariants.{Combine, Write}
use Rattle.session.specs.Holding.{lease_of}
use Rattle.session.specs.Soundness.{Sound}
use Rattle.session.specs.declared.Session.{Session}
use Rattle.mechanism.specs.Views.{view}
use Rattle.mechanism.specs.Applying.{from_of, to_of}
use Rattle.requests.specs.Lists.{node_of}
use Rattle.mechanism.specs.Requests.{valued, says}
use Rattle.mechanism.specs.Spreading.{released}
use Rattle.mechanism.specs.Pairwise.{Pair}
use Rattle.mechanism.proofs.Asking.{asks, probes, responses}
use Rattle.mechanism.proofs.Telling.{tells, updates, releases}
use Rattle.mechanism.proofs.Walks.{combines_tour, writes_tour}
use Rattle.mechanism.proofs.Throughout.{tour_has}

abbrev pub Owned : Session → List Message → Type 0
Owned s [] = Unit
Owned s (m ∷ ms) = Pair s (from_of m) (to_of m) × Owned s ms

pub owned_both : (s : Session) (l r : List Message) → Owned s l → Owned s r → Owned s (l ++ r)
owned_both s [] r h k = k
owned_both s (m ∷ l) r (p, h) k = (p, owned_both s l r h k)

owned_release : (s : Session) (u v : ℕ) → Pair s u v → (k : ℕ) → Owned s (released k u v)
owned_release s u v p zero = tt
owned_release s u v p (suc zero) = (p, tt)
owned_release s u v p (suc (suc k)) = tt

pub owned : (op : Op ℤ) (b : ℕ) (s : Session) → Sound b s → (r : Request) → node_of r < s.tree.count → Owned s (says op s r).log
owned op b s i (Combine x) hx =
    rw (combines_tour op b s i x hx) (tour_has s.tree.parents s.tree.count (asks (view s)) probes (responses op (view s)) (Owned s) tt (owned_both s)
    (λ w u hw hu a g. let p : Pair s w u = record { near = hw; far = hu; edge = a } in ((p, tt), (p, tt)))
    s.tree.count x hx)
owned op b s i (Write x z) hx =
    rw (writes_tour op b s i x hx z) (tour_has s.tree.parents s.tree.count (tells (view s)) (updates op (view (valued s x z)) x) (releases (view s)) (Owned s) tt (owned_both s)
    (λ w u hw hu a g.
    let p : Pair s u w = record { near = hu; far = hw; edge = adjacent_sym s.tree.parents w u ∙ a } in ((p, tt), owned_release s u w p (lease_of s u w)))
    s.tree.count x hx)
