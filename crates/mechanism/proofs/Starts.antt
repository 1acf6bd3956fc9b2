-- A fresh session holds no lease, so that no leased cache is wrong, and has its type's lengths.
use mathlib.Core.Path.{◌≡◌}
use Prim.Native.Nat.{ℕ}
use lib.IntN.{pos}
use lib.ListN.{length, length-replicate}
use Rattle.tree.specs.declared.Tree.{Tree}
use Rattle.session.specs.Holding.{Long, Typed}
use Rattle.session.specs.Starting.{empty, fresh_of}
use Rattle.session.proofs.Starts.{all_same, pair_same}
use Rattle.mechanism.specs.Promises.{FreshRight}

fresh_typed : (t : Tree) → length t.parents ≡ 256 → Typed (fresh_of t)
fresh_typed t h = record { parents_long = h; values_long = length-replicate 256 (pos 0); values_small = λ u. rw (all_same (pos 0) 256 u); up_long = long; down_long = long }
  where
    long : Long empty
    long = record { leases = length-replicate {A = ℕ} 256 0; caches = length-replicate 256 (pos 0); counts = length-replicate {A = ℕ} 256 0 }

pub fresh_right : FreshRight
fresh_right op t h = (fresh_typed t h, λ u v p leased. absurd (leased (pair_same {A = ℕ} 0 u v)))
