-- What a walk reads of a session.
use Rattle.std.specs.Prelude.{List, ℕ, ℤ, pos, get_or}
use Rattle.session.specs.Holding.{pair_at}
use Rattle.session.specs.declared.Session.{Session}

-- the tree, the value of each node, and the lease number and the cache of each ordered pair
pub record View : Type 0 where
  pub count : ℕ
  pub parents : List ℕ
  pub value : ℕ → ℤ
  pub lease : ℕ → ℕ → ℕ
  pub cache : ℕ → ℕ → ℤ

-- the view of a session, by the arrays that hold it
abbrev pub view_of : ℕ → List ℕ → List ℤ → List ℕ → List ℤ → List ℕ → List ℤ → View
view_of n ps vs ul uc dl dc = record { count = n; parents = ps; value = λ u. get_or vs u (pos 0); lease = pair_at 0 ul dl; cache = pair_at (pos 0) uc dc }

abbrev pub view : Session → View
view s = view_of s.tree.count s.tree.parents s.values s.up.lease s.up.cache s.down.lease s.down.cache
