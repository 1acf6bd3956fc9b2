-- The cell of a pair is what the session holds of it.
use mathlib.Core.Path.{◌≡◌, refl, sym, ap, ◌∙◌}
use Prim.Native.Nat.{ℕ}
use Rattle.session.specs.Holding.{lease_of, cache_of, sent_of}
use Rattle.session.specs.declared.Session.{Session}
use Rattle.mechanism.specs.Applying.{Cell, cell}
use Rattle.mechanism.specs.Requests.{links_of}

module _ (s : Session) (u v : ℕ) where
  pub cell_is : cell (links_of s) u v ≡ record { lease = lease_of s u v; cache = cache_of s u v; sent = sent_of s u v }
  unfolding cell
  cell_is = refl

  -- the same, field by field
  pub lease_held : {c : Cell} → cell (links_of s) u v ≡ c → lease_of s u v ≡ c.lease
  lease_held e = ap (λ (c : Cell). c.lease) (sym cell_is ∙ e)

  pub cache_held : {c : Cell} → cell (links_of s) u v ≡ c → cache_of s u v ≡ c.cache
  cache_held e = ap (λ (c : Cell). c.cache) (sym cell_is ∙ e)

  pub sent_held : {c : Cell} → cell (links_of s) u v ≡ c → sent_of s u v ≡ c.sent
  sent_held e = ap (λ (c : Cell). c.sent) (sym cell_is ∙ e)
