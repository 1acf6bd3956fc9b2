-- The records of one ordered pair through requests one after the other: their bits follow from the pair's own list.
use mathlib.Core.Path.{◌≡◌, refl}
use mathlib.Core.Bool.{Bool, true, false}
use mathlib.Core.List.{List, [], ◌∷◌}
use Prim.Native.Nat.{ℕ, zero, suc, ◌+◌}
use native.Mathlib.Omega.{arith}
use lib.IntN.{ℤ}
use borrow.Author.Tests.{ne_eqb}
use Rattle.tree.specs.Operation.{Op}
use Rattle.tree.specs.Kept.{when, kept}
use Rattle.rule.specs.Pair.{combine, write, belongs, next}
use Rattle.rule.specs.Pair as pair
use Rattle.messages.specs.Records.{kind_of as record_kind, width_of}
use Rattle.messages.specs.Writing.{bits_of_all}
use Rattle.messages.proofs.Stretches.{bits_append}
use Rattle.requests.specs.declared.Request.{Request}
use Rattle.session.specs.Holding.{lease_of}
use Rattle.session.specs.declared.Session.{Session}
use Rattle.mechanism.specs.Pairwise.{about, moves, speaks, exchange, Pair, Ranging}
use Rattle.history.specs.History.{own_of}
use Rattle.history.proofs.Succession.{Trusted, spoken_by, AllInOrder}
use Rattle.history.proofs.Owning.{weight_all}

-- probe and response have 76 bits where there is no lease; an update has 58 where there is one, and 76 with a release where it ends
unfoldable pub bits_at : ℕ → pair.Request → ℕ
bits_at zero combine = 76
bits_at (suc k) combine = 0
bits_at zero write = 0
bits_at (suc zero) write = 76
bits_at (suc (suc k)) write = 58

-- the bits of a list of requests, from the number k on
unfoldable pub bits_in : ℕ → ℕ → List pair.Request → ℕ
bits_in b k [] = 0
bits_in b k (r ∷ l) = bits_at k r + bits_in b (next b k r) l

module _ (op : Op ℤ) (b : ℕ) (ranging : Ranging op) (u v : ℕ) where
  -- a request that is or is not of the pair's own list
  bits_belongs : (k : ℕ) (r : pair.Request) (near : Bool) (y : ℤ) (l : List pair.Request)
      → bits_in b k (belongs r near l) ≡ bits_of_all (when (speaks r near k) (exchange r k u v y)) + bits_in b (moves b r near k) l
  unfolding bits_at bits_in belongs moves bits_of_all width_of record_kind
  bits_belongs k combine true y l = omega arith
  bits_belongs zero combine false y l = refl
  bits_belongs (suc k) combine false y l = rw (ne_eqb (suc k) 0 (omega arith))
  bits_belongs zero write true y l = refl
  bits_belongs (suc zero) write true y l = refl
  bits_belongs (suc (suc k)) write true y l = rw (ne_eqb (suc (suc k)) 0 (omega arith))
  bits_belongs k write false y l = omega arith

  pub bits_all : (s : Session) (l : List Request) → Trusted op b s → AllInOrder op b s l → Pair s u v → bits_of_all (kept (about u v) (spoken_by op b s l)) ≡ bits_in b (lease_of s u v) (own_of s.tree u v l)
  unfolding bits_in bits_of_all
  bits_all = weight_all op b ranging u v bits_of_all refl bits_append (bits_in b) (λ k. refl) bits_belongs
