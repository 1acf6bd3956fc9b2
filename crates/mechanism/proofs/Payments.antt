-- The messages of one pair in a request are as many as the rule's automaton pays.
use mathlib.Core.Path.{◌≡◌, refl, ap, ◌∙◌}
use mathlib.Core.Bool.{Bool, true, false}
use Prim.Native.Nat.{ℕ, zero, suc}
use native.Mathlib.Omega.{arith}
use lib.IntN.{ℤ}
use lib.ListN.{length}
use borrow.Author.Tests.{ne_eqb}
use Rattle.tree.specs.Sides.{side}
use Rattle.tree.specs.Kept.{when}
use Rattle.rule.specs.Pair.{Request, combine, write, price}
use Rattle.session.specs.Holding.{lease_of}
use Rattle.requests.specs.Lists.{node_of}
use Rattle.mechanism.specs.Requests.{kind_of}
use Rattle.mechanism.specs.Pairwise.{pays, speaks, exchange, told_of}
use Rattle.mechanism.specs.Promises.{PairPays}
use Rattle.mechanism.proofs.Says.{lemma_4_1}

-- what is said of the pair, counted
pub counted : (r : Request) (near : Bool) (k u v : ℕ) (z : ℤ) → length (when (speaks r near k) (exchange r k u v z)) ≡ pays r near k
unfolding pays price
counted combine true k u v z = refl
counted combine false zero u v z = refl
counted combine false (suc k) u v z = rw (ne_eqb (suc k) 0 (omega arith))
counted write false k u v z = refl
counted write true zero u v z = refl
counted write true (suc zero) u v z = refl
counted write true (suc (suc k)) u v z = rw (ne_eqb (suc (suc k)) 0 (omega arith))

pub pair_pays : PairPays
pair_pays op b s sd r hx u v p = ap length (lemma_4_1 op b s sd r hx u v p) ∙ counted (kind_of r) (side s.tree.parents u v (node_of r)) (lease_of s u v) u v (told_of op s r u v)
