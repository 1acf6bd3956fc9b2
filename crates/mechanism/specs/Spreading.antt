-- Write at x: updates go out to the neighbours that hold a lease, and releases come back where it ends.
use Rattle.std.specs.Prelude.{Bool, true, false, cond, List, [], ◌∷◌, ◌++◌, ℕ, zero, suc, eqb, ℤ}
use Rattle.tree.specs.Operation.{Op}
use Rattle.tree.specs.Sides.{other}
use Rattle.tree.specs.Turns.{turn, round}
use Rattle.messages.specs.declared.Message.{Message}
use Rattle.messages.specs.declared.Message.TheVariants.{Update, Release}
use Rattle.mechanism.specs.Views.{View}

-- w's release to u, where the number of (u,w) was 1 and is now 0
abbrev pub released : ℕ → ℕ → ℕ → List Message
released zero u w = []
released (suc zero) u w = Release w u ∷ []
released (suc (suc k)) u w = []

module _ (op : Op ℤ) (q : View) where
  abbrev pub add_if : Bool → ℤ → ℤ → ℤ
  add_if true a h = op.◌⊕◌ a h
  add_if false a h = a

  -- u's value, and what g says of its first k candidates in turn that are neighbours but w
  unfoldable pub total : (ℕ → ℤ) → ℕ → ℕ → ℕ → ℤ
  total g u w zero = q.value u
  total g u w (suc k) = add_if (other q.parents u w (turn q.count u k)) (total g u w k) (g (turn q.count u k))

  -- what u, told z by v, sends to w: its value, and its caches for all neighbours but w; z is its cache for v
  abbrev pub carried : ℕ → ℕ → ℤ → ℕ → ℤ
  carried u v z w = total (λ c. cond (eqb c v) z (q.cache c u)) u w q.count

  -- what u, told z by v, says to w, if w is a neighbour but v and the number of (u,w) is positive
  unfoldable pub sends : Bool → ℕ → (ℕ → ℕ → ℤ → List Message) → ℕ → ℕ → ℤ → ℕ → List Message
  sends false k next u v z w = []
  sends true zero next u v z w = []
  sends true (suc k) next u v z w = let y = carried u v z w in Update u w y ∷ (next w u y ++ released (suc k) u w)

  -- the walk at u, told z by v, with a falling number
  unfoldable pub spread : ℕ → ℕ → ℕ → ℤ → List Message
  spread zero u v z = []
  spread (suc k) u v z = round q.count u (λ w. sends (other q.parents u v w) (q.lease u w) (spread k) u v z w)

  -- the walk from x, which nobody told
  abbrev pub write : ℕ → List Message
  write x = spread q.count x x op.ε
