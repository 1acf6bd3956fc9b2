-- Combine at x: a node probes the neighbours from which it holds no lease, and their responses come back.
use Rattle.std.specs.Prelude.{Bool, true, false, List, [], ◌∷◌, ◌++◌, ℕ, zero, suc, eqb, ℤ}
use Rattle.tree.specs.Operation.{Op}
use Rattle.tree.specs.Sides.{other}
use Rattle.tree.specs.Turns.{turn}
use Rattle.messages.specs.declared.Message.{Message}
use Rattle.messages.specs.declared.Message.TheVariants.{Probe, Response}
use Rattle.mechanism.specs.Views.{View}

-- a walk's sum and its messages, in order
pub record Said : Type 0 where
  pub sum : ℤ
  pub log : List Message

abbrev pub said : ℤ → List Message → Said
said z l = record { sum = z; log = l }

module _ (op : Op ℤ) (q : View) where
  -- u probes w, w walks on, and w responds
  abbrev pub asked : ℕ → ℕ → Said → Said
  asked u w r = said r.sum (Probe u w ∷ (r.log ++ (Response w u r.sum ∷ [])))

  -- what u hears of w: its response where u holds no lease from w, the pair (w,u) having number 0, else what is cached of it
  unfoldable pub heard : Bool → (ℕ → ℕ → Said) → ℕ → ℕ → Said
  heard true next u w = asked u w (next w u)
  heard false next u w = said (q.cache w u) []

  abbrev pub hears : (ℕ → ℕ → Said) → ℕ → ℕ → Said
  hears next u w = heard (eqb (q.lease w u) 0) next u w

  unfoldable pub step_if : Bool → (ℕ → ℕ → Said) → ℕ → ℕ → Said → Said
  step_if true next u w acc = let h = hears next u w in said (op.◌⊕◌ acc.sum h.sum) (acc.log ++ h.log)
  step_if false next u w acc = acc

  -- u's value, and what u, come from v, hears of its first k candidates in turn; `next` walks on
  unfoldable pub sofar : (ℕ → ℕ → Said) → ℕ → ℕ → ℕ → Said
  sofar next u v zero = said (q.value u) []
  sofar next u v (suc k) = step_if (other q.parents u v (turn q.count u k)) next u (turn q.count u k) (sofar next u v k)

  -- the walk at u, come from v, with a falling number
  unfoldable pub ask : ℕ → ℕ → ℕ → Said
  ask zero u v = said (q.value u) []
  ask (suc k) u v = sofar (ask k) u v q.count

  -- the walk from x, which comes from nowhere: its sum is the answer
  abbrev pub combine : ℕ → Said
  combine x = ask q.count x x
