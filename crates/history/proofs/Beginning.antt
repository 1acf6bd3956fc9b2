-- A fresh session is that of a tree in rule: it is good, and holds zeros of each node and each pair.
use mathlib.Core.Path.{◌≡◌, ap}
use Prim.Native.Nat.{ℕ, ◌-◌}
use lib.IntN.{pos}
use lib.ListN.{length}
use Rattle.tree.specs.Operation.{sum}
use Rattle.tree.specs.Parents.{InRule}
use Rattle.tree.specs.declared.Tree.{Tree}
use Rattle.table.specs.Layout.{count_at}
use Rattle.table.specs.Reading.{tree_of}
use Rattle.table.proofs.Verdicts.{table_ruled_exactly, reading_accepted}
use Rattle.table.proofs.Tables.{parents_length}
use Rattle.session.specs.Holding.{value_of, lease_of, sent_of}
use Rattle.session.specs.Starting.{fresh_of}
use Rattle.session.specs.declared.Session.{Session}
use Rattle.session.specs.Told.{Started}
use Rattle.session.proofs.Starts.{all_same, pair_same, started, fresh_sound, fresh_exactly, read_well, load_accepts}
use Rattle.mechanism.proofs.Starts.{fresh_right}
use Rattle.history.specs.History.{Fresh, loaded}
use Rattle.history.specs.History as history
use Rattle.history.specs.Promises.{FreshGood}

-- the tree of a fresh session
record Begun (o : Session) : Type 0 where
  tree : Tree
  long : length tree.parents ≡ 256
  rule : InRule tree.parents tree.count
  is : o ≡ fresh_of tree

begun : (o : Session) → Fresh o → Begun o
begun o (loaded s bytes e) =
    let l = load_accepts s bytes (tree_of bytes) (reading_accepted bytes ((table_ruled_exactly bytes 0).0 (read_well s bytes e))) in
    record { tree = tree_of bytes; long = parents_length bytes (count_at bytes - 1); rule = l.1; is = ap (λ (d : Started). d.session) l.0 }
begun o (history.started t long e) =
    let r = (fresh_exactly t).0 e in
    record { tree = t; long = long; rule = r; is = ap (λ (d : Started). d.session) (started t r) }

pub fresh_good : FreshGood
fresh_good o f =
    let b = begun o f in
    let r = fresh_right sum b.tree b.long in
    rw b.is (record { typed = r.0; holds = fresh_sound 2 b.tree b.rule; right = r.1 })

module _ (o : Session) (f : Fresh o) where
  pub no_value : (u : ℕ) → value_of o u ≡ pos 0
  no_value u = rw (begun o f).is (all_same (pos 0) 256 u)

  pub no_lease : (u v : ℕ) → lease_of o u v ≡ 0
  no_lease u v = rw (begun o f).is (pair_same {A = ℕ} 0 u v)

  pub no_messages : (u v : ℕ) → sent_of o u v ≡ 0
  no_messages u v = rw (begun o f).is (pair_same {A = ℕ} 0 u v)

  pub none_accepted : o.accepted ≡ 0
  none_accepted = rw (begun o f).is
