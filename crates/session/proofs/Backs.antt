-- The table of a session: what its writer answers, loaded and written back, written and loaded back, and the output kept where it is refused.
use mathlib.Core.Path.{◌≡◌, refl, ◌∙◌}
use mathlib.Core.Bool.{Bool, true, false}
use mathlib.Core.List.{List}
use Prim.Native.Nat.{ℕ}
use native.Mathlib.Omega.{arith}
use lib.ListN.{length, take}
use Rattle.tree.specs.Parents.{in_rule}
use Rattle.tree.proofs.Cases.{lt_or_le}
use Rattle.tree.proofs.InRule.{in_rule_exactly}
use Rattle.fields.proofs.Verdicts.{verdict_exactly}
use Rattle.table.specs.Layout.{table_size}
use Rattle.table.specs.Reading.{tree_of}
use Rattle.table.specs.Writing as table
use Rattle.table.specs.Told.{Written}
use Rattle.table.proofs.RoundTrip as table_laws
use Rattle.table.proofs.Verdicts.{table_ruled_exactly, reading_accepted}
use Rattle.session.specs.Promises.{SessionWrittenExactly, LoadedWritesBack, WrittenLoadsBack, SessionOutputKept}
use Rattle.session.specs.Soundness.{sound}
use Rattle.session.specs.Starting.{fresh_of, loaded_of}
use Rattle.session.specs.Tables.{Answered, six, nine, done, written_of, output_of}
use Rattle.session.specs.declared.Session.{Session}
use Rattle.session.proofs.Soundly.{sound_exactly, sound_holds}
use Rattle.session.proofs.Starts.{fresh_sound, load_accepts, read_well}

-- ---- a sound session's table is that of its tree, and an unsound one has none

module _ (s : Session) (e : sound 2 s ≡ true) where
  sound_written : (room : ℕ) → written_of s room ≡ table.written_of s.tree room
  unfolding written_of
  sound_written room = rw e

  sound_output : (out : List ℕ) → output_of s out ≡ table.output_of s.tree out
  unfolding output_of
  sound_output out = rw e

module _ (s : Session) (e : sound 2 s ≡ false) where
  unsound_written : (room : ℕ) → written_of s room ≡ record { refusal = 6; bytes = 0 }
  unfolding written_of
  unsound_written room = rw e

  unsound_output : (out : List ℕ) → output_of s out ≡ out
  unfolding output_of
  unsound_output out = rw e

-- ---- what is answered

module _ (s : Session) (room : ℕ) where
  -- the tree of a sound session is in rule
  in_rule_lem : sound 2 s ≡ true → in_rule s.tree.parents s.tree.count ≡ true
  in_rule_lem e = (in_rule_exactly s.tree.parents s.tree.count).1 ((sound_exactly 2 s).0 e).tree_in_rule

  of_tree : (w : Written) → sound 2 s ≡ true → table.Answered s.tree room w → written_of s room ≡ w
  of_tree w e a = sound_written s e room ∙ (table_laws.table_written_exactly s.tree room w).1 a

  is : (w : Written) → Answered s room w → written_of s room ≡ w
  is w (six e) = unsound_written s e room
  is w (nine e l) = of_tree w e (table.nine (in_rule_lem e) l)
  is w (done e l) = of_tree w e (table.done (in_rule_lem e) l)

  answered : Answered s room (written_of s room)
  answered = go (sound 2 s) refl
    where
      go : (b : Bool) → sound 2 s ≡ b → Answered s room (written_of s room)
      go false e = rw (unsound_written s e room) (six e)
      go true e = lt_or_le room (table_size s.tree.count)
          (λ l. rw (of_tree _ e (table.nine (in_rule_lem e) l)) (nine e l))
          (λ l. rw (of_tree _ e (table.done (in_rule_lem e) l)) (done e l))

pub session_written_exactly : SessionWrittenExactly
session_written_exactly s room = verdict_exactly (Answered s room) (written_of s room) (is s room) (_, answered s room)

-- ---- the two ways round

-- a table that was loaded was read without refusal
pub loaded_writes_back : LoadedWritesBack
loaded_writes_back s bytes out b e l =
    let a = reading_accepted bytes ((table_ruled_exactly bytes 0).0 (read_well s bytes e)) in
    let q = load_accepts s bytes (tree_of bytes) a in
    let f = sound_holds 2 (fresh_of (tree_of bytes)) (fresh_sound 2 (tree_of bytes) q.1) in
    let w = table_laws.table_writes_back bytes (tree_of bytes) out b a l in
    rw q.0 (sound_written (fresh_of (tree_of bytes)) f (length out) ∙ w.0, sound_output (fresh_of (tree_of bytes)) f out ∙ w.1)

pub written_loads_back : WrittenLoadsBack
written_loads_back s o out typed z = go (sound 2 s) refl
  where
    go : (b : Bool) → sound 2 s ≡ b → loaded_of o (take (written_of s (length out)).bytes (output_of s out)) ≡ record { refusal = 0; session = fresh_of s.tree }
    go true e =
        rw (sound_written s e (length out), sound_output s e out)
        (load_accepts o _ s.tree (table_laws.table_reads_back s.tree out typed.parents_long (rw (sound_written s e (length out)) at z))).0
    go false e = let six : ◌≡◌ {A = ℕ} 6 0 = rw (unsound_written s e (length out)) at z in absurd (omega arith)

pub session_output_kept : SessionOutputKept
session_output_kept s out h = go (sound 2 s) refl
  where
    go : (b : Bool) → sound 2 s ≡ b → output_of s out ≡ out
    go true e = sound_output s e out ∙ table_laws.refused_output_kept s.tree out (rw (sound_written s e (length out)) at h)
    go false e = unsound_output s e out
