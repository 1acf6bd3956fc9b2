-- Tables read back as they were written, and an accepted table writes back to its own bytes.
use mathlib.Core.Path.{◌≡◌, refl, sym, ap, ◌∙◌}
use mathlib.Core.Bool.{Bool, true, false, cond}
use mathlib.Core.List.{List, ◌++◌}
use Prim.Native.Nat.{ℕ, ◌-◌, ◌≤◌, ◌<◌}
use native.Mathlib.Nat.{not-suc-le-zero}
use native.Mathlib.Omega.{arith}
use lib.Dec.{leb}
use lib.ListN.{length, take, drop}
use lib.Seq.{take_at}
use borrow.Author.Tests.{le-leb, lt-leb, leb-true, leb-false}
use Rattle.fields.proofs.Verdicts.{verdict_exactly}
use Rattle.packed.specs.Parts.{bytes_for, Packs}
use Rattle.packed.proofs.Packing.{packs_packed, packed_bytes, exactly_packed}
use Rattle.tree.specs.Parents.{InRule, in_rule}
use Rattle.tree.specs.declared.Tree.{Tree}
use Rattle.tree.proofs.InRule.{in_rule_exactly}
use Rattle.table.specs.Layout.{table_size, count_at}
use Rattle.table.specs.Reading.{accepted, tree_of, reading_of}
use Rattle.table.specs.Writing.{table_parts, table_of, Answered, six, nine, done, written_of, output_of}
use Rattle.table.specs.Promises.{TableExactly, TableReadsBack, TableWritesBack, TableWrittenExactly, RefusedOutputKept}
use Rattle.table.specs.Told.{Reading}
use Rattle.table.specs.Told.{Written}
use Rattle.table.proofs.Verdicts.{table_ruled_exactly, reading_accepted}
use Rattle.table.proofs.Stores.{table_end}
use Rattle.table.proofs.Tables.{table_fits, parents_length, accepted_rule, accepted_packs, packed_ruled, packed_tree}

-- ---- bytes that are read as a tree

record Reads (s : List ℕ) (t : Tree) : Type 0 where
  rule : InRule t.parents t.count
  packs : Packs s (table_parts t)
  wide : length t.parents ≡ 256

reads : (s : List ℕ) (t : Tree) → reading_of s ≡ accepted t → Reads s t
reads s t e =
    let j = (table_ruled_exactly s 0).0 (ap (λ (r : Reading). r.refusal) e) in
    let same : tree_of s ≡ t = ap (λ (r : Reading). r.tree) (sym (reading_accepted s j) ∙ e) in
    let r : Reads s (tree_of s) = record { rule = accepted_rule s j; packs = accepted_packs s j; wide = parents_length s (count_at s - 1) } in
    rw same at r

pub table_exactly : TableExactly
table_exactly s t b wide = (
  λ e.
      let h = reads s t e in
      ((in_rule_exactly t.parents t.count).1 h.rule, (exactly_packed s (table_parts t) b (table_fits t h.rule)).0 h.packs),
  λ p.
      let r = (in_rule_exactly t.parents t.count).0 p.0 in
      let h = (exactly_packed s (table_parts t) b (table_fits t r)).1 p.1 in
      reading_accepted s (packed_ruled s t r h) ∙ ap accepted (packed_tree s t r h wide),
)

-- ---- what the writer answers

answered : (t : Tree) (room : ℕ) → Answered t room (written_of t room)
unfolding written_of
answered t room = go (in_rule t.parents t.count) refl (leb (table_size t.count) room) refl
  where
    go : (a : Bool) → in_rule t.parents t.count ≡ a → (b : Bool) → leb (table_size t.count) room ≡ b
        → Answered t room (cond a (cond b (record { refusal = 0; bytes = table_size t.count }) (record { refusal = 9; bytes = 0 })) (record { refusal = 6; bytes = 0 }))
    go false p b q = six p
    go true p false q = nine p (leb-false _ _ q)
    go true p true q = done p (leb-true _ _ q)

pub table_written_exactly : TableWrittenExactly
table_written_exactly t room = verdict_exactly (Answered t room) (written_of t room) is (_, answered t room)
  where
    is : (w : Written) → Answered t room w → written_of t room ≡ w
    is w (six p) = unfold written_of in rw p
    is w (nine p l) = unfold written_of in rw (p, lt-leb (table_size t.count) room l)
    is w (done p l) = unfold written_of in rw (p, le-leb (table_size t.count) room l)

-- what it leaves
output_done : (t : Tree) (out : List ℕ) → in_rule t.parents t.count ≡ true → table_size t.count ≤ length out → output_of t out ≡ table_of t ++ drop (table_size t.count) out
unfolding output_of
output_done t out p l = rw (p, le-leb (table_size t.count) (length out) l)

pub refused_output_kept : RefusedOutputKept
refused_output_kept t out h = go (written_of t (length out)) (answered t (length out)) h
  where
    go : (w : Written) → Answered t (length out) w → 0 < w.refusal → output_of t out ≡ out
    go w (six p) l = unfold output_of in rw p
    go w (nine p m) l = unfold output_of in rw (p, lt-leb (table_size t.count) (length out) m)
    go w (done p m) l = absurd (not-suc-le-zero l)

-- ---- the two ways round

table_length : (t : Tree) → InRule t.parents t.count → length (table_of t) ≡ table_size t.count
table_length t r = (packs_packed (table_parts t) (table_fits t r)).bytes ∙ ap bytes_for (table_end t)

pub table_reads_back : TableReadsBack
table_reads_back t out wide e = go (written_of t (length out)) (answered t (length out)) e
  where
    go : (w : Written) → Answered t (length out) w → w.refusal ≡ 0 → reading_of (take w.bytes (output_of t out)) ≡ accepted t
    go w (six p) z = absurd (omega arith)
    go w (nine p l) z = absurd (omega arith)
    go w (done p l) z =
        rw (output_done t out p l, take_at (table_of t) (drop (table_size t.count) out) (table_size t.count) (table_length t ((in_rule_exactly t.parents t.count).0 p)))
        ((table_exactly (table_of t) t (packed_bytes (table_parts t)) wide).1 (p, refl))

pub table_writes_back : TableWritesBack
table_writes_back s t out b e l =
    let h = reads s t e in
    let q = (table_exactly s t b h.wide).0 e in
    let n : length s ≡ table_size t.count = ap length q.1 ∙ table_length t h.rule in
    let m : table_size t.count ≤ length out = rw n at l in
    (rw n ((table_written_exactly t (length out) _).1 (done q.0 m)), rw n (output_done t out q.0 m ∙ ap (λ (x : List ℕ). x ++ drop (table_size t.count) out) (sym q.1)))
