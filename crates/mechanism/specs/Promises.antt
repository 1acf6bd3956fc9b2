-- What is promised of the mechanism, over any operation, break count and request. The theorem that proves a statement bears its name in small letters.
use Rattle.std.specs.Prelude.{◌≡◌, true, cond, ◌↔◌, List, ℕ, ◌+◌, ◌≤◌, ◌<◌, ℤ, length}
use Rattle.fields.specs.Usable.{usable_bits}
use Rattle.tree.specs.Operation.{Op, fold, sum}
use Rattle.tree.specs.Sides.{side}
use Rattle.tree.specs.Kept.{when, kept}
use Rattle.tree.specs.declared.Tree.{Tree}
use Rattle.messages.specs.Records.{AllSized}
use Rattle.messages.specs.Writing.{logged, bits_of_all}
use Rattle.messages.specs.Reading.{Reads}
use Rattle.messages.specs.declared.Message.{Message}
use Rattle.requests.specs.declared.Request.{Request}
use Rattle.session.specs.Holding.{value_of, lease_of, cache_of, sent_of, Typed}
use Rattle.session.specs.Soundness.{limit, Sound}
use Rattle.session.specs.Starting.{fresh_of}
use Rattle.session.specs.declared.Session.{Session}
use Rattle.mechanism.specs.Applying.{cell}
use Rattle.requests.specs.Lists.{node_of, Small}
use Rattle.mechanism.specs.Requests.{combines, links_of, kind_of, says, after}
use Rattle.mechanism.specs.Refusals.{Ruled, refusal_of, all_fit}
use Rattle.mechanism.specs.Pairwise.{about, moves, pays, speaks, told_of, exchange, Pair, Right, Plain, Ranging, PlainlyWritten}

-- ---- what a request says

-- Lemma 4.1 of the paper, pair by pair: of a pair a combine says a probe and its response where the pair points to its node and has number 0; a write says an update where its node is on u's side and the number is positive, and then a release where it was 1; and else nothing.
abbrev pub Lemma4_1 : Type 0
Lemma4_1 = (op : Op ℤ) (b : ℕ) (s : Session) → Sound b s → (r : Request) → node_of r < s.tree.count → (u v : ℕ) → Pair s u v
    → kept (about u v) (says op s r).log ≡ when (speaks (kind_of r) (side s.tree.parents u v (node_of r)) (lease_of s u v)) (exchange (kind_of r) (lease_of s u v) u v (told_of op s r u v))

-- A pair has as many messages of a request as the rule's automaton of one pair pays.
abbrev pub PairPays : Type 0
PairPays = (op : Op ℤ) (b : ℕ) (s : Session) → Sound b s → (r : Request) → node_of r < s.tree.count → (u v : ℕ) → Pair s u v
    → length (kept (about u v) (says op s r).log) ≡ pays (kind_of r) (side s.tree.parents u v (node_of r)) (lease_of s u v)

-- A request has at most 510 messages, whose records have at most 19,380 bits.
abbrev pub FewMessages : Type 0
FewMessages = (op : Op ℤ) (b : ℕ) (s : Session) → Sound b s → (r : Request) → node_of r < s.tree.count → (length (says op s r).log ≤ 510) × (bits_of_all (says op s r).log ≤ 19380)

-- The nodes of a request's messages are bytes and their values fit 40 bits, so refusal 11 never happens on a sound session.
abbrev pub MessagesFit : Type 0
MessagesFit = (op : Op ℤ) (b : ℕ) → Ranging op → (s : Session) → Typed s → Sound b s → (r : Request) → Small r → node_of r < s.tree.count → AllSized (says op s r).log

abbrev pub NeverMisfit : Type 0
NeverMisfit = (ms : List Message) → AllSized ms → all_fit ms ≡ true

-- The log of a request, read back, is the list of its messages.
abbrev pub LogIsRequest : Type 0
LogIsRequest = (op : Op ℤ) (b : ℕ) → Ranging op → (s : Session) → Typed s → Sound b s → (r : Request) → Small r → node_of r < s.tree.count
    → (log : List ℕ) (place : ℕ) → place + bits_of_all (says op s r).log ≤ usable_bits (length log)
    → Reads (logged log place (says op s r).log) place (place + bits_of_all (says op s r).log) (says op s r).log

-- Where leased caches are right, a combine answers the aggregate of all values.
abbrev pub AnswerRight : Type 0
AnswerRight = (op : Op ℤ) (b : ℕ) (s : Session) → Sound b s → Plain op s → Right op s → (x : ℕ) → x < s.tree.count → (combines op s x).sum ≡ fold op (value_of s) s.tree.count

-- ---- the session after

-- What is held of a pair after a request: its number moves as the rule's automaton does, its cache is what was told if it has messages, and these are counted.
abbrev pub CellAfter : Type 0
CellAfter = (op : Op ℤ) (b : ℕ) (s : Session) → Typed s → Sound b s → (r : Request) → node_of r < s.tree.count → (u v : ℕ) → Pair s u v
    → cell (links_of (after op b s r)) u v
    ≡ record {
      lease = moves b (kind_of r) (side s.tree.parents u v (node_of r)) (lease_of s u v);
      cache = cond (speaks (kind_of r) (side s.tree.parents u v (node_of r)) (lease_of s u v)) (told_of op s r u v) (cache_of s u v);
      sent = sent_of s u v + pays (kind_of r) (side s.tree.parents u v (node_of r)) (lease_of s u v);
    }

-- A sound session stays sound after a request, the inequality with it.
abbrev pub StaysSound : Type 0
StaysSound = (op : Op ℤ) (b : ℕ) → Ranging op → (s : Session) → Typed s → Sound b s → s.accepted < limit → (r : Request) → Small r → node_of r < s.tree.count
    → Typed (after op b s r) × Sound b (after op b s r)

-- Each leased cache stays the aggregate of its side after a request; in a fresh session no cache is leased.
abbrev pub StaysRight : Type 0
StaysRight = (op : Op ℤ) (b : ℕ) (s : Session) → Typed s → Sound b s → Plain op s → Right op s → (r : Request) → PlainlyWritten op r → node_of r < s.tree.count
    → Plain op (after op b s r) × Right op (after op b s r)

abbrev pub FreshRight : Type 0
FreshRight = (op : Op ℤ) (t : Tree) → length t.parents ≡ 256 → Typed (fresh_of t) × Right op (fresh_of t)

-- ---- refusals

-- The refusal of a request is computed exactly as document 01 says.
abbrev pub RequestRuledExactly : Type 0
RequestRuledExactly = (b : ℕ) (s : Session) (x len place : ℕ) (ms : List Message) (r : ℕ) → (refusal_of b s x len place ms ≡ r) ↔ Ruled b s x len place ms r

-- Ranges go through the sum, and the sum has a unit.
abbrev pub SumRanging : Type 0
SumRanging = Ranging sum

abbrev pub SumPlain : Type 0
SumPlain = (s : Session) → Plain sum s

abbrev pub SumWritten : Type 0
SumWritten = (r : Request) → PlainlyWritten sum r
