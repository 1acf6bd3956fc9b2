-- A trace holds the messages that were pushed; what one message more makes of its bits and of its record in the log.
use mathlib.Core.Path.{◌≡◌, refl, sym, ap, ap₂, ◌∙◌}
use mathlib.Core.Bool.{true, false, and-false}
use mathlib.Core.List.{List, [], ◌∷◌, ◌++◌, append-nil}
use Prim.Native.Nat.{ℕ, zero, suc, ◌+◌, ◌<◌, ◌≤◌, min}
use native.Mathlib.Nat.{add-zero}
use native.Mathlib.Numerals.{add-one}
use native.Mathlib.Omega.{arith}
use lib.ListN.{get_or, set, take, length, length-set}
use Rattle.std.proofs.lemmas.List.{get_or-take}
use lib.Seq.{get_or-set_same, get_or-set_other, append_snoc}
use borrow.Author.Tests.{lt-ltb, le-ltb}
use Rattle.messages.specs.Records.{bits_of, fits, Sized, AllSized, coded}
use Rattle.messages.specs.Reading.{decoded}
use Rattle.messages.specs.Writing.{recorded_of, log_after, bits_of_all}
use Rattle.messages.specs.declared.Message.{Message}
use Rattle.std.specs.Prelude.{Result}
use Rattle.std.specs.Result.{result_unwrap_or}
use Rattle.refusal.specs.declared.Refusal.{Refusal}
use Rattle.trace.specs.declared.Trace.{Trace}
use Rattle.trace.specs.inner.Traces.{trace, pushed, pushed_all, messages_in, messages_of, Writing, writing, noted, noted_all}
use Rattle.trace.specs.Promises.{TraceHolds}
use Rattle.messages.proofs.Coding.{coded_back}
use Rattle.messages.proofs.Stretches.{bits_append}

-- ---- one message more

noted_more : (ms : List Message) (m : Message) (w : Writing) → noted_all (ms ++ (m ∷ [])) w ≡ noted m (noted_all ms w)
unfolding noted_all
noted_more [] m w = refl
noted_more (p ∷ ms) m w = noted_more ms m (noted p w)

module _ (ns : List ℕ) (i : ℕ) (m : Message) (next : m ≡ decoded (get_or ns i 0)) where
  pub bits_next : (bits w : ℕ) → bits ≡ bits_of_all (messages_in ns i) → w ≡ bits_of m → bits + w ≡ bits_of_all (messages_in ns (i + 1))
  unfolding messages_in bits_of_all
  bits_next bits w e f = rw (add-one, e, f, next) (omega (arith, bits_append (messages_in ns i) (decoded (get_or ns i 0) ∷ [])))

  pub noted_next : (w : Writing) {s s' : List ℕ} {at at' : ℕ} {x : Result ℕ Refusal} → writing s at ≡ noted_all (messages_in ns i) w → x ≡ recorded_of (length s) at m → s' ≡ log_after s at m → at' ≡ result_unwrap_or x at
      → writing s' at' ≡ noted_all (messages_in ns (i + 1)) w
  unfolding messages_in
  noted_next w {s} {s'} {at} {at'} {x} e f g h =
      let n : writing s' at' ≡ noted m (writing s at) = rw (h, f, g) in
      n ∙ ap (noted m) e ∙ rw (add-one, next) (sym (noted_more (messages_in ns i) (decoded (get_or ns i 0)) w))

-- ---- the messages of the numbers that count are all that the trace has

used_in : (ns : List ℕ) (n k : ℕ) → k ≤ n → messages_in (take n ns) k ≡ messages_in ns k
unfolding messages_in
used_in ns n zero h = refl
used_in ns n (suc k) h = ap₂ (λ (l : List Message) (m : ℕ). l ++ (decoded m ∷ [])) (used_in ns n k (omega arith)) (get_or-take n ns k 0 (omega arith))

pub used_all : (ns used : List ℕ) (len k : ℕ) → used ≡ take (min len 510) ns → k ≡ min len 510 → messages_in used k ≡ messages_of ns len
used_all ns used len k e f = rw (e, f) (used_in ns (min len 510) (min len 510) (omega arith))

-- ---- a trace holds what was pushed

-- a number from k on does not touch the messages before k
before_kept : (ns : List ℕ) (k x j : ℕ) → j ≤ k → messages_in (set ns k x) j ≡ messages_in ns j
unfolding messages_in
before_kept ns k x zero h = refl
before_kept ns k x (suc j) h = ap₂ (λ (l : List Message) (n : ℕ). l ++ (decoded n ∷ [])) (before_kept ns k x j (omega arith)) (get_or-set_other ns k j x 0 (λ o. omega arith))

one_held : (ns : List ℕ) (k : ℕ) (m : Message) → Sized m → k < length ns → messages_in (set ns k (coded m)) (k + 1) ≡ messages_in ns k ++ (m ∷ [])
unfolding messages_in
one_held ns k m sized h =
    rw add-one
    (ap₂ (λ (l : List Message) (p : Message). l ++ (p ∷ [])) (before_kept ns k (coded m) k (omega arith)) (ap decoded (get_or-set_same ns k (coded m) 0 h) ∙ coded_back m sized))

pub pushed_room : (m : Message) (ns : List ℕ) (k : ℕ) → fits m ≡ true → k < 510 → pushed m (trace ns k) ≡ trace (set ns k (coded m)) (k + 1)
unfolding pushed
pushed_room m ns k f h = rw (f, lt-ltb k 510 h)

pub pushed_full : (m : Message) (ns : List ℕ) (k : ℕ) → 510 ≤ k → pushed m (trace ns k) ≡ trace ns k
unfolding pushed
pushed_full m ns k h = rw (le-ltb k 510 h, and-false (fits m))

pub pushed_misfit : (m : Message) (ns : List ℕ) (k : ℕ) → fits m ≡ false → pushed m (trace ns k) ≡ trace ns k
unfolding pushed
pushed_misfit m ns k f = rw f

all_held : (ms : List Message) (ns : List ℕ) (k : ℕ) (t : Trace) → AllSized ms → length ns ≡ 510 → k + length ms ≤ 510 → t ≡ pushed_all ms (trace ns k)
    → (t.len ≡ k + length ms) × (messages_in t.numbers (k + length ms) ≡ messages_in ns k ++ ms)
unfolding pushed_all
all_held [] ns k t sized long h e = rw e (omega arith, rw (add-zero k) (sym (append-nil (messages_in ns k))))
all_held (m ∷ ms) ns k t (one, all) long h e =
    let r = all_held ms (set ns k (coded m)) (k + 1) t all (length-set ns k (coded m) ∙ long) (omega arith) (e ∙ ap (pushed_all ms) (pushed_room m ns k one.2 (omega arith))) in
    let i : k + suc (length ms) ≡ k + 1 + length ms = omega arith in
    rw i (r.0, r.1 ∙ ap (λ l. l ++ ms) (one_held ns k m one (omega arith)) ∙ append_snoc (messages_in ns k) m ms)

-- of a length of at most 510, all is used
messages_all : (ns : List ℕ) (len : ℕ) → len ≤ 510 → messages_of ns len ≡ messages_in ns len
messages_all ns len h = ap (messages_in ns) (omega arith)

pub trace_holds : TraceHolds
unfolding messages_in
trace_holds ms ns numbers len sized h long e =
    let r = all_held ms ns 0 (trace numbers len) sized long (omega arith) e in
    (omega (arith, r.0), messages_all numbers len (omega (arith, r.0)) ∙ ap (messages_in numbers) r.0 ∙ r.1)
