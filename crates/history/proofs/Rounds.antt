-- The rounds on two nodes: their list is read and done to the end, and they meet the bound exactly.
use mathlib.Core.Path.{◌≡◌, refl, ap, ◌∙◌}
use mathlib.Core.Bool.{true}
use mathlib.Core.List.{List, [], ◌++◌}
use Prim.Native.Nat.{ℕ, zero, suc, ◌+◌, ◌*◌, ◌≤◌}
use native.Mathlib.Omega.{arith}
use lib.IntN.{ℤ, pos}
use lib.ListN.{length, replicate, length-append, length-replicate}
use Rattle.fields.specs.Usable.{usable_bits}
use Rattle.twos.specs.Twos.{within}
use Rattle.tree.specs.Operation.{sum}
use Rattle.tree.specs.Parents.{InRule}
use Rattle.tree.specs.Kept.{kept}
use Rattle.tree.specs.declared.Tree.{Tree}
use Rattle.rule.specs.Pair.{belongs, own, next, messages}
use Rattle.rule.specs.Pair as pair
use Rattle.rule.proofs.Rounds.{rounds_cost, rounds_off}
use Rattle.messages.specs.Writing.{bits_of_all}
use Rattle.messages.specs.declared.Message.{Message}
use Rattle.messages.proofs.Stretches.{bits_append}
use Rattle.requests.specs.Lists.{AllSized, list_of, combines_in}
use Rattle.requests.specs.declared.Request.{Request}
use Rattle.requests.proofs.Written.{list_reads_back}
use Rattle.session.specs.Holding.{lease_of, sent_of}
use Rattle.session.specs.Starting.{started_of}
use Rattle.session.specs.declared.Session.{Session}
use Rattle.session.specs.Told.{Started}
use Rattle.session.proofs.Starts.{all_same, fresh_exactly, started as begins}
use Rattle.mechanism.specs.Pairwise.{about, Pair}
use Rattle.mechanism.proofs.Fits.{sum_ranging}
use Rattle.history.specs.History.{run, result, Fresh, Good, own_of, rounds_of, runs_rounds, started}
use Rattle.history.specs.Promises.{RoundsRead, RoundsSent, RoundsExact, RoundsThere}
use Rattle.history.proofs.Succession.{after_all, spoken_by, AllInOrder}
use Rattle.history.proofs.Throughout.{owned_all}
use Rattle.history.proofs.Owning.{sent_all, spoken_all}
use Rattle.history.proofs.Histories.{trusted}
use Rattle.history.proofs.Beginning.{fresh_good, no_lease, no_messages, none_accepted}
use Rattle.history.proofs.TwoNodes.{up_root, up_leaf, down_root, down_leaf, edge, two_nodes}
use Rattle.history.proofs.Orderly.{AllBelow, in_order_few}
use Rattle.history.proofs.Finishing.{Finished, finished}
use Rattle.history.proofs.Bits.{bits_at, bits_in, bits_all}

-- whatever is written
module _ (y z : ℕ → ℤ) where
  rounds_length : (n : ℕ) → length (rounds_of y z n) ≡ 3 * n
  unfolding rounds_of
  rounds_length zero = refl
  rounds_length (suc n) = omega (arith, rounds_length n)

  rounds_combines : (n : ℕ) → combines_in (rounds_of y z n) ≡ n
  unfolding rounds_of combines_in
  rounds_combines zero = refl
  rounds_combines (suc n) = omega (arith, rounds_combines n)

  rounds_below : (n : ℕ) → AllBelow 2 (rounds_of y z n)
  unfolding rounds_of
  rounds_below zero = tt
  rounds_below (suc n) = (omega arith, (omega arith, (omega arith, rounds_below n)))

  rounds_sized : ((k : ℕ) → (within 32 (y k) ≡ true) × (within 32 (z k) ≡ true)) → (n : ℕ) → AllSized (rounds_of y z n)
  unfolding rounds_of
  rounds_sized small zero = tt
  rounds_sized small (suc n) = ((omega arith, tt), ((omega arith, (small n).0), ((omega arith, (small n).1), rounds_sized small n)))

  -- all of them are of the own list of (1,0), and none of that of (0,1)
  own_up : (t : Tree) (n : ℕ) → own_of t 1 0 (rounds_of y z n) ≡ pair.rounds n
  unfolding rounds_of own belongs pair.rounds
  own_up t zero = refl
  own_up t (suc n) = rw (up_root t.parents, up_leaf t.parents, own_up t n)

  own_down : (t : Tree) (n : ℕ) → own_of t 0 1 (rounds_of y z n) ≡ []
  unfolding rounds_of own belongs
  own_down t zero = refl
  own_down t (suc n) = rw (down_root t.parents, down_leaf t.parents) (own_down t n)

-- the bits of the rounds
rounds_bits : (n : ℕ) → bits_in 2 0 (pair.rounds n) ≡ 210 * n
unfolding bits_in bits_at next pair.rounds
rounds_bits zero = refl
rounds_bits (suc n) = omega (arith, rounds_bits n)

pub rounds_read : RoundsRead
rounds_read y z small n most = list_reads_back (rounds_of y z n) (rounds_sized y z small n) (omega (arith, most, rounds_length y z n))

-- ---- on a fresh session of two nodes

module _ (o : Session) (f : Fresh o) (two : o.tree.count ≡ 2) (y z : ℕ → ℤ) (small : (k : ℕ) → (within 32 (y k) ≡ true) × (within 32 (z k) ≡ true)) (n : ℕ) (most : n ≤ 1365) where
  abbrev these : List Request
  these = rounds_of y z n

  good : Good o
  good = fresh_good o f

  pairs : Pair o 1 0 × Pair o 0 1
  pairs = edge o good.holds two

  ordered : AllInOrder sum 2 o these
  ordered = in_order_few o these (rounds_sized y z small n) (rw two (rounds_below y z n)) (omega (arith, most, rounds_length y z n, none_accepted o f))

  -- the pair (1,0) pays for all, and (0,1) for nothing
  up_messages : messages 2 (lease_of o 1 0) (own_of o.tree 1 0 these) ≡ 5 * n
  up_messages = rw (no_lease o f 1 0, own_up y z o.tree n) (rounds_cost n)

  down_messages : messages 2 (lease_of o 0 1) (own_of o.tree 0 1 these) ≡ 0
  unfolding messages
  down_messages = rw (own_down y z o.tree n)

  up_bits : bits_in 2 (lease_of o 1 0) (own_of o.tree 1 0 these) ≡ 210 * n
  up_bits = rw (no_lease o f 1 0, own_up y z o.tree n) (rounds_bits n)

  down_bits : bits_in 2 (lease_of o 0 1) (own_of o.tree 0 1 these) ≡ 0
  unfolding bits_in
  down_bits = rw (own_down y z o.tree n)

  -- both together
  both_pairs : (weight : List Message → ℕ) → weight [] ≡ 0 → ((l r : List Message) → weight (l ++ r) ≡ weight l + weight r)
      → weight (spoken_by sum 2 o these) ≡ weight (kept (about 1 0) (spoken_by sum 2 o these)) + weight (kept (about 0 1) (spoken_by sum 2 o these))
  both_pairs weight none both = two_nodes weight none both o (spoken_by sum 2 o these) (owned_all sum 2 sum_ranging o these (trusted o good) ordered) good.holds two

  messages_said : length (spoken_by sum 2 o these) ≡ 5 * n
  messages_said = omega (
    arith,
    both_pairs length refl length-append,
    spoken_all sum 2 sum_ranging 1 0 o these (trusted o good) ordered pairs.0,
    spoken_all sum 2 sum_ranging 0 1 o these (trusted o good) ordered pairs.1,
    up_messages,
    down_messages,
  )

  bits_said : bits_of_all (spoken_by sum 2 o these) ≡ 210 * n
  unfolding bits_of_all
  bits_said = omega (
    arith,
    both_pairs bits_of_all refl bits_append,
    bits_all sum 2 sum_ranging 1 0 o these (trusted o good) ordered pairs.0,
    bits_all sum 2 sum_ranging 0 1 o these (trusted o good) ordered pairs.1,
    up_bits,
    down_bits,
  )

  rounds_done : (places : List ℤ) (log : List ℕ) (place : ℕ) → n ≤ length places → place + 210 * n ≤ usable_bits (length log) → Finished o these place (result o (run (list_of these) places log place))
  rounds_done places log place enough room =
      finished o these places log place good (rounds_sized y z small n) (omega (arith, most, rounds_length y z n)) ordered (rw (rounds_combines y z n) enough) (rw bits_said room)

  sent_up : (s : Session) → s ≡ after_all sum 2 o these → sent_of s 1 0 ≡ 5 * n
  sent_up s e = omega (arith, ap (λ (s : Session). sent_of s 1 0) e, sent_all sum 2 sum_ranging 1 0 o these (trusted o good) ordered pairs.0, no_messages o f 1 0, up_messages)

  sent_down : (s : Session) → s ≡ after_all sum 2 o these → sent_of s 0 1 ≡ 0
  sent_down s e = omega (arith, ap (λ (s : Session). sent_of s 0 1) e, sent_all sum 2 sum_ranging 0 1 o these (trusted o good) ordered pairs.1, no_messages o f 0 1, down_messages)

pub rounds_sent : RoundsSent
rounds_sent o f two n most c (runs_rounds y z small places log place enough room) =
    let d = rounds_done o f two y z small n most places log place enough room in (
      d.none_refused,
      ap length d.all_accepted ∙ rounds_length y z n,
      d.counted ∙ messages_said o f two y z small n most,
      d.moved ∙ ap (λ (k : ℕ). place + k) (bits_said o f two y z small n most),
      sent_up o f two y z small n most (result o c).session d.session_is,
      sent_down o f two y z small n most (result o c).session d.session_is,
    )

pub rounds_exact : RoundsExact
rounds_exact o f two n most c (runs_rounds y z small places log place enough room) =
    let d = rounds_done o f two y z small n most places log place enough room in
    let off = rounds_off n in
    let sent = sent_up o f two y z small n most (result o c).session d.session_is in
    rw (d.all_accepted, own_up y z o.tree n) (off.0, off.1, off.2, off.3, omega (arith, off.3, sent))

-- ---- they can be had

abbrev two_nodes_tree : Tree
two_nodes_tree = record { count = 2; parents = replicate 256 0 }

its_rule : InRule two_nodes_tree.parents two_nodes_tree.count
its_rule = record { some = omega arith; few = omega arith; grown = λ i some few. rw (all_same {A = ℕ} 0 256 i) some; unused = λ i h j. all_same 0 256 i }

pub rounds_there : RoundsThere
rounds_there n most = (
  ((started_of two_nodes_tree).session, started two_nodes_tree refl accepted, ap (λ (d : Started). d.session.tree.count) (begins two_nodes_tree its_rule)),
  (_, runs_rounds (λ k. pos 0) (λ k. pos 0) (λ k. (refl, refl)) (replicate n (pos 0)) (replicate 35832 0) 0 (omega (arith, length-replicate n (pos 0))) (omega (arith, length-replicate {A = ℕ} 35832 0))),
)
  where
    accepted : (started_of two_nodes_tree).refusal ≡ 0
    accepted = (fresh_exactly two_nodes_tree).1 its_rule
