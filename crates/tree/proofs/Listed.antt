-- Lists given by a function of the place: read, changed at one place, compared.
use mathlib.Core.Path.{◌≡◌, refl, sym, ap, ◌∙◌}
use mathlib.Core.List.{List, [], ◌∷◌, ◌++◌}
use Prim.Native.Nat.{ℕ, zero, suc, ◌+◌, ◌-◌, ◌<◌, ◌≤◌}
use native.Mathlib.Nat.{not-suc-le-zero}
use native.Mathlib.Decide.{ℕ_discrete}
use native.Mathlib.Omega.{arith}
use lib.ListN.{length, get_or, set, take, drop, replicate, length-set, length-append, length-replicate, get_or-append, get_or-replicate}
use Rattle.std.proofs.lemmas.List.{length-drop, length-take-le, get_or_push, get_or-append_right, get_or-drop}
use lib.Seq.{ext_get_or, get_or-set_same, get_or-set_other}
use borrow.Author.Tests.{lt-ltb, le-ltb}
use Rattle.tree.specs.Sizes.{size_below, ones, listed, sizes}
use Rattle.tree.specs.Promises.{SizesRead}
use Rattle.tree.proofs.Cases.{either, order, lt_or_le}
use Rattle.tree.proofs.InRule.{in_rule_exactly}

pub listed_length : (f : ℕ → ℕ) (n : ℕ) → length (listed f n) ≡ n
unfolding listed
listed_length f zero = refl
listed_length f (suc n) = omega (arith, length-append (listed f n) (f n ∷ []), listed_length f n)

pub listed_read : (f : ℕ → ℕ) (n i : ℕ) → i < n → get_or (listed f n) i 0 ≡ f i
unfolding listed
listed_read f zero i h = absurd (not-suc-le-zero h)
listed_read f (suc n) i h = order i n
    (λ l. get_or-append (listed f n) (f n ∷ []) 0 i (omega (arith, listed_length f n)) ∙ listed_read f n i l)
    (λ e. get_or_push (listed f n) (f n) 0 i (listed_length f n ∙ sym e) ∙ ap f (sym e))
    (λ l. absurd (omega arith))

-- a list that reads as f is the list of f
is_listed : (l : List ℕ) (f : ℕ → ℕ) (n : ℕ) → length l ≡ n → ((i : ℕ) → i < n → get_or l i 0 ≡ f i) → l ≡ listed f n
is_listed l f n e h = ext_get_or 0 l (listed f n) (e ∙ sym (listed_length f n)) (λ i k. h i (omega arith) ∙ sym (listed_read f n i (omega arith)))

pub listed_same : (f g : ℕ → ℕ) (n : ℕ) → ((i : ℕ) → i < n → f i ≡ g i) → listed f n ≡ listed g n
listed_same f g n h = is_listed (listed f n) g n (listed_length f n) (λ i l. listed_read f n i l ∙ h i l)

pub listed_set : (f g : ℕ → ℕ) (n p a : ℕ) → p < n → g p ≡ a → ((i : ℕ) → i < n → (i ≡ p → ⊥) → f i ≡ g i) → set (listed f n) p a ≡ listed g n
listed_set f g n p a h here else = is_listed (set (listed f n) p a) g n (rw length-set (listed_length f n)) (λ i l. either (ℕ_discrete i p)
    (λ e. rw e (get_or-set_same (listed f n) p a 0 (omega (arith, listed_length f n)) ∙ sym here))
    (λ d. get_or-set_other (listed f n) p i a 0 d ∙ listed_read f n i l ∙ else i l d))

-- zeros of which the first n are made ones
pub ones_first : (n : ℕ) (zeros l : List ℕ) → n ≤ 256 → zeros ≡ replicate 256 0 → l ≡ replicate (length (take n zeros)) 1 → l ++ drop n zeros ≡ listed (ones n) 256
ones_first n zeros l h z e = is_listed (l ++ drop n zeros) (ones n) 256
    (omega (arith, length-append l (drop n zeros), length-drop n zeros, all, long))
    (λ i k. lt_or_le i n
    (λ m. rw (lt-ltb i n m) (get_or-append l (drop n zeros) 0 i (omega (arith, long)) ∙ rw e (get_or-replicate (length (take n zeros)) i 1 0 (omega (arith, short)))))
    (λ m. rw (le-ltb i n m) (get_or-append_right l (drop n zeros) n i 0 long m ∙ get_or-drop n zeros (i - n) 0 ∙ rw z (get_or-replicate 256 (n + (i - n)) 0 0 (omega arith)))))
  where
    all : length zeros ≡ 256
    all = ap length z ∙ length-replicate {A = ℕ} 256 0

    short : length (take n zeros) ≡ n
    short = length-take-le n zeros (omega (arith, all))

    long : length l ≡ n
    long = ap length e ∙ length-replicate {A = ℕ} (length (take n zeros)) 1 ∙ short

pub sizes_read : SizesRead
unfolding sizes
sizes_read ps n r i h = rw ((in_rule_exactly ps n).1 r) (listed_read (size_below ps n) 256 i h)
