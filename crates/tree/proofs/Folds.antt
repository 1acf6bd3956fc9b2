-- Folds of any operation: how they are split, swapped and taken apart.
use mathlib.Core.Path.{◌≡◌, refl, sym, ap, ◌∙◌}
use mathlib.Core.Bool.{Bool, true, false, not, ◌&&◌, true≢false, false≢true}
use mathlib.Core.Logic.{◌≢◌, ◌⊎◌, inl, inr}
use Prim.Native.Nat.{ℕ, zero, suc, ◌<◌}
use native.Mathlib.Nat.{not-suc-le-zero, le_of_suc-le-suc, eq-or-lt_of_le}
use native.Mathlib.Decide.{ℕ_discrete}
use native.Mathlib.Omega.{arith}
use lib.Dec.{eqb}
use borrow.Author.Tests.{eq-eqb, ne_eqb}
use Rattle.tree.specs.Operation.{Op, fold, pick, aggregate}

-- what holds of each pair of terms, and goes through both operations, holds of the folds
module _ {A B : Type 0} (o : Op A) (q : Op B) (R : A → B → Type 0) (r-ε : R o.ε q.ε)
    (r-⊕ : (a b : A) (c d : B) → R a c → R b d → R (o.◌⊕◌ a b) (q.◌⊕◌ c d)) where
  pub related : (f : ℕ → A) (g : ℕ → B) (n : ℕ) → ((j : ℕ) → j < n → R (f j) (g j)) → R (fold o f n) (fold q g n)
  related f g zero h = r-ε
  related f g (suc n) h = r-⊕ (fold o f n) (f n) (fold q g n) (g n) (related f g n (λ j k. h j (omega arith))) (h n (omega arith))

module _ {A : Type 0} (op : Op A) where
  open op use {◌⊕◌, ε, assoc, comm, idem}

  infixl 60 ◌⊕◌
  pub same : (f g : ℕ → A) (n : ℕ) → ((j : ℕ) → j < n → f j ≡ g j) → fold op f n ≡ fold op g n
  same = related op op (λ a b. a ≡ b) refl (λ a b c d p e. cc)

  -- ε at the end changes no fold
  absorb : (f : ℕ → A) (n : ℕ) → fold op f n ⊕ ε ≡ fold op f n
  absorb f zero = idem
  absorb f (suc n) = let e = absorb f n in cc (assoc (fold op f n) (f n) ε, comm (f n) ε, assoc (fold op f n) ε (f n))

  none : (n : ℕ) → fold op (λ j. ε) n ≡ ε
  none zero = refl
  none (suc n) = cc (none n, idem)

  swap4 : (a b c d : A) → (a ⊕ b) ⊕ (c ⊕ d) ≡ (a ⊕ c) ⊕ (b ⊕ d)
  swap4 a b c d = cc (assoc a b (c ⊕ d), assoc b c d, comm b c, assoc c b d, assoc a c (b ⊕ d))

  pub split : (f g : ℕ → A) (n : ℕ) → fold op (λ j. f j ⊕ g j) n ≡ fold op f n ⊕ fold op g n
  split f g zero = sym idem
  split f g (suc n) = let e = split f g n in cc (swap4 (fold op f n) (fold op g n) (f n) (g n))

  pub swap : (f : ℕ → ℕ → A) (m n : ℕ) → fold op (λ i. fold op (f i) m) n ≡ fold op (λ j. fold op (λ i. f i j) n) m
  swap f m zero = sym (none m)
  swap f m (suc n) = let e = swap f m n in let s = split (λ j. fold op (λ i. f i j) n) (f n) m in cc

  -- terms that are equal but for an ε
  pub alike : (f g : ℕ → A) (n : ℕ) → ((j : ℕ) → j < n → f j ⊕ ε ≡ g j ⊕ ε) → fold op f n ≡ fold op g n
  alike f g n h = plain f ∙ same (λ j. f j ⊕ ε) (λ j. g j ⊕ ε) n h ∙ sym (plain g)
    where
      plain : (f : ℕ → A) → fold op f n ≡ fold op (λ j. f j ⊕ ε) n
      plain f = sym (split f (λ j. ε) n ∙ ap (λ e. fold op f n ⊕ e) (none n) ∙ absorb f n)

  -- no term but ε; and one
  pub zeros : (f : ℕ → A) (n : ℕ) → ((j : ℕ) → j < n → f j ≡ ε) → fold op f n ≡ ε
  zeros f n h = same f (λ j. ε) n h ∙ none n

  pub only : (f : ℕ → A) (n k : ℕ) → k < n → ((j : ℕ) → j < n → j ≢ k → f j ≡ ε) → fold op f n ≡ f k ⊕ ε
  only f zero k h z = absurd (not-suc-le-zero h)
  only f (suc n) k h z = go (λ l. only f n k l (λ j i. z j (omega arith))) (eq-or-lt_of_le (le_of_suc-le-suc h))
    where
      go : (k < n → fold op f n ≡ f k ⊕ ε) → (k ≡ n) ⊎ (k < n) → fold op f (suc n) ≡ f k ⊕ ε
      go r (inl e) = let b : fold op f n ≡ ε = zeros f n (λ j i. z j (omega arith) (omega arith)) in cc (comm ε (f n))
      go r (inr l) = let a = r l in let b : f n ≡ ε = z n (omega arith) (omega arith) in cc (absorb f n)

  -- a test that does not depend on the place goes outside
  pub out : (b : Bool) (f : ℕ → A) (n : ℕ) → pick op b (fold op f n) ≡ fold op (λ j. pick op b (f j)) n
  out true f n = refl
  out false f n = sym (none n)

  -- of terms that are chosen by one test and kept by another
  pub chosen : (s a q r : Bool) (x : A) → (s && a) ≡ true → (s ≡ true → a ≡ true → q ≡ r) → pick op (a && q) (pick op s x) ≡ pick op r x
  chosen true true q r x e k = ap (λ b. pick op b x) (k refl refl)
  chosen true false q r x e k = absurd (false≢true e)
  chosen false a q r x e k = absurd (false≢true e)

  pub unchosen : (s a q : Bool) (x : A) → (s && a) ≡ false → pick op (a && q) (pick op s x) ≡ ε
  unchosen true true q x e = absurd (true≢false e)
  unchosen true false q x e = refl
  unchosen false true true x e = refl
  unchosen false true false x e = refl
  unchosen false false q x e = refl

  -- the same nodes
  pub same_nodes : (P Q : ℕ → Bool) (f : ℕ → A) (n : ℕ) → ((j : ℕ) → j < n → P j ≡ Q j) → aggregate op f P n ≡ aggregate op f Q n
  same_nodes P Q f n h = same (λ j. pick op (P j) (f j)) (λ j. pick op (Q j) (f j)) n (λ j l. ap (λ b. pick op b (f j)) (h j l))

  -- the same values at those nodes
  pub same_where : (P : ℕ → Bool) (f g : ℕ → A) (n : ℕ) → ((j : ℕ) → j < n → P j ≡ true → f j ≡ g j) → aggregate op f P n ≡ aggregate op g P n
  same_where P f g n h = same (λ j. pick op (P j) (f j)) (λ j. pick op (P j) (g j)) n (λ j l. one (P j) (f j) (g j) (h j l))
    where
      one : (b : Bool) (x y : A) → (b ≡ true → x ≡ y) → pick op b x ≡ pick op b y
      one true x y e = e refl
      one false x y e = refl

  -- the nodes that pass a test and those that do not are all
  pub parts : (P : ℕ → Bool) (f : ℕ → A) (n : ℕ) → aggregate op f P n ⊕ aggregate op f (λ j. not (P j)) n ≡ fold op f n
  parts P f n =
      sym (split (λ j. pick op (P j) (f j)) (λ j. pick op (not (P j)) (f j)) n)
      ∙ alike (λ j. pick op (P j) (f j) ⊕ pick op (not (P j)) (f j)) f n (λ j h. one (P j) (f j))
    where
      one : (b : Bool) (x : A) → (pick op b x ⊕ pick op (not b) x) ⊕ ε ≡ x ⊕ ε
      one true x = cc (assoc x ε ε)
      one false x = cc (comm ε x, assoc x ε ε)

  -- one node taken out of an aggregate
  pub pull : (P : ℕ → Bool) (f : ℕ → A) (n u : ℕ) → u < n → P u ≡ true
      → aggregate op f P n ≡ f u ⊕ aggregate op f (λ j. not (eqb j u) && P j) n
  pull P f n u h t =
      alike (λ j. pick op (P j) (f j)) (λ j. here j ⊕ rest j) n (λ j l. one j (ℕ_discrete j u))
      ∙ split here rest n ∙ cc (only here n u h (λ j l d. rw (ne_eqb j u d)), at_u, assoc (f u) ε (fold op rest n), comm ε (fold op rest n), absorb rest n)
    where
      here : ℕ → A
      here j = pick op (eqb j u) (f j)

      rest : ℕ → A
      rest j = pick op (not (eqb j u) && P j) (f j)

      at_u : here u ≡ f u
      at_u = rw (eq-eqb u u refl)

      one : (j : ℕ) → Dec (j ≡ u) → pick op (P j) (f j) ⊕ ε ≡ (here j ⊕ rest j) ⊕ ε
      one j (yes e) = rw (eq-eqb j u e, ap P e ∙ t) (cc (assoc (f j) ε ε, idem))
      one j (no d) = rw (ne_eqb j u d) (cc (comm ε (pick op (P j) (f j)), assoc (pick op (P j) (f j)) ε ε, idem))
