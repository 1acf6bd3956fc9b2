-- `entry::pairs` meets its contract: the passes over lease numbers, messages and caches, each over the root, the nodes from 1 on and the rest.
use mathlib.Core.Path.{refl, ap, ap₂, ◌∙◌}
use mathlib.Core.Bool.{◌&&◌}
use native.Mathlib.Omega.{arith}
use borrow.Author.Rules.{rules}
use lib.Dec.{leb}
use lib.IntN.{pos}
use lib.ListN.{get_or}
use Rattle.tree.specs.Ranges.{in_range}
use Rattle.tree.specs.Every.{every}
use Rattle.session.specs.inner.Passes.{near_size, pairs}
use Rattle.session.proofs.AllZero.{first_zero, rest_zero}
use Rattle.session.proofs.entry.pairs.Goals as goal

pub returns : goal.returns
unfolding pairs
returns c =
    let a = c.args in
    let n = c.from-n.ensures in
    let ls = a.lease.now in
    let ms = a.messages.now in
    let cs = a.cache.now in
    ap₂ ◌&&◌
    (ap₂ ◌&&◌
    (ap₂ ◌&&◌
    (ap₂ ◌&&◌ (c.none.ensures ∙ first_zero _ 0 ls _ 256 (search rules) (λ i. refl) (omega arith)) (c.every.ensures (λ i. leb (get_or ls i 0) 2) (λ i b l h p. search rules) ∙ ap (every _) n))
    (c.none-2.ensures ∙ rest_zero _ 0 ls _ 256 (search rules) (λ i. refl) _ _ n (omega arith)))
    (ap₂ ◌&&◌
    (ap₂ ◌&&◌ (c.none-3.ensures ∙ first_zero _ 0 ms _ 256 (search rules) (λ i. refl) (omega arith)) (c.every-2.ensures (λ i. leb (get_or ms i 0) a.twice) (λ i b l h p. search rules) ∙ ap (every _) n))
    (c.none-4.ensures ∙ rest_zero _ 0 ms _ 256 (search rules) (λ i. refl) _ _ n (omega arith))))
    (ap₂ ◌&&◌
    (ap₂ ◌&&◌ (c.none-5.ensures ∙ first_zero _ (pos 0) cs _ 256 (search rules) (λ i. refl) (omega arith)) (c.every-3.ensures (λ i. in_range (near_size a.count a.down (get_or a.sizes.now i 0)) (get_or cs i (pos 0))) (λ i b l h p. search rules) ∙ ap (every _) n))
    (c.none-6.ensures ∙ rest_zero _ (pos 0) cs _ 256 (search rules) (λ i. refl) _ _ n (omega arith)))
