-- Document 01's path, worked: the last combine's sum, and the messages of all pairs together.
use mathlib.Core.Path.{◌≡◌, refl}
use mathlib.Core.List.{List, [], ◌∷◌, ◌++◌}
use lib.IntN.{pos}
use lib.ListN.{replicate}
use Rattle.tree.specs.Operation.{fold, sum}
use Rattle.tree.specs.Sides.{climb, below}
use Rattle.tree.specs.declared.Tree.{Tree}
use Rattle.rule.specs.Pair.{belongs, own, next, price, messages}
use Rattle.requests.specs.declared.Request.{Request}
use Rattle.requests.specs.declared.Request.TheVariants.{Combine, Write}
use Rattle.history.specs.History.{last_written, own_of, all_pairs}

abbrev path : Tree
path = record { count = 3; parents = 0 ∷ 0 ∷ 1 ∷ replicate 253 0 }

abbrev earlier : List Request
earlier = Combine 0 ∷ Write 2 (pos 5) ∷ Combine 0 ∷ Write 2 (pos 7) ∷ Write 2 (pos 9) ∷ []

path_sum : fold sum (λ u. last_written u (pos 0) earlier) path.count ≡ pos 9
unfolding last_written
path_sum = refl

path_messages : all_pairs path (λ u v. messages 2 0 (own_of path u v (earlier ++ (Combine 0 ∷ [])))) ≡ 16
unfolding climb below belongs own next price messages
path_messages = refl
