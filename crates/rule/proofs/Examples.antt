-- Document 01's path, list combine 0, write 2 5, combine 0, write 2 7, write 2 9, combine 0: the definitions compute what it says.
use mathlib.Core.Path.{◌≡◌, refl}
use mathlib.Core.Bool.{Bool, true, false}
use mathlib.Core.List.{List, [], ◌∷◌}
use Rattle.rule.specs.Pair.{Request, combine, write, belongs, own, next, price, number_after, messages}

-- the kinds, and whether the node is on u's side of the pair: for (2,1) and (1,0) the writes at 2 are, the combines at 0 are not
abbrev requests : List (Request × Bool)
requests = (combine, false) ∷ (write, true) ∷ (combine, false) ∷ (write, true) ∷ (write, true) ∷ (combine, false) ∷ []

abbrev path : List Request
path = own (λ q. q.0) (λ q. q.1) requests

path_own : path ≡ combine ∷ write ∷ combine ∷ write ∷ write ∷ combine ∷ []
unfolding own belongs
path_own = refl

-- each of the two pairs sends 8 of the 16 messages, and ends with a lease
path_messages : messages 2 0 path ≡ 8
unfolding own belongs messages price next
path_messages = refl

path_number : number_after 2 0 path ≡ 2
unfolding own belongs number_after next
path_number = refl
