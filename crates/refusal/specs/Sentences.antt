-- What a refusal is in words.
use Rattle.std.specs.Prelude.{List, ℕ, codes}
use Rattle.refusal.specs.declared.Refusal.{Refusal}
use Rattle.refusal.specs.declared.Refusal.TheVariants.{Short, NodeCount, Parent, LeftOver, ListCount, Unsound, NoNode, Limit, NoRoom, FewAnswers, Misfit}

-- what `{}` writes for a refusal
abbrev pub sentence : Refusal → List ℕ
sentence Short = codes "the bytes end before a field that is due"
sentence NodeCount = codes "the node count is 0 or above 256"
sentence Parent = codes "a parent is not smaller than its child"
sentence LeftOver = codes "a filling bit is set, or bytes are left over"
sentence ListCount = codes "the count of a list is above 4,096"
sentence Unsound = codes "the session is unsound"
sentence NoNode = codes "the node is not in the tree"
sentence Limit = codes "1,048,576 requests are already accepted"
sentence NoRoom = codes "there is too little room"
sentence FewAnswers = codes "there are fewer answer places than combines"
sentence Misfit = codes "a value does not fit its bits"
