-- What a table's reader and its writer tell: 0 and what they answer, or the number of a refusal and zeros.
use Rattle.std.specs.Prelude.{ℕ, Result, Ok, Err, replicate}
use Rattle.refusal.specs.Numbers.{number}
use Rattle.refusal.specs.declared.Refusal.{Refusal}
use Rattle.tree.specs.declared.Tree.{Tree}

-- of reading: 0 and the tree, or the number of a refusal and zeros
pub record Reading : Type 0 where
  pub refusal : ℕ
  pub tree : Tree

-- of writing: 0 and the bytes written, or the number of a refusal and 0
pub record Written : Type 0 where
  pub refusal : ℕ
  pub bytes : ℕ

abbrev pub told_reading : Result Tree Refusal → Reading
told_reading (Ok t) = record { refusal = 0; tree = t }
told_reading (Err r) = record { refusal = number r; tree = record { count = 0; parents = replicate 256 0 } }

abbrev pub told_written : Result ℕ Refusal → Written
told_written (Ok n) = record { refusal = 0; bytes = n }
told_written (Err r) = record { refusal = number r; bytes = 0 }
