-- What every session has by its type, of what the checker knows of a session that is passed by value.
use mathlib.Core.Path.{◌≡◌, refl}
use mathlib.Core.Bool.{true}
use mathlib.Core.List.{List, [], ◌∷◌}
use Prim.Native.Nat.{ℕ, zero, suc, ◌^◌}
use lib.IntN.{ℤ, pos}
use lib.ListN.{get_or, length}
use lib.Signed.{mag}
use borrow.Author.Tests.{lt-ltb}
use mir.Val.{Val}
use denote.Array.{each}
use denote.Laws.{Is}
use denote.Shadow.{shadow}
use denote.Struct.Declared.{row}
use denote.Builtin.{One, Array, u8, i32, i64, u32}
use denote.RattleType.{RattleType}
use Rattle.twos.specs.Twos.{within}
use Rattle.session.specs.Holding.{Typed, Long}
use Rattle.session.specs.declared.Pairs.{Pairs}
use Rattle.session.specs.declared.Session.{Session}
use Rattle.session.specs.contracts.Pairs.{the_field as pairs_field}
use Rattle.session.specs.contracts.Session.{the_type}

-- an array has as many elements as its type says
array_long : (R : RattleType) (one : One R.mir) (n : ℕ) (xs : List R.Denot) (vs : List Val) → shadow ((Array R one n).own_val xs vs) → length xs ≡ n
array_long R one n xs vs a = a.1.0.1

-- and each i32 has 32 bits
each_small : (xs : List ℤ) (us : List Val) → shadow (each i32.Denot i32.own_val xs us) → (u : ℕ) → within 32 (get_or xs u (pos 0)) ≡ true
each_small [] us a u = refl
each_small (x ∷ xs) [] a u = absurd a
each_small (x ∷ xs) (v ∷ us) a zero = lt-ltb (mag x) (2 ^ 31) a.0.1
each_small (x ∷ xs) (v ∷ us) a (suc u) = each_small xs us a.1 u

pairs_long : (p : Pairs) (vs : List Val) → shadow (pairs_field.row.own_val (pairs_field.into p) vs) → Long p
pairs_long p vs a =
    record {
      leases = array_long u8 tt 256 p.lease _ a.1.1.0;
      caches = array_long i64 tt 256 p.cache _ a.1.1.1.0;
      counts = array_long u32 tt 256 p.messages _ a.1.1.1.1.0;
    }

pub typed : (s : Session) (v : Val) → Is (row the_type) s (v ∷ []) → Typed s
typed s v a =
    record {
      parents_long = array_long u8 tt 256 s.tree.parents _ a.1.1.0.1.1.1.0;
      values_long = array_long i32 tt 256 s.values _ a.1.1.1.0;
      values_small = each_small s.values _ a.1.1.1.0.1.1;
      up_long = pairs_long s.up _ a.1.1.1.1.0;
      down_long = pairs_long s.down _ a.1.1.1.1.1.0;
    }
