-- What each opcode of a group of the code does.
use Rattle.std.specs.Prelude.{ℕ, List, [], ◌∷◌, ℤ, pos, ◌+ℤ◌, ◌-ℤ◌, neg_ℤ, not, ◌&&◌, ◌||◌, int_lt, unsigned_abs}
use Rattle.std.specs.Int.{int_min, int_max}
use Rattle.sha1.specs.Sha1.{sha1}
use Rattle.sha2.specs.Sha256.{sha256}
use Rattle.ripemd.specs.Ripemd160.{ripemd160}
use Rattle.hash.specs.Double.{double_sha}
use Rattle.hash.specs.KeyHash.{hash160}
use Rattle.interp.specs.Stack.{Bytes}
use Rattle.interp.specs.Elements.{flag}
use Rattle.interp.specs.Row.{is_zero, num_eq}
use Rattle.interp.specs.declared.moves.Move.{Move}
use Rattle.interp.specs.declared.moves.Move.TheVariants.{Drop2, Dup2, Dup3, Over2, Rot2, Swap2, Drop1, Dup, Nip, Over, Rot, Swap, Tuck}
use Rattle.interp.specs.declared.numbers.Unary.{Unary}
use Rattle.interp.specs.declared.numbers.Unary.TheVariants.{Add1, Sub1, Negate, Abs, Not, NotZero}
use Rattle.interp.specs.declared.numbers.Binary.{Binary}
use Rattle.interp.specs.declared.numbers.Binary.TheVariants.{Add, Sub, BoolAnd, BoolOr, NumEqual, NumNotEqual, Less, Greater, LessOrEqual, GreaterOrEqual, Min, Max}
use Rattle.interp.specs.declared.hashes.Hash.{Hash}
use Rattle.interp.specs.declared.hashes.Hash.TheVariants.{Ripemd160, Sha1, Sha256, Hash160, DoubleSha256}

-- how many elements it takes, and which it leaves
abbrev pub move_of : Move → ℕ × List ℕ
move_of Drop2 = (2, [])
move_of Dup2 = (2, 0 ∷ 1 ∷ 0 ∷ 1 ∷ [])
move_of Dup3 = (3, 0 ∷ 1 ∷ 2 ∷ 0 ∷ 1 ∷ 2 ∷ [])
move_of Over2 = (4, 0 ∷ 1 ∷ 2 ∷ 3 ∷ 0 ∷ 1 ∷ [])
move_of Rot2 = (6, 2 ∷ 3 ∷ 4 ∷ 5 ∷ 0 ∷ 1 ∷ [])
move_of Swap2 = (4, 2 ∷ 3 ∷ 0 ∷ 1 ∷ [])
move_of Drop1 = (1, [])
move_of Dup = (1, 0 ∷ 0 ∷ [])
move_of Nip = (2, 1 ∷ [])
move_of Over = (2, 0 ∷ 1 ∷ 0 ∷ [])
move_of Rot = (3, 1 ∷ 2 ∷ 0 ∷ [])
move_of Swap = (2, 1 ∷ 0 ∷ [])
move_of Tuck = (2, 1 ∷ 0 ∷ 1 ∷ [])

abbrev pub unary_of : Unary → ℤ → ℤ
unary_of Add1 x = x +ℤ pos 1
unary_of Sub1 x = x -ℤ pos 1
unary_of Negate x = neg_ℤ x
unary_of Abs x = pos (unsigned_abs x)
unary_of Not x = flag (is_zero x)
unary_of NotZero x = flag (not (is_zero x))

abbrev pub binary_of : Binary → ℤ → ℤ → ℤ
binary_of Add x y = x +ℤ y
binary_of Sub x y = x -ℤ y
binary_of BoolAnd x y = flag (not (is_zero x) && not (is_zero y))
binary_of BoolOr x y = flag (not (is_zero x) || not (is_zero y))
binary_of NumEqual x y = flag (num_eq x y)
binary_of NumNotEqual x y = flag (not (num_eq x y))
binary_of Less x y = flag (int_lt x y)
binary_of Greater x y = flag (int_lt y x)
binary_of LessOrEqual x y = flag (not (int_lt y x))
binary_of GreaterOrEqual x y = flag (not (int_lt x y))
binary_of Min x y = int_min x y
binary_of Max x y = int_max x y

abbrev pub hash_of : Hash → Bytes → Bytes
hash_of Ripemd160 x = ripemd160 x
hash_of Sha1 x = sha1 x
hash_of Sha256 x = sha256 x
hash_of Hash160 x = hash160 x
hash_of DoubleSha256 x = double_sha x
