-- What each opcode does, one row each.
use Rattle.std.specs.Prelude.{ℕ, ◌-◌, ◌==◌, List, [], ◌∷◌, length, Bool, true, false, not, ◌&&◌, ◌||◌, nat_lt, nat_le, if◌then◌else◌, Option, Some, None, pos, ℤ, ◌+ℤ◌, ◌-ℤ◌, neg_ℤ, int_lt, unsigned_abs}
use Rattle.std.specs.Int.{int_min, int_max}
use Rattle.txn.specs.Tx.{Tx}
use Rattle.sha1.specs.Sha1.{sha1}
use Rattle.sha2.specs.Sha256.{sha256}
use Rattle.ripemd.specs.Ripemd160.{ripemd160}
use Rattle.hash.specs.Double.{double_sha}
use Rattle.hash.specs.KeyHash.{hash160}
use Rattle.script.specs.Op.{pushed_of}
use Rattle.interp.specs.Limits.{max_element_size}
use Rattle.interp.specs.Stack.{Bytes, Stack}
use Rattle.interp.specs.State.{State}
use Rattle.interp.specs.Elements.{flag}
use Rattle.interp.specs.Effects.{push, moves, verify, if_dup, size, equal_bytes, digest, depth, one_number, two_numbers, within, pick, roll, on_main, to_alt, from_alt, branch, untaken_branch, turn, close}
use Rattle.interp.specs.declared.flags.Flags.{Flags}
use Rattle.interp.specs.Timelocks.{locks_until, locks_for}

-- what leaves T or F, or 1 or 0, and so has a form with VERIFY
pub data Check : Type 0 where
  Of : (Stack → Option Stack) → Check
  Sig : Check
  Multisig : Check

pub data Row : Type 0 where
  -- where it is executed; in a branch that isn't taken it does nothing
  Does : (State → Option State) → Row
  -- where it is executed, and in a branch that isn't taken
  Controls : (State → Option State) → (State → Option State) → Row
  Tests : Check → Row
  -- the same, and then VERIFY
  AndVerifies : Check → Row
  -- signed code begins after it
  Separates : Row
  -- where its rule is in force, fails unless the number on top, which stays, passes the test; else does nothing
  Asks : (Flags → Bool) → (Tx → ℕ → ℕ → Bool) → Row

-- fails, also in a branch that isn't taken
abbrev pub disabled : Row
disabled = Controls (λ s. None) (λ s. None)

-- fails where it is executed
abbrev pub fails : Row
fails = Does (λ s. None)

abbrev pub nothing : Row
nothing = Does (λ s. Some s)

abbrev pub changes : (Stack → Option Stack) → Row
changes f = Does (on_main f)

-- a test of numbers leaves 1 or 0
abbrev pub test : (ℤ → ℤ → Bool) → Stack → Option Stack
test f = two_numbers (λ x y. flag (f x y))

abbrev pub is_zero : ℤ → Bool
is_zero x = unsigned_abs x == 0

abbrev pub num_eq : ℤ → ℤ → Bool
num_eq x y = is_zero (x -ℤ y)

-- by the opcode's number; the elements that a row moves are named from the lowest
abbrev pub rows : List (ℕ × Row)
rows =
    let a : ℕ = 0 in let b : ℕ = 1 in let c : ℕ = 2 in let d : ℕ = 3 in let e : ℕ = 4 in let f : ℕ = 5 in
    (0x4f, changes (push (0x81 ∷ [])))  -- OP_1NEGATE
    ∷ (0x61, nothing)  -- OP_NOP
    ∷ (0x63, Controls (branch true) untaken_branch)  -- OP_IF
    ∷ (0x64, Controls (branch false) untaken_branch)  -- OP_NOTIF
    ∷ (0x65, disabled)  -- OP_VERIF
    ∷ (0x66, disabled)  -- OP_VERNOTIF
    ∷ (0x67, Controls turn turn)  -- OP_ELSE
    ∷ (0x68, Controls close close)  -- OP_ENDIF
    ∷ (0x69, changes verify)  -- OP_VERIFY
    ∷ (0x6b, Does to_alt)  -- OP_TOALTSTACK
    ∷ (0x6c, Does from_alt)  -- OP_FROMALTSTACK
    ∷ (0x6d, changes (moves 2 []))  -- OP_2DROP
    ∷ (0x6e, changes (moves 2 (a ∷ b ∷ a ∷ b ∷ [])))  -- OP_2DUP
    ∷ (0x6f, changes (moves 3 (a ∷ b ∷ c ∷ a ∷ b ∷ c ∷ [])))  -- OP_3DUP
    ∷ (0x70, changes (moves 4 (a ∷ b ∷ c ∷ d ∷ a ∷ b ∷ [])))  -- OP_2OVER
    ∷ (0x71, changes (moves 6 (c ∷ d ∷ e ∷ f ∷ a ∷ b ∷ [])))  -- OP_2ROT
    ∷ (0x72, changes (moves 4 (c ∷ d ∷ a ∷ b ∷ [])))  -- OP_2SWAP
    ∷ (0x73, changes if_dup)  -- OP_IFDUP
    ∷ (0x74, changes depth)  -- OP_DEPTH
    ∷ (0x75, changes (moves 1 []))  -- OP_DROP
    ∷ (0x76, changes (moves 1 (a ∷ a ∷ [])))  -- OP_DUP
    ∷ (0x77, changes (moves 2 (b ∷ [])))  -- OP_NIP
    ∷ (0x78, changes (moves 2 (a ∷ b ∷ a ∷ [])))  -- OP_OVER
    ∷ (0x79, changes pick)  -- OP_PICK
    ∷ (0x7a, changes roll)  -- OP_ROLL
    ∷ (0x7b, changes (moves 3 (b ∷ c ∷ a ∷ [])))  -- OP_ROT
    ∷ (0x7c, changes (moves 2 (b ∷ a ∷ [])))  -- OP_SWAP
    ∷ (0x7d, changes (moves 2 (b ∷ a ∷ b ∷ [])))  -- OP_TUCK
    ∷ (0x7e, disabled)  -- OP_CAT
    ∷ (0x7f, disabled)  -- OP_SUBSTR
    ∷ (0x80, disabled)  -- OP_LEFT
    ∷ (0x81, disabled)  -- OP_RIGHT
    ∷ (0x82, changes size)  -- OP_SIZE
    ∷ (0x83, disabled)  -- OP_INVERT
    ∷ (0x84, disabled)  -- OP_AND
    ∷ (0x85, disabled)  -- OP_OR
    ∷ (0x86, disabled)  -- OP_XOR
    ∷ (0x87, Tests (Of equal_bytes))  -- OP_EQUAL
    ∷ (0x88, AndVerifies (Of equal_bytes))  -- OP_EQUALVERIFY
    ∷ (0x8b, changes (one_number (λ x. x +ℤ pos 1)))  -- OP_1ADD
    ∷ (0x8c, changes (one_number (λ x. x -ℤ pos 1)))  -- OP_1SUB
    ∷ (0x8d, disabled)  -- OP_2MUL
    ∷ (0x8e, disabled)  -- OP_2DIV
    ∷ (0x8f, changes (one_number neg_ℤ))  -- OP_NEGATE
    ∷ (0x90, changes (one_number (λ x. pos (unsigned_abs x))))  -- OP_ABS
    ∷ (0x91, changes (one_number (λ x. flag (is_zero x))))  -- OP_NOT
    ∷ (0x92, changes (one_number (λ x. flag (not (is_zero x)))))  -- OP_0NOTEQUAL
    ∷ (0x93, changes (two_numbers ◌+ℤ◌))  -- OP_ADD
    ∷ (0x94, changes (two_numbers ◌-ℤ◌))  -- OP_SUB
    ∷ (0x95, disabled)  -- OP_MUL
    ∷ (0x96, disabled)  -- OP_DIV
    ∷ (0x97, disabled)  -- OP_MOD
    ∷ (0x98, disabled)  -- OP_LSHIFT
    ∷ (0x99, disabled)  -- OP_RSHIFT
    ∷ (0x9a, changes (test (λ x y. not (is_zero x) && not (is_zero y))))  -- OP_BOOLAND
    ∷ (0x9b, changes (test (λ x y. not (is_zero x) || not (is_zero y))))  -- OP_BOOLOR
    ∷ (0x9c, Tests (Of (test num_eq)))  -- OP_NUMEQUAL
    ∷ (0x9d, AndVerifies (Of (test num_eq)))  -- OP_NUMEQUALVERIFY
    ∷ (0x9e, changes (test (λ x y. not (num_eq x y))))  -- OP_NUMNOTEQUAL
    ∷ (0x9f, changes (test (λ x y. int_lt x y)))  -- OP_LESSTHAN
    ∷ (0xa0, changes (test (λ x y. int_lt y x)))  -- OP_GREATERTHAN
    ∷ (0xa1, changes (test (λ x y. not (int_lt y x))))  -- OP_LESSTHANOREQUAL
    ∷ (0xa2, changes (test (λ x y. not (int_lt x y))))  -- OP_GREATERTHANOREQUAL
    ∷ (0xa3, changes (two_numbers int_min))  -- OP_MIN
    ∷ (0xa4, changes (two_numbers int_max))  -- OP_MAX
    ∷ (0xa5, changes within)  -- OP_WITHIN
    ∷ (0xa6, changes (digest ripemd160))  -- OP_RIPEMD160
    ∷ (0xa7, changes (digest sha1))  -- OP_SHA1
    ∷ (0xa8, changes (digest sha256))  -- OP_SHA256
    ∷ (0xa9, changes (digest hash160))  -- OP_HASH160
    ∷ (0xaa, changes (digest double_sha))  -- OP_HASH256
    ∷ (0xab, Separates)  -- OP_CODESEPARATOR
    ∷ (0xac, Tests Sig)  -- OP_CHECKSIG
    ∷ (0xad, AndVerifies Sig)  -- OP_CHECKSIGVERIFY
    ∷ (0xae, Tests Multisig)  -- OP_CHECKMULTISIG
    ∷ (0xaf, AndVerifies Multisig)  -- OP_CHECKMULTISIGVERIFY
    ∷ (0xb0, nothing)  -- OP_NOP1
    ∷ (0xb1, Asks (λ flags. flags.cltv) locks_until)  -- OP_CHECKLOCKTIMEVERIFY
    ∷ (0xb2, Asks (λ flags. flags.csv) locks_for)  -- OP_CHECKSEQUENCEVERIFY
    ∷ []

-- an opcode without a row fails
abbrev pub row_among : List (ℕ × Row) → ℕ → Row
row_among [] number = fails
row_among (row ∷ others) number = if number == row.0 then row.1 else row_among others number

-- an opcode that is no push of bytes: 51 to 60 push 1 to 16, b3 to b9 do nothing, and the others have rows
unfoldable pub row_at : ℕ → Row
row_at number =
    if nat_le 0x51 number && nat_le number 0x60 then changes (push ((number - 0x50) ∷ []))
    else (if nat_le 0xb3 number && nat_le number 0xb9 then nothing else row_among rows number)

-- a push of too many bytes fails, also in a branch that isn't taken
unfoldable pub push_row : Bytes → Row
push_row bytes = if nat_lt max_element_size (length bytes) then disabled else changes (push bytes)

unfoldable pub row_of : List ℕ → Row
row_of [] = fails
row_of (number ∷ bytes) = if nat_lt number 0x4f then push_row (pushed_of (number ∷ bytes)) else row_at number
