-- Which name Bitcoin Core gives an opcode's failure (`ScriptError`), by the order of the tests in `EvalScript`.
use Rattle.std.specs.Prelude.{ℕ, ◌+◌, ◌==◌, List, [], ◌∷◌, length, drop, Option, Some, None, Result, Ok, Err, nat_lt, nat_le, ◌&&◌, if◌then◌else◌}
use Rattle.std.specs.Option.{option_map_or}
use Rattle.script.specs.Num.{operand}
use Rattle.interp.specs.Limits.{max_ops, max_keys, max_number_size, max_lock_size}
use Rattle.interp.specs.Stack.{Stack, Bytes}
use Rattle.interp.specs.Elements.{natural}
use Rattle.interp.specs.declared.script_error.ScriptError.{ScriptError}
use Rattle.interp.specs.declared.script_error.ScriptError.TheVariants.{UnknownError, OpReturn, PushSize, OpCount, SigCount, PubkeyCount, Verify, EqualVerify, CheckMultisigVerify, CheckSigVerify, NumEqualVerify, BadOpcode, DisabledOpcode, InvalidStackOperation, InvalidAltstackOperation, UnbalancedConditional, NegativeLocktime, UnsatisfiedLocktime, SigDer}

-- ---- by the main stack that an opcode finds, and how many opcodes were counted with it
abbrev pub always : ScriptError → Stack → ℕ → ScriptError
always name main count = name

-- too few elements; else the other name
abbrev pub few : ℕ → ScriptError → Stack → ℕ → ScriptError
few n other main count = if nat_lt (length main) n then InvalidStackOperation else other

-- PICK and ROLL: two elements, the upper one a number; else it is no place among the others
abbrev pub place_name : Stack → ScriptError
place_name (a ∷ b ∷ rest) = option_map_or (λ z. InvalidStackOperation) (operand max_number_size a) UnknownError
place_name main = InvalidStackOperation

-- the locks of BIPs 65 and 112: an element, a number of at most five bytes that isn't negative; else it isn't kept
abbrev pub lock_name : Stack → ScriptError
lock_name [] = InvalidStackOperation
lock_name (a ∷ rest) =
    option_map_or (λ z. option_map_or (λ n. UnsatisfiedLocktime) (natural z) NegativeLocktime) (operand max_lock_size a) UnknownError

-- a number on top, from 0 to so many, else the name for what is beyond
abbrev pub within_or : ℕ → ScriptError → Option ℕ → Result ℕ ScriptError
within_or most beyond None = Err beyond
within_or most beyond (Some n) = if nat_lt most n then Err beyond else Ok n

abbrev pub count_of : ℕ → ScriptError → Bytes → Result ℕ ScriptError
count_of most beyond a = option_map_or (λ z. within_or most beyond (natural z)) (operand max_number_size a) (Err UnknownError)

unfoldable pub count_or : ℕ → ScriptError → Stack → Result ℕ ScriptError
count_or most beyond [] = Err InvalidStackOperation
count_or most beyond (a ∷ rest) = count_of most beyond a

-- CHECKMULTISIG: the number of keys, which are counted; the number of signatures; all elements; else a signature's shape
abbrev pub after_signatures : ℕ → Stack → Result ℕ ScriptError → ScriptError
after_signatures keys main (Err name) = name
after_signatures keys main (Ok signatures) = if nat_lt (length main) (keys + signatures + 3) then InvalidStackOperation else SigDer

abbrev pub after_keys : Stack → ℕ → Result ℕ ScriptError → ScriptError
after_keys main count (Err name) = name
after_keys main count (Ok keys) =
    if nat_lt max_ops (count + keys) then OpCount else after_signatures keys main (count_or keys SigCount (drop (keys + 1) main))

abbrev pub multisig_name : Stack → ℕ → ScriptError
multisig_name main count = after_keys main count (count_or max_keys PubkeyCount main)

-- ---- by the opcode's number, from and to
abbrev pub names : List (ℕ × ℕ × (Stack → ℕ → ScriptError))
names =
    (0x00, 0x4e, always PushSize)  -- pushes of bytes
    ∷ (0x63, 0x64, always UnbalancedConditional)  -- OP_IF, OP_NOTIF
    ∷ (0x67, 0x68, always UnbalancedConditional)  -- OP_ELSE, OP_ENDIF
    ∷ (0x69, 0x69, few 1 Verify)  -- OP_VERIFY
    ∷ (0x6a, 0x6a, always OpReturn)  -- OP_RETURN
    ∷ (0x6b, 0x6b, always InvalidStackOperation)  -- OP_TOALTSTACK
    ∷ (0x6c, 0x6c, always InvalidAltstackOperation)  -- OP_FROMALTSTACK
    ∷ (0x6d, 0x78, always InvalidStackOperation)  -- OP_2DROP to OP_OVER
    ∷ (0x79, 0x7a, λ main count. place_name main)  -- OP_PICK, OP_ROLL
    ∷ (0x7b, 0x7d, always InvalidStackOperation)  -- OP_ROT, OP_SWAP, OP_TUCK
    ∷ (0x7e, 0x81, always DisabledOpcode)  -- OP_CAT to OP_RIGHT
    ∷ (0x82, 0x82, always InvalidStackOperation)  -- OP_SIZE
    ∷ (0x83, 0x86, always DisabledOpcode)  -- OP_INVERT to OP_XOR
    ∷ (0x87, 0x88, always InvalidStackOperation)  -- OP_EQUAL, OP_EQUALVERIFY
    ∷ (0x8b, 0x8c, few 1 UnknownError)  -- OP_1ADD, OP_1SUB
    ∷ (0x8d, 0x8e, always DisabledOpcode)  -- OP_2MUL, OP_2DIV
    ∷ (0x8f, 0x92, few 1 UnknownError)  -- OP_NEGATE to OP_0NOTEQUAL
    ∷ (0x93, 0x94, few 2 UnknownError)  -- OP_ADD, OP_SUB
    ∷ (0x95, 0x99, always DisabledOpcode)  -- OP_MUL to OP_RSHIFT
    ∷ (0x9a, 0xa4, few 2 UnknownError)  -- OP_BOOLAND to OP_MAX
    ∷ (0xa5, 0xa5, few 3 UnknownError)  -- OP_WITHIN
    ∷ (0xa6, 0xaa, always InvalidStackOperation)  -- OP_RIPEMD160 to OP_HASH256
    ∷ (0xac, 0xad, few 2 SigDer)  -- OP_CHECKSIG, OP_CHECKSIGVERIFY
    ∷ (0xae, 0xaf, multisig_name)  -- OP_CHECKMULTISIG, OP_CHECKMULTISIGVERIFY
    ∷ (0xb1, 0xb2, λ main count. lock_name main)  -- OP_CHECKLOCKTIMEVERIFY, OP_CHECKSEQUENCEVERIFY
    ∷ []

-- one that is in no row has no meaning, or never fails
abbrev pub name_among : List (ℕ × ℕ × (Stack → ℕ → ScriptError)) → ℕ → Stack → ℕ → ScriptError
name_among [] number main count = BadOpcode
name_among (row ∷ others) number main count =
    if nat_le row.0 number && nat_le number row.1 then row.2 main count else name_among others number main count

unfoldable pub name_at : ℕ → Stack → ℕ → ScriptError
name_at number main count = name_among names number main count

-- the test of an opcode that verifies was done, and its answer is false
unfoldable pub verify_name : ℕ → ScriptError
verify_name number =
    if number == 0x88 then EqualVerify
    else (if number == 0x9d then NumEqualVerify
    else (if number == 0xad then CheckSigVerify
    else CheckMultisigVerify))
