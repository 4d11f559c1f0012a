-- What is reported about scripts and inputs with the name of a failure, by what is known of signatures.
use Rattle.std.specs.Prelude.{◌≡◌, ◌≢◌, ◌⊎◌, ℕ, ◌^◌, ◌/◌, ◌%◌, ◌==◌, ◌<◌, Bool, List, length, map, reverse, sum_by, Result, Ok, Err}
use Rattle.std.specs.List.{flat_map}
use Rattle.txn.specs.Tx.{Tx}
use Rattle.signatures.specs.Known.{Verdicts, AreApart, verdict_in}
use Rattle.signatures.specs.Lines.{IsFirstBad}
use Rattle.signatures.specs.Triple.{Triple}
use Rattle.interp.specs.Answer.{Answer, Says, Wants}
use Rattle.interp.specs.Question.{question}
use Rattle.interp.specs.Stack.{Stack}
use Rattle.interp.specs.computed.NamedFailures.{verify_script}
use Rattle.interp.specs.declared.flags.Flags.{Flags}
use Rattle.interp.specs.declared.script_error.ScriptError.{ScriptError}
use Rattle.interp.specs.declared.script_error.ScriptError.TheVariants.{UnknownError, EvalFalse, OpReturn, ScriptSize, PushSize, OpCount, StackSize, SigCount, PubkeyCount, Verify, EqualVerify, CheckMultisigVerify, CheckSigVerify, NumEqualVerify, BadOpcode, DisabledOpcode, InvalidStackOperation, InvalidAltstackOperation, UnbalancedConditional, NegativeLocktime, UnsatisfiedLocktime, SigDer, SigPushOnly, SigNullDummy}
use Rattle.ffi.specs.declared.shown.ShownStack.{ShownStack}
use Rattle.ffi.specs.Known.{AreOf, Asked, IsLineTold, asked_of}
use Rattle.ffi.specs.Tables.{line_of}
use Rattle.ffi.specs.Room.{IsAtFront}

-- Bitcoin Core's numbers (`script_error.h`)
abbrev pub number_of : ScriptError → ℕ
number_of UnknownError = 1
number_of EvalFalse = 2
number_of OpReturn = 3
number_of ScriptSize = 4
number_of PushSize = 5
number_of OpCount = 6
number_of StackSize = 7
number_of SigCount = 8
number_of PubkeyCount = 9
number_of Verify = 10
number_of EqualVerify = 11
number_of CheckMultisigVerify = 12
number_of CheckSigVerify = 13
number_of NumEqualVerify = 14
number_of BadOpcode = 15
number_of DisabledOpcode = 16
number_of InvalidStackOperation = 17
number_of InvalidAltstackOperation = 18
number_of UnbalancedConditional = 19
number_of NegativeLocktime = 20
number_of UnsatisfiedLocktime = 21
number_of SigDer = 23
number_of SigPushOnly = 25
number_of SigNullDummy = 27

-- 0 where there is no failure
abbrev pub failure_number : {A : Type 0} → Result A ScriptError → ℕ
failure_number (Ok x) = 0
failure_number (Err name) = number_of name

-- by Bitcoin Core's bits (`SCRIPT_VERIFY_P2SH`, `_DERSIG`, `_NULLDUMMY`, `_CHECKLOCKTIMEVERIFY`, `_CHECKSEQUENCEVERIFY`)
abbrev pub has_bit : ℕ → ℕ → Bool
has_bit weight n = (n / weight) % 2 == 1

abbrev pub flags_in : ℕ → Flags
flags_in n = record { p2sh = has_bit 1 n; dersig = has_bit 4 n; cltv = has_bit 512 n; csv = has_bit 1024 n; nulldummy = has_bit 16 n }

-- ---- by what is known

-- What is known suffices for an answer, which is reported; or the line of a triple is, which has to be found out first; or
-- there was no memory.
abbrev pub IsAnswered : {A : Type 0} → Answer A → (A → Type 0) → Type 0 → Asked → Asked → ℕ → Type 0
IsAnswered {A} answer told kept before after result =
    ((x : A) × (answer ≡ Says x) × told x × (after ≡ before))
    ⊎ (((t : Triple) × (answer ≡ Wants t) × IsLineTold t before after result × kept)
    ⊎ ((result ≡ 1) × (after ≡ before) × kept))

-- What two tables say is known. A line of one can't be read, and only that is reported; or a triple is in both.
abbrev pub IsByTables : List (List ℕ) → List (List ℕ) → (Verdicts → Type 0) → ℕ → ℕ → Type 0 → ℕ → Type 0
IsByTables valid invalid told before line kept result =
    ((found : Verdicts) × AreOf valid invalid found × (line ≡ before) × told found)
    ⊎ ((((found : Verdicts) × AreOf valid invalid found × (AreApart found.valid found.invalid → ⊥) × (line ≡ before) × (result ≡ 30))
    ⊎ (((IsFirstBad valid line ⊎ IsFirstBad invalid line) × (result ≡ 3))
    ⊎ ((line ≡ before) × (result ≡ 1)))) × kept)

-- of an input that there is; for another one nothing is reported
abbrev pub IsOfOne : Tx → ℕ → Type 0 → Type 0 → ℕ → Type 0
IsOfOne tx input told kept result = ((input < length tx.inputs) × told) ⊎ (((input < length tx.inputs) → ⊥) × (result ≡ 24) × kept)

-- ---- an input

-- what is reported about an input: the line of a table that can't be read, the number of a failure, and the line that is asked for
pub record Told : Type 0 where
  pub line : ℕ
  pub error : ℕ
  pub asked : Asked

abbrev pub told_of : ℕ → ℕ → List ℕ → ℕ → Told
told_of line error room count = record { line = line; error = error; asked = asked_of room count }

-- why an input may not spend a script, by what is known of signatures: the number of the failure, 0 where it may
abbrev pub IsNamed : Tx → ℕ → List ℕ → ℕ → Verdicts → Told → Told → ℕ → Type 0
IsNamed tx input spent flags found before after result =
    IsAnswered (verify_script (verdict_in found) (question tx input spent (flags_in flags)))
    (λ failed. (result ≡ 0) × (after.error ≡ failure_number failed))
    (after.error ≡ before.error) before.asked after.asked result

-- the same by two tables, of an input that there is; for another one nothing is reported
abbrev pub IsInputNamed : Tx → ℕ → List ℕ → ℕ → List (List ℕ) → List (List ℕ) → Told → Told → ℕ → Type 0
IsInputNamed tx input spent flags valid invalid before after result =
    let kept = (after.asked ≡ before.asked) × (after.error ≡ before.error) in
    IsOfOne tx input
    (IsByTables valid invalid (λ found. IsNamed tx input spent flags found before after result) before.line after.line kept result)
    ((after.line ≡ before.line) × kept) result

-- by verdicts that are kept, of an input that there is; no line of a table is reported
abbrev pub IsInputKnown : Tx → ℕ → List ℕ → ℕ → Verdicts → Told → Told → ℕ → Type 0
IsInputKnown tx input spent flags found before after result =
    let kept = (after.asked ≡ before.asked) × (after.error ≡ before.error) in
    (after.line ≡ before.line) × IsOfOne tx input (IsNamed tx input spent flags found before after result) kept result

-- ---- stacks: the lengths of the elements from the bottom up, and their bytes together

abbrev pub sizes_of : Stack → List ℕ
sizes_of stack = map (λ element. length element) (reverse stack)

abbrev pub bytes_in : Stack → List ℕ
bytes_in stack = flat_map (λ element. element) (reverse stack)

abbrev pub all_sizes : List ℕ → ℕ
all_sizes sizes = sum_by (λ size. size) sizes

-- a stack has these, or the bytes are more or fewer than the lengths say
abbrev pub IsOfStack : List ℕ → List ℕ → (Stack → Type 0) → Type 0 → ℕ → Type 0
IsOfStack sizes bytes told kept result =
    ((stack : Stack) × (sizes_of stack ≡ sizes) × (bytes_in stack ≡ bytes) × told stack)
    ⊎ ((((all_sizes sizes ≢ length bytes) × (result ≡ 25)) ⊎ (result ≡ 1)) × kept)

-- what is passed for a stack that is left: its room for lengths, and for bytes
pub record Rooms : Type 0 where
  pub sizes : List ℕ
  pub bytes : List ℕ

abbrev pub rooms : List ℕ → List ℕ → Rooms
rooms sizes bytes = record { sizes = sizes; bytes = bytes }

-- the stack is there, or there is no room for it
abbrev pub IsStackPut : Stack → Rooms → Rooms → ℕ → Type 0
IsStackPut stack before after result =
    ((result ≡ 0) × IsAtFront (sizes_of stack) before.sizes after.sizes × IsAtFront (bytes_in stack) before.bytes after.bytes)
    ⊎ ((result ≡ 5) × ((length before.sizes < length (sizes_of stack)) ⊎ (length before.bytes < length (bytes_in stack))) × (after ≡ before))

-- a triple's line is there, or there is no room for it, which isn't the number of a stack that has none; how many bytes it has
-- is reported in both cases
abbrev pub IsLineAsked : Triple → Asked → Asked → ℕ → Type 0
IsLineAsked t before after result =
    let line = line_of t.key t.signature t.digest in
    (((result ≡ 29) × IsAtFront line before.room after.room)
    ⊎ ((result ≡ 32) × (length before.room < length line) × (after.room ≡ before.room)))
    × (after.count ≡ length line)

-- `IsAnswered`, where a line without room has a number of its own
abbrev pub IsRunAnswered : {A : Type 0} → Answer A → (A → Type 0) → Type 0 → Asked → Asked → ℕ → Type 0
IsRunAnswered {A} answer told kept before after result =
    ((x : A) × (answer ≡ Says x) × told x × (after ≡ before))
    ⊎ (((t : Triple) × (answer ≡ Wants t) × IsLineAsked t before after result × kept)
    ⊎ ((result ≡ 1) × (after ≡ before) × kept))

-- a stack that is left, and how large it is in both cases; or the number of the failure
abbrev pub IsLeftTold : Result Stack ScriptError → ShownStack → Rooms → Rooms → ℕ → Type 0
IsLeftTold (Ok stack) shown before after result =
    (shown ≡ record { elements = length (sizes_of stack); size = length (bytes_in stack); error = 0 }) × IsStackPut stack before after result
IsLeftTold (Err name) shown before after result =
    (shown ≡ record { elements = 0; size = 0; error = number_of name }) × (result ≡ 0) × (after ≡ before)
