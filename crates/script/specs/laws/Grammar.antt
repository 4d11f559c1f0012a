-- The grammar of scripts, of which the laws speak: how opcodes are spelled (Bitcoin Core's `GetScriptOp`).
use Rattle.std.specs.Prelude.{◌≡◌, ◌⊎◌, ℕ, ◌^◌, ◌<◌, List, [], ◌∷◌, ◌++◌, length}
use Rattle.std.specs.Int.{w16, w32, to_le_bytes}
use Rattle.std.specs.List.{AllByRecursion, concat}
use Rattle.script.specs.Op.{op_pushdata1, op_pushdata2, op_pushdata4}

-- numbers 0 to 75 push as many of the bytes that follow
abbrev pub IsDirectPush : ℕ → List ℕ → List ℕ → Type 0
IsDirectPush number pushed op = (number < op_pushdata1) × (length pushed ≡ number) × (op ≡ number ∷ pushed)

-- PUSHDATA1, PUSHDATA2 and PUSHDATA4 push what follows a length of one, two or four bytes, the lowest first
abbrev pub IsSizedPush : ℕ → List ℕ → List ℕ → Type 0
IsSizedPush number pushed op =
    ((number ≡ op_pushdata1) × (length pushed < 2 ^ 8) × (op ≡ op_pushdata1 ∷ length pushed ∷ pushed))
    ⊎ ((number ≡ op_pushdata2) × (length pushed < 2 ^ 16) × (op ≡ op_pushdata2 ∷ (to_le_bytes w16 (length pushed) ++ pushed)))
    ⊎ ((number ≡ op_pushdata4) × (length pushed < 2 ^ 32) × (op ≡ op_pushdata4 ∷ (to_le_bytes w32 (length pushed) ++ pushed)))

-- any other number stands alone
abbrev pub IsBare : ℕ → List ℕ → List ℕ → Type 0
IsBare number pushed op = (op_pushdata4 < number) × (pushed ≡ []) × (op ≡ number ∷ [])

-- the opcode of this number that pushes these bytes is spelled so
abbrev pub Spells : ℕ → List ℕ → List ℕ → Type 0
Spells number pushed op = IsDirectPush number pushed op ⊎ IsSizedPush number pushed op ⊎ IsBare number pushed op

-- a whole opcode with its bytes
abbrev pub IsOp : List ℕ → Type 0
IsOp op = (number : ℕ) × (pushed : List ℕ) × Spells number pushed op

-- no whole opcode stands at the front
abbrev pub BeginsNone : List ℕ → Type 0
BeginsNone bytes = (op more : List ℕ) → IsOp op → bytes ≡ op ++ more → ⊥

-- a push that is cut short: some bytes of an opcode, whose others are missing
abbrev pub IsCutShort : List ℕ → Type 0
IsCutShort bytes = (missing : List ℕ) × (0 < length bytes) × (0 < length missing) × IsOp (bytes ++ missing)

-- the script is these opcodes, one after the other, and then a rest that is empty or begins no whole opcode
pub record Splits (script : List ℕ) (ops : List (List ℕ)) (rest : List ℕ) : Type 0 where
  pub whole : script ≡ concat ops ++ rest
  pub each : AllByRecursion IsOp ops
  pub cut : BeginsNone rest

-- BIP 16: HASH160, a push of 20 bytes, EQUAL
abbrev pub IsP2sh : List ℕ → Type 0
IsP2sh script = (hash : List ℕ) × (length hash ≡ 20) × (script ≡ 0xa9 ∷ 20 ∷ (hash ++ 0x87 ∷ []))
