-- Signatures of an input (Bitcoin Core's `CheckSignatureEncoding`, `CheckSig` and `EvalScript`).
use Rattle.std.specs.Prelude.{◌≡◌, ◌⊎◌, ℕ, ◌-◌, ◌%◌, ◌^◌, ◌<◌, ◌≤◌, ◌==◌, List, [], ◌∷◌, ◌++◌, length, map, take, slice_index, Bool, true, false, not, ◌&&◌, nat_lt, if◌then◌else◌}
use Rattle.std.specs.Int.{w16, w32, to_le_bytes}
use Rattle.std.specs.FinSet as set
use Rattle.script.specs.Op.{op_pushdata1, op_pushdata2, op_pushdata4}
use Rattle.script.specs.Removal.{without}
use Rattle.sighash.specs.Digest.{digest_of}
use Rattle.signatures.specs.Shape.{IsStrict}
use Rattle.signatures.specs.Triple.{triple_of}
use Rattle.interp.specs.Stack.{Bytes}
use Rattle.interp.specs.ScriptContext.{Spending}
use Rattle.interp.specs.declared.flags.Flags.{Flags}

-- the shortest opcode by length that pushes these bytes
unfoldable pub push_of : Bytes → List ℕ
push_of bytes =
    if nat_lt (length bytes) op_pushdata1 then length bytes ∷ bytes
    else (if nat_lt (length bytes) (2 ^ 8) then op_pushdata1 ∷ length bytes ∷ bytes
    else (if nat_lt (length bytes) (2 ^ 16) then op_pushdata2 ∷ (to_le_bytes w16 (length bytes) ++ bytes)
    else op_pushdata4 ∷ (to_le_bytes w32 (length bytes % 2 ^ 32) ++ bytes)))

-- what is taken out of the code: pushes of the signatures, and CODESEPARATORs
abbrev pub pieces_of : List Bytes → List (List ℕ)
pieces_of signatures = map push_of signatures ++ (0xab ∷ []) ∷ []

-- the code as it is signed
abbrev pub signed_code : List ℕ → List Bytes → List ℕ
signed_code code signatures = without (pieces_of signatures) code

-- the last byte of a signature is its type; the bytes before it are the signature proper
abbrev pub type_of : Bytes → ℕ
type_of signature = slice_index signature (length signature - 1)

abbrev pub signature_proper : Bytes → Bytes
signature_proper signature = take (length signature - 1) signature

-- it isn't empty, and the table has it for this key over the digest of its type
unfoldable pub is_valid : Spending → List ℕ → Bytes → Bytes → Bool
is_valid p code signature key =
    not (length signature == 0)
    && set.contains p.triples (triple_of key (signature_proper signature) (digest_of p.tx p.input code (type_of signature)))

-- a signature may be tried where it is strictly encoded or empty (BIP 66), or that rule is out of force
abbrev pub MayBeTried : Flags → Bytes → Type 0
MayBeTried flags signature = flags.dersig ≡ true → IsStrict signature

-- BIP 147: where it is in force, the element more that CHECKMULTISIG takes is empty
abbrev pub MayBeDummy : Flags → Bytes → Type 0
MayBeDummy flags dummy = flags.nulldummy ≡ true → dummy ≡ []

-- From the top down: a valid pair uses up both, another pair the key alone. F when more signatures than keys are
-- left, T when no signature is left.
abbrev pub Tries : Spending → List ℕ → List Bytes → List Bytes → Bool → Type 0
Tries p code [] keys answer = answer ≡ true
Tries p code (signature ∷ signatures) [] answer = answer ≡ false
Tries p code (signature ∷ signatures) (key ∷ keys) answer =
    ((length keys < length signatures) × (answer ≡ false))
    ⊎ ((length signatures ≤ length keys) × MayBeTried p.flags signature
    × (((is_valid p code signature key ≡ true) × Tries p code signatures keys answer)
    ⊎ ((is_valid p code signature key ≡ false) × Tries p code (signature ∷ signatures) keys answer)))
