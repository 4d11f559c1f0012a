-- The verdict on an input's witness (BIP 141; Bitcoin Core's `VerifyWitnessProgram` and `ExecuteWitnessScript`).
use Rattle.std.specs.Prelude.{ℕ, ◌==◌, ℤ, List, [], ◌∷◌, ◌++◌, length, reverse, Bool, true, false, nat_lt, if◌then◌else◌, Option, Some, None, slice_get}
use Rattle.std.specs.Option.{option_map_or}
use Rattle.std.specs.List.{list_any}
use Rattle.std.specs.Str.{bytes_eq}
use Rattle.sha2.specs.Sha256.{sha256}
use Rattle.script.specs.Programs.{Program, SpentProgram, spent_program}
use Rattle.txn.specs.declared.input.TxIn.{TxIn}
use Rattle.signatures.specs.Known.{Known}
use Rattle.interp.specs.Answer.{Answer, Says, answer_map}
use Rattle.interp.specs.Elements.{truth}
use Rattle.interp.specs.Limits.{max_element_size}
use Rattle.interp.specs.Question.{Question}
use Rattle.interp.specs.Running.{Running}
use Rattle.interp.specs.Stack.{Bytes, Stack}
use Rattle.interp.specs.computed.Step.{outcome}

-- the strings of the input's witness, the bottom first; none where it has none
abbrev pub witness_of : Question → List Bytes
witness_of q = option_map_or (λ strings. strings) (slice_get q.tx.witnesses q.input) []

-- ---- version 0
-- signatures sign the value that is spent too, and the code as it stands (BIP 143)
abbrev pub version0 : Question → ℤ → Running
version0 q value = record { tx = q.tx; input = q.input; flags = q.flags; value = Some value }

abbrev pub is_long : Bytes → Bool
is_long string = nat_lt max_element_size (length string)

-- a true element is left, and no other
abbrev pub is_clean : Option Stack → Bool
is_clean None = false
is_clean (Some []) = false
is_clean (Some (a ∷ [])) = truth a
is_clean (Some (a ∷ b ∷ rest)) = false

-- no string is too long, and the script leaves a true element alone
unfoldable pub execute : Known → Running → List ℕ → Stack → Answer Bool
execute known r script strings = if list_any is_long strings then Says false else answer_map is_clean (outcome known r script strings)

-- DUP HASH160, the hash, EQUALVERIFY CHECKSIG
abbrev pub key_hash_script : List ℕ → List ℕ
key_hash_script hash = 0x76 ∷ 0xa9 ∷ 20 ∷ (hash ++ 0x88 ∷ 0xac ∷ [])

-- a signature and a key
unfoldable pub key_hash_verdict : Known → Running → List ℕ → Stack → Answer Bool
key_hash_verdict known r hash strings = if length strings == 2 then execute known r (key_hash_script hash) strings else Says false

-- the top string is the script of which the program has the hash
unfoldable pub script_hash_verdict : Known → Running → List ℕ → Stack → Answer Bool
script_hash_verdict known r hash [] = Says false
script_hash_verdict known r hash (script ∷ strings) = if bytes_eq (sha256 script) hash then execute known r script strings else Says false

-- of 20 bytes it is a key's hash, of 32 a script's
unfoldable pub verdict0 : Known → Running → List ℕ → Stack → Answer Bool
verdict0 known r program strings =
    if length program == 20 then key_hash_verdict known r program strings
    else (if length program == 32 then script_hash_verdict known r program strings
    else Says false)

-- ---- all versions
-- a version that has no meaning yet accepts
abbrev pub program_verdict : Known → Question → ℤ → Program → Answer Bool
program_verdict known q value program =
    if program.version == 0 then verdict0 known (version0 q value) program.bytes (reverse (witness_of q)) else Says true

-- without a program there is no witness; with one the input script is exactly what it has to be
abbrev pub by_program : Known → Question → ℤ → Option SpentProgram → Answer Bool
by_program known q value None = Says (length (witness_of q) == 0)
by_program known q value (Some found) = if found.is_exact then program_verdict known q value found.program else Says false

unfoldable pub witness_with : Known → Question → ℤ → List ℕ → Answer Bool
witness_with known q value script = by_program known q value (spent_program script q.spent)

abbrev pub witness_of_input : Known → Question → ℤ → Option TxIn → Answer Bool
witness_of_input known q value (Some own) = witness_with known q value own.script
witness_of_input known q value None = Says false

-- of an input that spends an output of this value; no where there is no such input
unfoldable pub witness_verdict : Known → Question → ℤ → Answer Bool
witness_verdict known q value = witness_of_input known q value (slice_get q.tx.inputs q.input)
