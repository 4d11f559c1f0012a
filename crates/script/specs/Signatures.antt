-- Signature operations (Bitcoin Core's `GetSigOpCount`).
use Rattle.std.specs.Prelude.{ℕ, ◌+◌, ◌-◌, ◌==◌, List, [], ◌∷◌, ◌&&◌, ◌||◌, nat_le, fold, if◌then◌else◌}
use Rattle.script.specs.declared.signatures.Counting.{Counting}
use Rattle.script.specs.declared.signatures.Counting.TheVariants.{Plain, Accurate}
use Rattle.script.specs.Op.{number_of, pushed_of}
use Rattle.script.specs.Ops.{ops}
use Rattle.script.specs.Kinds.{is_push_only, is_p2sh}

-- what CHECKMULTISIG counts after an opcode of the number `before`: 20, or accurately what OP_1 to OP_16 name
abbrev pub keys : Counting → ℕ → ℕ
keys Plain before = 20
keys Accurate before = if nat_le 0x51 before && nat_le before 0x60 then before - 0x50 else 20

-- CHECKSIG and CHECKSIGVERIFY count 1, CHECKMULTISIG and CHECKMULTISIGVERIFY their keys
unfoldable pub op_sigops : Counting → ℕ → ℕ → ℕ
op_sigops counting before number =
    if (number == 0xac) || (number == 0xad) then 1
    else (if (number == 0xae) || (number == 0xaf) then keys counting before else 0)

-- the sum over opcodes, of which the first follows one of the number `before`
abbrev pub sigops_after : Counting → ℕ → List (List ℕ) → ℕ
sigops_after counting before [] = 0
sigops_after counting before (op ∷ others) =
    op_sigops counting before (number_of op) + sigops_after counting (number_of op) others

-- the sum over a script's opcodes, so up to a push that is cut short; the first follows none (ff is no opcode)
unfoldable pub sigops : Counting → List ℕ → ℕ
sigops counting script = sigops_after counting 0xff (ops script)

-- what the last opcode pushes: nothing, where there is none
unfoldable pub last_pushed : List ℕ → List ℕ
last_pushed script = fold (λ _ op. pushed_of op) [] (ops script)

-- BIP 16: the operations of the inner script, which is what the input script pushes last
unfoldable pub p2sh_sigops : List ℕ → List ℕ → ℕ
p2sh_sigops input spent =
    if is_p2sh spent && is_push_only input then sigops Accurate (last_pushed input) else 0
