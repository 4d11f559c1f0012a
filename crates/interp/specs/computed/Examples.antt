-- Worked rows: what the definitions compute of some scripts, whatever the transaction.
use Rattle.std.specs.Prelude.{◌≡◌, ℕ, List, [], ◌∷◌, Some, None, Bool, true, false, refl, if◌then◌else◌}
use Rattle.txn.specs.Tx.{Tx}
use Rattle.script.specs.Op.{pushed_of}
use Rattle.script.specs.Ops.{ops, operand_len, rest}
use Rattle.script.specs.Num.{operand, num_value, shortest_bytes, shortest_bytes_with}
use Rattle.interp.specs.Elements.{truth}
use Rattle.signatures.specs.Known.{Known}
use Rattle.interp.specs.Answer.{Says}
use Rattle.interp.specs.Question.{question}
use Rattle.interp.specs.Running.{Running, base}
use Rattle.interp.specs.computed.Signatures.{may_be_dummy, pairs_verdict}
use Rattle.interp.specs.Row.{row_at, row_of, push_row}
use Rattle.interp.specs.Effects.{moves, pop_number, one_number, two_numbers, pop_place}
use Rattle.interp.specs.Effects as effects
use Rattle.interp.specs.Rules.{multisig_of, with_count}
use Rattle.interp.specs.computed.Step.{after_multisig, after_dummy, after_acting, within_bounds, step_at, step, run, outcome}

-- 1 2 3 ROT
rot : (known : Known) (r : Running) → outcome known r (0x51 ∷ 0x52 ∷ 0x53 ∷ 0x7b ∷ []) [] ≡ Says (Some ((1 ∷ []) ∷ (3 ∷ []) ∷ (2 ∷ []) ∷ []))
unfolding operand_len ops rest row_at row_of push_row after_acting with_count within_bounds step_at step run outcome moves
rot known r = refl

-- 2 5 SUB
sub : (known : Known) (r : Running) → outcome known r (0x52 ∷ 0x55 ∷ 0x94 ∷ []) [] ≡ Says (Some ((0x83 ∷ []) ∷ []))
unfolding operand_len ops rest row_at row_of push_row after_acting with_count within_bounds step_at step run outcome operand num_value shortest_bytes shortest_bytes_with pop_number two_numbers
sub known r = refl

-- 2 1 2 WITHIN: the end isn't within
within : (known : Known) (r : Running) → outcome known r (0x52 ∷ 0x51 ∷ 0x52 ∷ 0xa5 ∷ []) [] ≡ Says (Some ([] ∷ []))
unfolding operand_len ops rest row_at row_of push_row after_acting with_count within_bounds step_at step run outcome operand num_value shortest_bytes shortest_bytes_with pop_number effects.within
within known r = refl

-- 7 8 9 and 2 ROLL
roll : (known : Known) (r : Running) → outcome known r (0x57 ∷ 0x58 ∷ 0x59 ∷ 0x52 ∷ 0x7a ∷ []) [] ≡ Says (Some ((7 ∷ []) ∷ (9 ∷ []) ∷ (8 ∷ []) ∷ []))
unfolding operand_len ops rest row_at row_of push_row after_acting with_count within_bounds step_at step run outcome operand num_value pop_place effects.roll
roll known r = refl

-- ELSE may come again: 1 IF 1 ELSE 0 ELSE 2 ENDIF
branches : (known : Known) (r : Running) → outcome known r (0x51 ∷ 0x63 ∷ 0x51 ∷ 0x67 ∷ 0x00 ∷ 0x67 ∷ 0x52 ∷ 0x68 ∷ []) [] ≡ Says (Some ((2 ∷ []) ∷ (1 ∷ []) ∷ []))
unfolding truth pushed_of operand_len ops rest row_at row_of push_row after_acting with_count within_bounds step_at step run outcome
branches known r = refl

-- VERIF in a branch that isn't taken
verif : (known : Known) (r : Running) → outcome known r (0x00 ∷ 0x63 ∷ 0x65 ∷ 0x68 ∷ 0x51 ∷ []) [] ≡ Says None
unfolding truth pushed_of operand_len ops rest row_at row_of push_row after_acting with_count within_bounds step_at step run outcome
verif known r = refl

-- 2147483647 1ADD leaves five bytes, which aren't an operand
five_bytes : (known : Known) (r : Running) → outcome known r (0x04 ∷ 0xff ∷ 0xff ∷ 0xff ∷ 0x7f ∷ 0x8b ∷ 0x8b ∷ []) [] ≡ Says None
unfolding pushed_of operand_len ops rest row_at row_of push_row after_acting with_count within_bounds step_at step run outcome operand num_value shortest_bytes shortest_bytes_with pop_number one_number
five_bytes known r = refl

-- no signature of no key, with the element more that CHECKMULTISIG takes
none_of_none : (known : Known) (r : Running) → outcome known r (0x00 ∷ 0x00 ∷ 0x00 ∷ 0xae ∷ []) [] ≡ Says (Some ((1 ∷ []) ∷ []))
unfolding pushed_of operand_len ops rest row_at row_of push_row after_acting with_count within_bounds step_at step run outcome operand num_value pairs_verdict multisig_of after_multisig may_be_dummy after_dummy
none_of_none known r = refl

-- the same with 1 in that element's place: BIP 147 refuses it
one_below : (known : Known) (tx : Tx) (spent : List ℕ) (asked : Bool)
    → outcome known (base (question tx 0 spent (record { p2sh = true; dersig = true; cltv = true; csv = true; nulldummy = asked }))) (0x51 ∷ 0x00 ∷ 0x00 ∷ 0xae ∷ []) []
    ≡ Says (if asked then None else Some ((1 ∷ []) ∷ []))
unfolding pushed_of operand_len ops rest row_at row_of push_row after_acting with_count within_bounds step_at step run outcome operand num_value pairs_verdict multisig_of after_multisig may_be_dummy after_dummy
one_below known tx spent true = refl
one_below known tx spent false = refl

-- a push that is cut short
cut : (known : Known) (r : Running) → outcome known r (0x02 ∷ 0xff ∷ []) [] ≡ Says None
unfolding operand_len ops rest run outcome
cut known r = refl

-- minus zero is false, unless it is spelled needlessly long
minus_zero : truth (0x80 ∷ []) ≡ false
unfolding truth
minus_zero = refl

long_minus_zero : truth (0x80 ∷ 0x00 ∷ []) ≡ true
unfolding truth
long_minus_zero = refl
