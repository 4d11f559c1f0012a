-- One opcode, a script and the verdict on an input, by what is known of signatures (Bitcoin Core's `EvalScript` and
-- `VerifyScript`).
use Rattle.std.specs.Prelude.{ℕ, ◌+◌, ◌==◌, List, [], ◌∷◌, ◌++◌, length, Bool, true, false, Option, Some, None, option_and_then, nat_lt, ◌&&◌, if◌then◌else◌, slice_get}
use Rattle.std.specs.Option.{option_map, option_map_or}
use Rattle.std.specs.List.{concat}
use Rattle.script.specs.Ops.{ops, rest, is_whole}
use Rattle.script.specs.Kinds.{is_push_only, is_p2sh, max_script_size}
use Rattle.txn.specs.declared.input.TxIn.{TxIn}
use Rattle.interp.specs.Limits.{max_elements}
use Rattle.interp.specs.Stack.{Stack, Bytes}
use Rattle.interp.specs.Elements.{truth_bytes, top_is_true}
use Rattle.signatures.specs.Known.{Known}
use Rattle.interp.specs.declared.flags.Flags.{Flags}
use Rattle.interp.specs.Answer.{Answer, Says, Wants, answer_map, on_some, and_then, also}
use Rattle.interp.specs.Question.{Question}
use Rattle.interp.specs.Running.{Running, base, code_with}
use Rattle.interp.specs.State.{State, is_executing, start}
use Rattle.interp.specs.computed.Signatures.{pair_verdict, pairs_verdict, may_be_dummy}
use Rattle.interp.specs.Effects.{verify, on_main, ask_if}
use Rattle.interp.specs.Row.{Check, Of, Sig, Multisig, Row, Does, Controls, Tests, AndVerifies, Separates, Asks, row_of}
use Rattle.interp.specs.Rules.{Taken, multisig_of, with_answer, skipped, with_count}

-- ---- signatures
-- CHECKSIG: in the place of a signature and a key above it comes whether they are a valid pair
unfoldable pub after_sig : Known → Running → State → Stack → Answer (Option State)
after_sig known r s [] = Says None
after_sig known r s (key ∷ []) = Says None
after_sig known r s (key ∷ signature ∷ rest) =
    answer_map (option_map (λ valid. record s { main = truth_bytes valid ∷ rest })) (pair_verdict known r (code_with r.value s.code (signature ∷ [])) signature key)

-- CHECKMULTISIG: in the place of what it takes comes its answer
abbrev pub after_taking : Known → Running → State → Taken → Answer (Option State)
after_taking known r s taken =
    answer_map (option_map (with_answer s taken)) (pairs_verdict known r (code_with r.value s.code taken.signatures) taken.signatures taken.keys)

unfoldable pub after_multisig : Known → Running → State → Answer (Option State)
after_multisig known r s = on_some (after_taking known r s) (multisig_of s)

-- the element more that it takes
abbrev pub dummy_of : State → Bytes
dummy_of s = option_map_or (λ taken. taken.dummy) (multisig_of s) []

-- BIP 147: after its signatures, whatever their answer, CHECKMULTISIG looks at that element
unfoldable pub after_dummy : Flags → State → State → Option State
after_dummy flags s answered = if may_be_dummy flags (dummy_of s) then Some answered else None

abbrev pub after_test : Known → Running → Check → State → Answer (Option State)
after_test known r (Of f) s = Says (on_main f s)
after_test known r Sig s = after_sig known r s s.main
after_test known r Multisig s = answer_map (option_and_then (after_dummy r.flags s)) (after_multisig known r s)

-- ---- one opcode
-- a row that is executed; what follows the opcode in the script is `after`
abbrev pub after_executing : Known → Running → List ℕ → Row → State → Answer (Option State)
after_executing known r after (Does f) s = Says (f s)
after_executing known r after (Controls f untaken) s = Says (f s)
after_executing known r after (Tests check) s = after_test known r check s
after_executing known r after (AndVerifies check) s = answer_map (option_and_then (on_main verify)) (after_test known r check s)
after_executing known r after Separates s = Says (Some (record s { code = after }))
after_executing known r after (Asks in_force test) s = Says (ask_if (in_force r.flags) (test r.tx r.input) s)

unfoldable pub after_acting : Known → Running → List ℕ → Row → State → Answer (Option State)
after_acting known r after row s = if is_executing s then after_executing known r after row s else Says (skipped row s)

-- no more than so many elements on both stacks
unfoldable pub within_bounds : State → Option State
within_bounds s = if nat_lt max_elements (length s.main + length s.alt) then None else Some s

-- one opcode of this number and this row
abbrev pub after_counting : Known → Running → List ℕ → Row → State → Answer (Option State)
after_counting known r after row s = answer_map (option_and_then within_bounds) (after_acting known r after row s)

unfoldable pub step_at : Known → Running → List ℕ → ℕ → Row → State → Answer (Option State)
step_at known r after number row s = on_some (after_counting known r after row) (with_count number s)

-- one opcode with its bytes
unfoldable pub step : Known → Running → List ℕ → List ℕ → State → Answer (Option State)
step known r after [] s = Says None
step known r after (number ∷ bytes) s = step_at known r after number (row_of (number ∷ bytes)) s

-- ---- a script
-- opcodes one after the other, and then what is left of the script
unfoldable pub run : Known → Running → List ℕ → List (List ℕ) → State → Answer (Option State)
run known r left [] s = Says (Some s)
run known r left (op ∷ others) s = and_then (run known r left others) (step known r (concat others ++ left) op s)

-- the main stack, where no condition is open
abbrev pub stack_left : State → Option Stack
stack_left s = if length s.conditions == 0 then Some s.main else None

-- the same, where no push of the script was cut short
abbrev pub end_of : Bool → State → Option Stack
end_of whole s = if whole then stack_left s else None

-- a script on a stack, and the stack that it leaves
unfoldable pub outcome : Known → Running → List ℕ → Stack → Answer (Option Stack)
outcome known r script stack =
    if nat_lt max_script_size (length script) then Says None
    else answer_map (option_and_then (end_of (is_whole script))) (run known r (rest script) (ops script) (start script stack))

-- it ends, with a true element on top
abbrev pub has_true_top : Option Stack → Bool
has_true_top end = option_map_or top_is_true end false

unfoldable pub ends_true : Answer (Option Stack) → Answer Bool
ends_true end = answer_map has_true_top end

-- ---- an input
-- BIP 16: the top of the stack that the input script left, run as a script on the others
abbrev pub inner_outcome : Known → Running → Stack → Answer (Option Stack)
inner_outcome known r [] = Says None
inner_outcome known r (inner ∷ others) = outcome known r inner others

unfoldable pub inner_verdict : Known → Question → List ℕ → Stack → Answer Bool
inner_verdict known q script left = if is_push_only script then ends_true (inner_outcome known (base q) left) else Says false

-- the spent script on the stack that the input script left, and the inner script where there is one and BIP 16 is in force
unfoldable pub verdict_on : Known → Question → List ℕ → Stack → Answer Bool
verdict_on known q script left =
    also (ends_true (outcome known (base q) q.spent left)) (if q.flags.p2sh && is_p2sh q.spent then inner_verdict known q script left else Says true)

-- the same, where the input script left a stack
abbrev pub verdict_after : Known → Question → List ℕ → Answer (Option Stack) → Answer Bool
verdict_after known q script (Says (Some left)) = verdict_on known q script left
verdict_after known q script (Says None) = Says false
verdict_after known q script (Wants t) = Wants t

unfoldable pub verdict_with : Known → Question → List ℕ → Answer Bool
verdict_with known q script = verdict_after known q script (outcome known (base q) script [])

-- with the script of an input; no where there is no such input
abbrev pub verdict_of_input : Known → Question → Option TxIn → Answer Bool
verdict_of_input known q (Some own) = verdict_with known q own.script
verdict_of_input known q None = Says false

unfoldable pub verdict : Known → Question → Answer Bool
verdict known q = verdict_of_input known q (slice_get q.tx.inputs q.input)
