-- A script and an input, with the name of the failure (Bitcoin Core's `EvalScript` and `VerifyScript`). That the names
-- change no verdict is a law.
use Rattle.std.specs.Prelude.{ℕ, List, [], ◌∷◌, ◌++◌, length, Bool, Option, Result, Ok, Err, nat_lt, ◌&&◌, if◌then◌else◌, slice_get}
use Rattle.std.specs.Option.{option_map_or, ok_or}
use Rattle.std.specs.List.{concat}
use Rattle.script.specs.Ops.{ops, rest, is_whole}
use Rattle.script.specs.Kinds.{is_push_only, is_p2sh, max_script_size}
use Rattle.signatures.specs.Known.{Known}
use Rattle.interp.specs.Answer.{Answer, Says, Wants, answer_map}
use Rattle.interp.specs.Question.{Question}
use Rattle.interp.specs.Running.{Running, base}
use Rattle.interp.specs.Stack.{Stack}
use Rattle.interp.specs.Elements.{top_is_true}
use Rattle.interp.specs.State.{State, is_executing, start}
use Rattle.interp.specs.Effects.{verify, on_main}
use Rattle.interp.specs.Row.{Check, Multisig, Row, Tests, AndVerifies, row_of}
use Rattle.interp.specs.Rules.{skipped, with_count}
use Rattle.interp.specs.Failures.{name_at, verify_name}
use Rattle.interp.specs.computed.Step.{after_multisig, after_dummy, after_test, after_executing, within_bounds, stack_left}
use Rattle.interp.specs.declared.script_error.ScriptError.{ScriptError}
use Rattle.interp.specs.declared.script_error.ScriptError.TheVariants.{UnknownError, EvalFalse, ScriptSize, OpCount, StackSize, BadOpcode, UnbalancedConditional, SigPushOnly, SigNullDummy}

-- what is left where the script goes on, else why it fails; or a signature that is wanted
abbrev pub Named : Type 0 → Type 0
Named A = Answer (Result A ScriptError)

-- what comes next is asked where there is something to go on with
infixl 10 ◌>>=◌
abbrev pub ◌>>=◌ : {A B : Type 0} → Named A → (A → Named B) → Named B
Says (Ok x) >>= f = f x
Says (Err name) >>= f = Says (Err name)
Wants t >>= f = Wants t

-- there is something, or the failure has this name
abbrev pub or_else : {A : Type 0} → ScriptError → Option A → Named A
or_else name o = Says (ok_or o name)

abbrev pub named : {A : Type 0} → ScriptError → Answer (Option A) → Named A
named name answer = answer_map (λ o. ok_or o name) answer

-- ---- one opcode
-- what leaves a truth or a number: CHECKMULTISIG looks last at the element more that it takes (BIP 147)
abbrev pub tested : Known → Running → ℕ → Check → State → Named State
tested known r number Multisig s = do
  answered ← named (name_at number s.main s.count) (after_multisig known r s)
  or_else SigNullDummy (after_dummy r.flags s answered)
tested known r number check s = named (name_at number s.main s.count) (after_test known r check s)

-- an opcode of this number and this row, which is executed: what verifies fails by its test, or by the test's answer
abbrev pub executed : Known → Running → List ℕ → ℕ → Row → State → Named State
executed known r after number (Tests check) s = tested known r number check s
executed known r after number (AndVerifies check) s = do
  left ← tested known r number check s
  or_else (verify_name number) (on_main verify left)
executed known r after number row s = named (name_at number s.main s.count) (after_executing known r after row s)

unfoldable pub acted : Known → Running → List ℕ → ℕ → Row → State → Named State
acted known r after number row s = if is_executing s then executed known r after number row s else or_else (name_at number s.main s.count) (skipped row s)

-- in this order: too many opcodes, what the row does, too many elements
unfoldable pub step_named : Known → Running → List ℕ → List ℕ → State → Named State
step_named known r after [] s = Says (Err BadOpcode)
step_named known r after (number ∷ bytes) s = do
  counted ← or_else OpCount (with_count number s)
  left ← acted known r after number (row_of (number ∷ bytes)) counted
  or_else StackSize (within_bounds left)

-- ---- a script
unfoldable pub run_named : Known → Running → List ℕ → List (List ℕ) → State → Named State
run_named known r left [] s = Says (Ok s)
run_named known r left (op ∷ others) s = do
  t ← step_named known r (concat others ++ left) op s
  run_named known r left others t

-- no push was cut short, and no condition is open
abbrev pub end_named : Bool → State → Named Stack
end_named whole s = if whole then or_else UnbalancedConditional (stack_left s) else Says (Err BadOpcode)

-- a script on a stack, and the stack that it leaves, or why it fails
unfoldable pub eval_running : Known → Running → List ℕ → Stack → Named Stack
eval_running known r script stack =
    if nat_lt max_script_size (length script) then Says (Err ScriptSize)
    else run_named known r (rest script) (ops script) (start script stack) >>= end_named (is_whole script)

-- ---- an input
-- of the scripts of before
abbrev pub eval_script : Known → Question → List ℕ → Stack → Named Stack
eval_script known q script stack = eval_running known (base q) script stack

abbrev pub passes : Named (Unit {0})
passes = Says (Ok tt)

abbrev pub true_top : Stack → Named (Unit {0})
true_top end = if top_is_true end then passes else Says (Err EvalFalse)

-- a script on a stack ends with a true element on top
unfoldable pub eval_to_true : Known → Running → List ℕ → Stack → Named (Unit {0})
eval_to_true known r script stack = eval_running known r script stack >>= true_top

-- BIP 16: the top of the stack that the input script left, run as a script on the others
abbrev pub eval_inner : Known → Running → Stack → Named (Unit {0})
eval_inner known r [] = Says (Err EvalFalse)
eval_inner known r (inner ∷ others) = eval_to_true known r inner others

unfoldable pub inner_named : Known → Question → List ℕ → Stack → Named (Unit {0})
inner_named known q script left = if is_push_only script then eval_inner known (base q) left else Says (Err SigPushOnly)

-- the spent script on the stack that the input script left, and the inner script where there is one
unfoldable pub on_left : Known → Question → List ℕ → Stack → Named (Unit {0})
on_left known q script left = do
  ran ← eval_to_true known (base q) q.spent left
  if q.flags.p2sh && is_p2sh q.spent then inner_named known q script left else passes

unfoldable pub verify_with_script : Known → Question → List ℕ → Named (Unit {0})
verify_with_script known q script = eval_script known q script [] >>= on_left known q script

-- why an input may not spend, or that it may
unfoldable pub verify_script : Known → Question → Named (Unit {0})
verify_script known q = option_map_or (λ own. verify_with_script known q own.script) (slice_get q.tx.inputs q.input) (Says (Err UnknownError))
