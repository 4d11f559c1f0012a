-- The names of failures change no verdict, and no stack that is left.
use Rattle.std.specs.Prelude.{if◌then◌else◌, ◌&&◌}
use Rattle.std.proofs.Common.{◌≡◌, ℕ, List, [], ◌∷◌, ◌++◌, Bool, true, false, Option, Some, None, Ok, Err, nat_lt, length, slice_get, refl, ap, ◌∙◌}
use Rattle.std.specs.Option.{option_and_then, option_map_or}
use Rattle.std.specs.Result.{result_ok, is_ok}
use Rattle.std.specs.List.{concat}
use Rattle.script.specs.Ops.{ops, rest, is_whole}
use Rattle.script.specs.Kinds.{is_push_only, is_p2sh}
use Rattle.txn.specs.declared.input.TxIn.{TxIn}
use Rattle.signatures.specs.Known.{Known}
use Rattle.interp.specs.declared.script_error.ScriptError.{ScriptError}
use Rattle.interp.specs.declared.script_error.ScriptError.TheVariants.{UnknownError, EvalFalse, ScriptSize, OpCount, StackSize, UnbalancedConditional, SigPushOnly, SigNullDummy}
use Rattle.interp.specs.Answer.{Answer, Says, Wants, answer_map, and_then, also}
use Rattle.interp.specs.Question.{Question}
use Rattle.interp.specs.Running.{Running, base}
use Rattle.interp.specs.Stack.{Stack}
use Rattle.interp.specs.Elements.{top_is_true}
use Rattle.interp.specs.State.{State, is_executing, start}
use Rattle.interp.specs.Effects.{verify, on_main}
use Rattle.interp.specs.Row.{Check, Of, Sig, Multisig, Row, Does, Controls, Tests, AndVerifies, Separates, Asks, row_of}
use Rattle.interp.specs.Rules.{skipped, with_count}
use Rattle.interp.specs.Failures.{name_at, verify_name}
use Rattle.interp.specs.computed.Step.{after_multisig, after_dummy, after_test, after_executing, after_acting, after_counting, within_bounds, step_at, step, run, stack_left, end_of, outcome, ends_true, inner_outcome, inner_verdict, verdict_on, verdict_after, verdict_with, verdict_of_input, verdict}
use Rattle.interp.specs.computed.NamedFailures.{Named, ◌>>=◌, or_else, named, tested, executed, acted, step_named, run_named, end_named, eval_running, true_top, eval_to_true, eval_inner, inner_named, on_left, verify_with_script, verify_script}

-- without the name of the failure
abbrev pub unnamed : {A : Type 0} → Named A → Answer (Option A)
unnamed a = answer_map result_ok a

abbrev pub passes : {A : Type 0} → Named A → Answer Bool
passes a = answer_map is_ok a

unnamed-then : {A B : Type 0} (a : Named A) (f : A → Named B) → unnamed (a >>= f) ≡ and_then (λ x. unnamed (f x)) (unnamed a)
unnamed-then (Says (Ok x)) f = refl
unnamed-then (Says (Err name)) f = refl
unnamed-then (Wants t) f = refl

unnamed-named : {A : Type 0} (name : ScriptError) (a : Answer (Option A)) → unnamed (named name a) ≡ a
unnamed-named name (Says (Some x)) = refl
unnamed-named name (Says None) = refl
unnamed-named name (Wants t) = refl

unnamed-else : {A : Type 0} (name : ScriptError) (o : Option A) → unnamed (or_else name o) ≡ Says o
unnamed-else name (Some x) = refl
unnamed-else name None = refl

then-same : {A B : Type 0} (f g : A → Answer (Option B)) → ((x : A) → f x ≡ g x) → (a : Answer (Option A)) → and_then f a ≡ and_then g a
then-same f g same (Says (Some x)) = same x
then-same f g same (Says None) = refl
then-same f g same (Wants t) = refl

then-map : {A B : Type 0} (f : A → Option B) (a : Answer (Option A)) → and_then (λ x. Says (f x)) a ≡ answer_map (option_and_then f) a
then-map f (Says (Some x)) = refl
then-map f (Says None) = refl
then-map f (Wants t) = refl

-- what is done before, and what may fail after it
then-else : {A B : Type 0} (name : ScriptError) (a : Named A) (before : Answer (Option A)) (f : A → Option B) → unnamed a ≡ before → unnamed (a >>= (λ x. or_else name (f x))) ≡ answer_map (option_and_then f) before
then-else name a before f is =
    unnamed-then a (λ x. or_else name (f x)) ∙ then-same (λ x. unnamed (or_else name (f x))) (λ x. Says (f x)) (λ x. unnamed-else name (f x)) (unnamed a)
    ∙ then-map f (unnamed a) ∙ ap (answer_map (option_and_then f)) is

module _ (known : Known) (r : Running) where
  -- ---- one opcode
  tested-same : (number : ℕ) (check : Check) (s : State) → unnamed (tested known r number check s) ≡ after_test known r check s
  tested-same number (Of f) s = unnamed-named (name_at number s.main s.count) (after_test known r (Of f) s)
  tested-same number Sig s = unnamed-named (name_at number s.main s.count) (after_test known r Sig s)
  tested-same number Multisig s =
      then-else SigNullDummy (named (name_at number s.main s.count) (after_multisig known r s)) (after_multisig known r s) (after_dummy r.flags s) (unnamed-named (name_at number s.main s.count) (after_multisig known r s))

  executed-same : (after : List ℕ) (number : ℕ) (row : Row) (s : State) → unnamed (executed known r after number row s) ≡ after_executing known r after row s
  executed-same after number (Does f) s = unnamed-named (name_at number s.main s.count) (after_executing known r after (Does f) s)
  executed-same after number (Controls f untaken) s = unnamed-named (name_at number s.main s.count) (after_executing known r after (Controls f untaken) s)
  executed-same after number (Tests check) s = tested-same number check s
  executed-same after number Separates s = unnamed-named (name_at number s.main s.count) (after_executing known r after Separates s)
  executed-same after number (Asks in_force test) s = unnamed-named (name_at number s.main s.count) (after_executing known r after (Asks in_force test) s)
  executed-same after number (AndVerifies check) s =
      then-else (verify_name number) (tested known r number check s) (after_test known r check s) (on_main verify) (tested-same number check s)

  acted-same : (after : List ℕ) (number : ℕ) (row : Row) (s : State) → unnamed (acted known r after number row s) ≡ after_acting known r after row s
  unfolding acted after_acting
  acted-same after number row s = by (is_executing s)
    where
      by : (b : Bool) → unnamed (if b then executed known r after number row s else or_else (name_at number s.main s.count) (skipped row s)) ≡ (if b then after_executing known r after row s else Says (skipped row s))
      by true = executed-same after number row s
      by false = unnamed-else (name_at number s.main s.count) (skipped row s)

  step-same : (after op : List ℕ) (s : State) → unnamed (step_named known r after op s) ≡ step known r after op s
  unfolding step_named step step_at
  step-same after [] s = refl
  step-same after (number ∷ bytes) s =
      let next : State → Named State = λ counted. acted known r after number (row_of (number ∷ bytes)) counted >>= (λ t. or_else StackSize (within_bounds t)) in
      unnamed-then (or_else OpCount (with_count number s)) next
      ∙ then-same (λ counted. unnamed (next counted)) (after_counting known r after (row_of (number ∷ bytes))) (λ counted. then-else StackSize (acted known r after number (row_of (number ∷ bytes)) counted) (after_acting known r after (row_of (number ∷ bytes)) counted) within_bounds (acted-same after number (row_of (number ∷ bytes)) counted)) (unnamed (or_else OpCount (with_count number s)))
      ∙ ap (and_then (after_counting known r after (row_of (number ∷ bytes)))) (unnamed-else OpCount (with_count number s))

  -- ---- a script
  run-same : (left : List ℕ) (list : List (List ℕ)) (s : State) → unnamed (run_named known r left list s) ≡ run known r left list s
  unfolding run_named run
  run-same left [] s = refl
  run-same left (op ∷ others) s =
      unnamed-then (step_named known r (concat others ++ left) op s) (run_named known r left others)
      ∙ then-same (λ t. unnamed (run_named known r left others t)) (run known r left others) (run-same left others) (unnamed (step_named known r (concat others ++ left) op s))
      ∙ ap (and_then (run known r left others)) (step-same (concat others ++ left) op s)

  end-same : (whole : Bool) (s : State) → unnamed (end_named whole s) ≡ Says (end_of whole s)
  end-same true s = unnamed-else UnbalancedConditional (stack_left s)
  end-same false s = refl

  pub eval-same : (script : List ℕ) (stack : Stack) → unnamed (eval_running known r script stack) ≡ outcome known r script stack
  unfolding eval_running outcome
  eval-same script stack = by (nat_lt 10000 (length script))
    where
      ran : Named State
      ran = run_named known r (rest script) (ops script) (start script stack)

      same : unnamed (ran >>= end_named (is_whole script)) ≡ answer_map (option_and_then (end_of (is_whole script))) (run known r (rest script) (ops script) (start script stack))
      same =
          unnamed-then ran (end_named (is_whole script))
          ∙ then-same (λ s. unnamed (end_named (is_whole script) s)) (λ s. Says (end_of (is_whole script) s)) (end-same (is_whole script)) (unnamed ran)
          ∙ then-map (end_of (is_whole script)) (unnamed ran) ∙ ap (answer_map (option_and_then (end_of (is_whole script)))) (run-same (rest script) (ops script) (start script stack))

      by : (long : Bool) → unnamed (if long then Says (Err ScriptSize) else ran >>= end_named (is_whole script)) ≡ (if long then Says None else answer_map (option_and_then (end_of (is_whole script))) (run known r (rest script) (ops script) (start script stack)))
      by true = refl
      by false = same

  -- ---- an input
  true-same : (a : Named Stack) → passes (a >>= true_top) ≡ ends_true (unnamed a)
  unfolding ends_true
  true-same (Says (Ok end)) = by (top_is_true end)
    where
      by : (b : Bool) → passes {A = Unit {0}} (if b then Says (Ok tt) else Says (Err EvalFalse)) ≡ Says b
      by true = refl
      by false = refl
  true-same (Says (Err name)) = refl
  true-same (Wants t) = refl

  to-true-same : (script : List ℕ) (stack : Stack) → passes (eval_to_true known r script stack) ≡ ends_true (outcome known r script stack)
  unfolding eval_to_true
  to-true-same script stack = true-same (eval_running known r script stack) ∙ ap ends_true (eval-same script stack)

module _ (known : Known) (q : Question) where
  inner-same : (script : List ℕ) (left : Stack) → passes (inner_named known q script left) ≡ inner_verdict known q script left
  unfolding inner_named inner_verdict ends_true
  inner-same script left = by (is_push_only script)
    where
      each : (others : Stack) → passes (eval_inner known (base q) others) ≡ ends_true (inner_outcome known (base q) others)
      each [] = refl
      each (inner ∷ others) = to-true-same known (base q) inner others

      by : (b : Bool) → passes (if b then eval_inner known (base q) left else Says (Err SigPushOnly)) ≡ (if b then ends_true (inner_outcome known (base q) left) else Says false)
      by true = each left
      by false = refl

  also-same : (a b : Named (Unit {0})) → passes (a >>= (λ _. b)) ≡ also (passes a) (passes b)
  also-same (Says (Ok x)) b = refl
  also-same (Says (Err name)) b = refl
  also-same (Wants t) b = refl

  on-same : (script : List ℕ) (left : Stack) → passes (on_left known q script left) ≡ verdict_on known q script left
  unfolding on_left verdict_on
  on-same script left =
      also-same (eval_to_true known (base q) q.spent left) (if q.flags.p2sh && is_p2sh q.spent then inner_named known q script left else Says (Ok tt))
      ∙ ap (λ first. also first (passes (if q.flags.p2sh && is_p2sh q.spent then inner_named known q script left else Says (Ok tt)))) (to-true-same known (base q) q.spent left)
      ∙ ap (also (ends_true (outcome known (base q) q.spent left))) (by (q.flags.p2sh && is_p2sh q.spent))
    where
      by : (b : Bool) → passes (if b then inner_named known q script left else Says (Ok tt)) ≡ (if b then inner_verdict known q script left else Says true)
      by true = inner-same script left
      by false = refl

  after-same : (script : List ℕ) (a : Named Stack) → passes (a >>= on_left known q script) ≡ verdict_after known q script (unnamed a)
  after-same script (Says (Ok left)) = on-same script left
  after-same script (Says (Err name)) = refl
  after-same script (Wants t) = refl

  with-same : (script : List ℕ) → passes (verify_with_script known q script) ≡ verdict_with known q script
  unfolding verify_with_script verdict_with
  with-same script = after-same script (eval_running known (base q) script []) ∙ ap (verdict_after known q script) (eval-same known (base q) script [])

  pub verify-same : passes (verify_script known q) ≡ verdict known q
  unfolding verify_script verdict
  verify-same = by (slice_get q.tx.inputs q.input)
    where
      by : (own : Option TxIn) → passes (option_map_or (λ (own : TxIn). verify_with_script known q own.script) own (Says (Err UnknownError))) ≡ verdict_of_input known q own
      by (Some own) = with-same own.script
      by None = refl
