-- A script, opcode by opcode, and an input, with the names of failures.
use Rattle.std.proofs.Common.{◌≡◌, ℕ, ◌<◌, ◌≤◌, List, [], ◌∷◌, ◌++◌, true, Some, Ok, Err, length, slice_get, get_or, zero, suc, refl, sym, ap, ◌∙◌, arith}
use Rattle.std.specs.Option.{option_map_or}
use borrow.Author.Tests.{lt-ltb, le-ltb}
use Rattle.script.specs.Kinds.{is_push_only}
use Rattle.script.specs.Ops.{ops, rest, is_whole}
use Rattle.script.specs.laws.Ops.{rest-more}
use Rattle.txn.specs.declared.input.TxIn.{TxIn}
use Rattle.signatures.specs.Known.{Known}
use Rattle.interp.specs.Answer.{Says}
use Rattle.interp.specs.Question.{Question}
use Rattle.interp.specs.Running.{Running}
use Rattle.interp.specs.Stack.{Stack}
use Rattle.interp.specs.State.{State, start}
use Rattle.interp.specs.computed.NamedFailures.{Named, ◌>>=◌, step_named, run_named, end_named, eval_running, inner_named, verify_with_script, verify_script}
use Rattle.interp.specs.declared.script_error.ScriptError.TheVariants.{UnknownError, EvalFalse, ScriptSize}
use Rattle.interp.specs.laws.Runs.{whole}

module _ (known : Known) (r : Running) where
  -- an opcode comes to this
  pub named-more : (bytes op more : List ℕ) (s : State) (left : Named State) → ops bytes ≡ op ∷ ops more → bytes ≡ op ++ more → step_named known r more op s ≡ left
      → run_named known r (rest bytes) (ops bytes) s ≡ left >>= run_named known r (rest more) (ops more)
  unfolding run_named
  named-more bytes op more s left first w is =
      ap (λ left. run_named known r left (ops bytes) s) (rest-more bytes op more first w)
      ∙ ap (λ list. run_named known r (rest more) list s) first
      ∙ ap (λ after. step_named known r after op s >>= run_named known r (rest more) (ops more)) (sym (whole more))
      ∙ ap (λ a. a >>= run_named known r (rest more) (ops more)) is

  pub named-ended : (bytes : List ℕ) (s : State) → ops bytes ≡ [] → run_named known r (rest bytes) (ops bytes) s ≡ Says (Ok s)
  unfolding run_named
  named-ended bytes s e = rw e refl

  pub eval-long : (script : List ℕ) (stack : Stack) → 10000 < length script → eval_running known r script stack ≡ Says (Err ScriptSize)
  unfolding eval_running
  eval-long script stack h = rw (lt-ltb 10000 (length script) h) refl

  pub eval-ran : (script : List ℕ) (stack : Stack) → length script ≤ 10000
      → eval_running known r script stack ≡ run_named known r (rest script) (ops script) (start script stack) >>= end_named (is_whole script)
  unfolding eval_running
  eval-ran script stack h = rw (le-ltb 10000 (length script) h) refl

module _ (known : Known) (q : Question) where
  pub inner-none : (script : List ℕ) (left : Stack) → is_push_only script ≡ true → length left ≡ 0 → inner_named known q script left ≡ Says (Err EvalFalse)
  unfolding inner_named
  inner-none script [] only h = rw only refl
  inner-none script (a ∷ left) only h = absurd (omega arith)

there : {A : Type 0} (xs : List A) (k : ℕ) (d : A) → k < length xs → slice_get xs k ≡ Some (get_or xs k d)
there [] k d h = absurd (omega arith)
there (x ∷ xs) zero d h = refl
there (x ∷ xs) (suc k) d h = there xs k d (omega arith)

-- of an input that is there, that with its script
pub input-there : (known : Known) (q : Question) (inputs : List TxIn) (own : TxIn) (script : List ℕ) → own ≡ get_or inputs q.input own → inputs ≡ q.tx.inputs → q.input < length q.tx.inputs → script ≡ own.script
    → verify_script known q ≡ verify_with_script known q script
unfolding verify_script
input-there known q inputs own script is same h of =
    ap (λ found. option_map_or (λ (own : TxIn). verify_with_script known q own.script) found (Says (Err UnknownError))) (there q.tx.inputs q.input own h ∙ ap Some (sym (is ∙ ap (λ xs. get_or xs q.input own) same))) ∙ ap (verify_with_script known q) (sym of)
