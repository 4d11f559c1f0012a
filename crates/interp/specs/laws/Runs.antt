-- A script, opcode by opcode.
use Rattle.std.proofs.Common.{◌≡◌, ℕ, zero, suc, ◌<◌, ◌≤◌, List, [], ◌∷◌, ◌++◌, Option, Some, None, length, take, drop, refl, sym, ap, ◌∙◌, append_assoc, length-drop, arith}
use Rattle.std.specs.Option.{option_and_then}
use Rattle.std.specs.List.{concat}
use Rattle.std.proofs.lemmas.List.{take-append-drop}
use borrow.Author.Tests.{lt-ltb, le-ltb}
use Rattle.script.specs.Ops.{op_len, ops, rest, is_whole}
use Rattle.script.specs.laws.Ops.{length_taken, op_len_positive, op_len_bound, ops-more, ops-none, rest-more, rest-none}
use Rattle.interp.specs.Stack.{Stack}
use Rattle.signatures.specs.Known.{Known}
use Rattle.interp.specs.Answer.{Says, answer_map, and_then}
use Rattle.interp.specs.Running.{Running}
use Rattle.interp.specs.State.{State, start}
use Rattle.interp.specs.computed.Step.{run, step, outcome, end_of}

-- ---- the opcodes and the rest are the script
whole-none : (bytes : List ℕ) → op_len bytes ≡ None → bytes ≡ concat (ops bytes) ++ rest bytes
whole-none bytes e = let none = ops-none bytes e in rw (rest-none bytes none, none) refl

whole-more : (bytes op more : List ℕ) → op_len bytes ≡ Some (length op) → bytes ≡ op ++ more → more ≡ concat (ops more) ++ rest more → bytes ≡ concat (ops bytes) ++ rest bytes
whole-more bytes op more e w h =
    let first = ops-more bytes op more e w in
    w ∙ ap (λ t. op ++ t) h ∙ sym (append_assoc op (concat (ops more)) (rest more))
    ∙ sym (ap (λ list. concat list ++ rest bytes) first ∙ ap (λ t. concat (op ∷ ops more) ++ t) (rest-more bytes op more first w))

whole-by : (n : ℕ) (bytes : List ℕ) (o : Option ℕ) → op_len bytes ≡ o → length bytes < n → bytes ≡ concat (ops bytes) ++ rest bytes
whole-by zero bytes o e h = absurd (omega arith)
whole-by (suc n) bytes None e h = whole-none bytes e
whole-by (suc n) bytes (Some k) e h =
    let above = op_len_positive bytes k e in
    let below = op_len_bound bytes k e in
    whole-more bytes (take k bytes) (drop k bytes) (e ∙ ap Some (sym (length_taken k bytes below))) (sym (take-append-drop k bytes))
    (whole-by n (drop k bytes) (op_len (drop k bytes)) refl (omega (arith, length-drop k bytes)))

pub whole : (bytes : List ℕ) → bytes ≡ concat (ops bytes) ++ rest bytes
whole bytes = whole-by (suc (length bytes)) bytes (op_len bytes) refl (omega arith)

-- ---- one more opcode
module _ (known : Known) (r : Running) where
  pub run-more : (bytes op more : List ℕ) (s : State) → ops bytes ≡ op ∷ ops more → bytes ≡ op ++ more
      → run known r (rest bytes) (ops bytes) s ≡ and_then (run known r (rest more) (ops more)) (step known r more op s)
  unfolding run
  run-more bytes op more s first w =
      ap (λ left. run known r left (ops bytes) s) (rest-more bytes op more first w)
      ∙ ap (λ list. run known r (rest more) list s) first
      ∙ ap (λ after. and_then (run known r (rest more) (ops more)) (step known r after op s)) (sym (whole more))

  pub run-ended : (bytes : List ℕ) (s : State) → ops bytes ≡ [] → run known r (rest bytes) (ops bytes) s ≡ Says (Some s)
  unfolding run
  run-ended bytes s e = rw e refl

  -- ---- the whole script
  pub outcome-long : (script : List ℕ) (stack : Stack) → 10000 < length script → outcome known r script stack ≡ Says None
  unfolding outcome
  outcome-long script stack h = rw (lt-ltb 10000 (length script) h) refl

  pub outcome-ran : (script : List ℕ) (stack : Stack) → length script ≤ 10000
      → outcome known r script stack ≡ answer_map (option_and_then (end_of (is_whole script))) (run known r (rest script) (ops script) (start script stack))
  unfolding outcome
  outcome-ran script stack h = rw (le-ltb 10000 (length script) h) refl
