-- What the verdict on a witness comes to.
use Rattle.std.proofs.Common.{◌≡◌, ℕ, ℤ, ◌<◌, List, [], ◌∷◌, true, false, Some, length, reverse, get_or, slice_get, refl, sym, ap, ◌∙◌, arith}
use Rattle.std.specs.List.{list_any}
use Rattle.std.proofs.lemmas.List.Sorted.{list_any-IsPermutation, IsPermutation-reverse}
use Rattle.txn.specs.declared.input.TxIn.{TxIn}
use Rattle.signatures.specs.Known.{Known}
use Rattle.interp.specs.Answer.{Says, answer_map}
use Rattle.interp.specs.Elements.{truth}
use Rattle.interp.specs.Question.{Question}
use Rattle.interp.specs.Running.{Running}
use Rattle.interp.specs.Stack.{Bytes, Stack}
use Rattle.interp.specs.computed.Step.{outcome}
use Rattle.interp.specs.Witness.{is_long, is_clean, execute, witness_of_input, witness_with, witness_verdict}
use Rattle.interp.proofs.Inputs.{there}

-- ---- the order of strings doesn't matter to their lengths
long-reversed : (strings : List Bytes) → list_any is_long (reverse strings) ≡ list_any is_long strings
long-reversed strings = sym (list_any-IsPermutation is_long strings (reverse strings) (IsPermutation-reverse strings))

pub execute-long : (known : Known) (r : Running) (script : List ℕ) (strings : List Bytes) → list_any is_long strings ≡ true → execute known r script (reverse strings) ≡ Says false
unfolding execute
execute-long known r script strings is = rw (long-reversed strings ∙ is) refl

pub execute-ran : (known : Known) (r : Running) (script : List ℕ) (strings : List Bytes) → list_any is_long strings ≡ false
    → execute known r script (reverse strings) ≡ answer_map is_clean (outcome known r script (reverse strings))
unfolding execute
execute-ran known r script strings is = rw (long-reversed strings ∙ is) refl

-- ---- what is left
pub clean-one : (end : Stack) (top : Bytes) → length end ≡ 1 → slice_get end 0 ≡ Some top → is_clean (Some end) ≡ truth top
clean-one [] top one is = absurd (omega (arith, one))
clean-one (a ∷ []) top one is = (let same : a ≡ top = cc in ap truth same)
clean-one (a ∷ b ∷ rest) top one is = absurd (omega (arith, one))

pub clean-not : (end : Stack) → ¬ (length end ≡ 1) → is_clean (Some end) ≡ false
clean-not [] other = refl
clean-not (a ∷ []) other = absurd (other refl)
clean-not (a ∷ b ∷ rest) other = refl

-- ---- of an input that is there, that with its script
pub witness-there : (known : Known) (q : Question) (value : ℤ) (inputs : List TxIn) (own : TxIn) (script : List ℕ) → own ≡ get_or inputs q.input own → inputs ≡ q.tx.inputs → q.input < length q.tx.inputs → script ≡ own.script
    → witness_verdict known q value ≡ witness_with known q value script
unfolding witness_verdict
witness-there known q value inputs own script is same h of =
    ap (witness_of_input known q value) (there q.tx.inputs q.input own h ∙ ap Some (sym (is ∙ ap (λ xs. get_or xs q.input own) same))) ∙ ap (witness_with known q value) (sym of)
