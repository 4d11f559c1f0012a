-- What a verdict comes to, at an input.
use Rattle.std.specs.Prelude.{if◌then◌else◌}
use Rattle.std.proofs.Common.{◌≡◌, ℕ, zero, suc, ◌<◌, List, [], ◌∷◌, Bool, true, false, Some, length, get_or, slice_get, refl, sym, ap, ◌∙◌, arith}
use Rattle.script.specs.Kinds.{is_push_only}
use Rattle.txn.specs.declared.input.TxIn.{TxIn}
use Rattle.signatures.specs.Known.{Known}
use Rattle.interp.specs.Answer.{Says}
use Rattle.interp.specs.Question.{Question}
use Rattle.interp.specs.Stack.{Stack}
use Rattle.interp.specs.computed.Step.{ends_true, inner_verdict, verdict_of_input, verdict_with, verdict}

pub inner-empty : (known : Known) (q : Question) (script : List ℕ) (left : Stack) → length left ≡ 0 → inner_verdict known q script left ≡ Says false
unfolding inner_verdict ends_true
inner-empty known q script [] h = by (is_push_only script)
  where
    by : (b : Bool) → (if b then Says false else Says false) ≡ Says false
    by true = refl
    by false = refl
inner-empty known q script (a ∷ left) h = absurd (omega arith)

pub there : {A : Type 0} (xs : List A) (k : ℕ) (d : A) → k < length xs → slice_get xs k ≡ Some (get_or xs k d)
there [] k d h = absurd (omega arith)
there (x ∷ xs) zero d h = refl
there (x ∷ xs) (suc k) d h = there xs k d (omega arith)

-- of an input that is there, that with its script
pub verdict-there : (known : Known) (q : Question) (inputs : List TxIn) (own : TxIn) (script : List ℕ) → own ≡ get_or inputs q.input own → inputs ≡ q.tx.inputs → q.input < length q.tx.inputs → script ≡ own.script
    → verdict known q ≡ verdict_with known q script
unfolding verdict
verdict-there known q inputs own script is same h of =
    ap (verdict_of_input known q) (there q.tx.inputs q.input own h ∙ ap Some (sym (is ∙ ap (λ xs. get_or xs q.input own) same))) ∙ ap (verdict_with known q) (sym of)
