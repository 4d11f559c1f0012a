-- What a session knows, and that a verdict more leaves it a session.
use Rattle.std.proofs.Common.{◌≡◌, true, false, List, Option, Some, None, Result, Ok, Err, OnOk, OnErr, IfOk, inr, refl, sym, subst}
use Rattle.std.specs.Prelude.{is_some, Bool}
use Rattle.signatures.specs.Known.{Under, Verdicts, verdict_in, with_verdict}
use Rattle.signatures.specs.Triple.{Triple, Triples}
use Rattle.signatures.specs.laws.Growth.{agrees-with-less, learning-grows}
use Rattle.signatures.specs.laws.Agreement.{found_agrees}
use Rattle.model.specs.declared.command.Command.{Command}
use Rattle.activate.specs.CoreState.{WithCoins, IsChainstate}
use Rattle.ffi.specs.declared.answers.Answer.{Answer}
use Rattle.ffi.specs.declared.signature_sources.Signatures.{Signatures}
use Rattle.ffi.specs.declared.signature_sources.Signatures.TheVariants.{Listed, Found}
use Rattle.ffi.specs.Answers.{IsAnswered, IsJudged}
use Rattle.ffi.specs.SessionState.{SessionState, known_of}
use Rattle.ffi.specs.Signatures.{valid_in, invalid_in, is_by_need}
use Rattle.ffi.specs.inside.Signatures.{known_in}

-- what is shown of signatures says what is known
pub known-same : (x : Signatures) (chain : WithCoins) (wanted : List Triple)
    → known_of (record { chain = chain; triples = valid_in x; invalid = invalid_in x; by_need = is_by_need x; wanted = wanted }) ≡ known_in x
known-same (Listed table) chain wanted = refl
known-same (Found found) chain wanted = refl

-- what holds under each set that agrees holds under those that agree with a verdict more, and one is that of all found valid
pub grown : {V E : Type 0} (r : Result V E) (old new : Verdicts) (t : Triple) (valid : Bool) (P : Triples → Type 0) → verdict_in old t ≡ None
    → OnOk r (new ≡ with_verdict old t valid) → OnErr r (new ≡ old) → Under (verdict_in old) P → Under (verdict_in new) P × P new.valid
grown (Ok x) old new t valid P none ok err was =
    let more : Under (verdict_in (with_verdict old t valid)) P = λ triples agrees. was triples (agrees-with-less (verdict_in old) (verdict_in (with_verdict old t valid)) (learning-grows old t valid none) triples agrees) in
    subst (λ (v : Verdicts). Under (verdict_in v) P × P v.valid) (sym ok) (more, more (with_verdict old t valid).valid (found_agrees (with_verdict old t valid)))
grown (Err x) old new t valid P none ok err was =
    subst (λ (v : Verdicts). Under (verdict_in v) P × P v.valid) (sym err) (was, was old.valid (found_agrees old))

-- at first it is a chainstate under any signatures
pub any-signatures : {E : Type 0} (r : Result WithCoins E) → ((triples : Triples) → IfOk r (λ chain. IsChainstate chain triples)) → IfOk r (λ chain. (triples : Triples) → IsChainstate chain triples)
any-signatures (Ok chain) h = λ triples. h triples
any-signatures (Err e) h = tt

-- where there is no memory no step is taken
pub no-memory : (v : Option SessionState) (c : Command) (a : Answer) → is_some v ≡ true → IsAnswered v v c a a 1
no-memory None c a h = cc
no-memory (Some s) c a h = inr (record { next = s; after_is = refl; step_is = inr (refl, refl) }, refl)

-- nor is one judged
pub none-to-judge : (v : Option SessionState) (c : Command) (a : Answer) → is_some v ≡ true → IsJudged v v c a a 1
none-to-judge None c a h = cc
none-to-judge (Some s) c a h = inr (record { next = s; after_is = refl; step_is = inr (refl, refl) }, refl)
