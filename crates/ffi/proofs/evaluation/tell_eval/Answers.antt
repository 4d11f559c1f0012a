-- The triple is the one behind the box.
use Rattle.std.proofs.Common.{inl, inr, refl, ap, subst, ⊎_elim}
use Rattle.signatures.specs.Triple.{Triple}
use Rattle.interp.specs.Answer.{unknown_in}
use Rattle.ffi.specs.Known.{asked_of}
use Rattle.ffi.specs.NamedFailures.{IsLineAsked}
use Rattle.ffi.proofs.evaluation.tell_eval.Goals as goal

pub returns-in-Err-Unknown : goal.returns-in-Err-Unknown
returns-in-Err-Unknown c =
    let before = asked_of c.args.asked.now c.args.count.now in
    let after = asked_of c.ask.new.asked c.ask.new.count in
    ⊎_elim
    (λ told. inr (inl (
      c.in-Err-Unknown.triple.value,
      c.in-Err-Unknown.ensures _ (ap unknown_in c.in-Err-Unknown.field-0-is),
      subst (λ (t : Triple). IsLineAsked t before after c.ask.result) c.deref.ensures told,
      (refl, refl),
    )))
    (λ none. inr (inr (none.0, none.1, (refl, refl))))
    c.ask.ensures
