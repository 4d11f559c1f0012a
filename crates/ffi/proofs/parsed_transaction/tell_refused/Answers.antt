-- The triple is the one behind the box.
use Rattle.std.proofs.Common.{inl, inr, refl, ap, subst, ⊎_elim}
use Rattle.signatures.specs.Triple.{Triple}
use Rattle.interp.specs.Answer.{unknown_in}
use Rattle.ffi.specs.Known.{IsLineTold, asked_of}
use Rattle.ffi.proofs.parsed_transaction.tell_refused.Goals as goal

pub returns-in-Err-Unknown-clause-answer : goal.returns-in-Err-Unknown-clause-answer
returns-in-Err-Unknown-clause-answer c answer tells =
    let before = asked_of c.args.asked.now c.args.told.now.count in
    let after = asked_of c.tell_line.new.asked c.tell_line.new.count in
    ⊎_elim
    (λ told. inr (inl (
      c.in-Err-Unknown.triple.value,
      (rw c.in-Err-Unknown.is at tells) _ (ap unknown_in c.in-Err-Unknown.field-0-is),
      subst (λ (t : Triple). IsLineTold t before after c.tell_line.result) c.deref.ensures told,
      (refl, refl),
    )))
    (λ none. inr (inr (none.0, none.1, (refl, refl))))
    c.tell_line.ensures
