-- The session that was in the slot is the one that takes the step.
use Rattle.std.proofs.Common.{inl, inr, refl, subst}
use Rattle.ffi.specs.Answers.{IsNotTaken, IsTaken}
use Rattle.ffi.proofs.exports.step.Goals as goal

pub returns-in-Ok : goal.returns-in-Ok
returns-in-Ok c =
    rw c.in-Some.ensures.value (inl (
      refl,
      subst (λ t. IsTaken t c.put.new.slot.kept.value c.args.asked.now c.as_told.result) c.deref_mut.ensures.value (record {
        next = _;
        reply = c.in-Ok.told;
        after_is = c.put.ensures;
        outcome_is = c.in-Ok.ensures.outcome;
        rules = c.in-Ok.ensures.rules;
        wants_nothing = c.in-Ok.ensures.wanted;
        told = record {
          reply_is = c.as_told.ensures.reply;
          reason_is = c.as_told.ensures.reason;
          transaction_is = c.as_told.ensures.transaction;
          input_is = c.as_told.ensures.input;
        };
      }),
    ))

pub returns-in-Err : goal.returns-in-Err
returns-in-Err c =
    rw c.in-Some.ensures.value (inr (
      subst (λ t. IsNotTaken t c.put.new.slot.kept.value c.args.asked.now c.in-Err.code) c.deref_mut.ensures.value (record {
        next = _;
        after_is = c.put.ensures;
        step_is = c.in-Err.ensures.refused;
      }),
      refl,
    ))
