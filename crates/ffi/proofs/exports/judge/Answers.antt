-- The session that was in the slot is the one that is asked.
use Rattle.std.proofs.Common.{Some, inl, inr, refl, subst, ap, ◌∙◌}
use Rattle.ffi.specs.Answers.{IsForeseen, IsNotTaken}
use Rattle.ffi.proofs.exports.judge.Goals as goal

pub returns-in-Ok : goal.returns-in-Ok
returns-in-Ok c =
    rw c.in-Some.ensures.value (inl (
      refl,
      subst (λ t. IsForeseen t c.put.new.slot.kept.value c.args.asked.now c.as_told.result) c.deref_mut.ensures.value (record {
        reply = c.in-Ok.found;
        reply_is = c.in-Ok.ensures.reply;
        after_is = c.put.ensures ∙ ap Some c.in-Ok.ensures.stays;
        told = record {
          reply_is = c.as_told.ensures.reply;
          reason_is = c.as_told.ensures.reason;
          transaction_is = c.as_told.ensures.transaction;
          input_is = c.as_told.ensures.input;
        };
      }),
    ))

pub returns-in-Err : goal.returns-in-Err
returns-in-Err c =
    rw c.in-Some.ensures.value (inr (
      subst (λ t. IsNotTaken t c.put.new.slot.kept.value c.args.asked.now c.in-Err.code) c.deref_mut.ensures.value (record {
        next = _;
        after_is = c.put.ensures;
        step_is = c.in-Err.ensures.refused;
      }),
      refl,
    ))
