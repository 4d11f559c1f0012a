use Rattle.std.proofs.Common.{subst}
use Rattle.std.specs.Prelude.{◌==◌, not}
use Rattle.signatures.specs.Triple.{triple_of}
use Rattle.ffi.specs.Answers.{IsLearnt}
use Rattle.ffi.proofs.exports.ffi_learn.Goals as goal

pub returns : goal.returns
returns c =
    rw c.in-Some.ensures.value (subst (λ s. IsLearnt s c.put.new.slot.kept.value (triple_of c.args.key.now c.args.signature.now c.args.digest.now.bytes) (not (c.args.valid == 0)) c.learn-code.result) c.deref_mut.ensures.value (record {
      next = _;
      after_is = c.put.ensures;
      learnt_is = c.learn-code.ensures;
    }))
