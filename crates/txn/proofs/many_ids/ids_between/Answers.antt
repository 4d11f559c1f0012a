use Rattle.std.proofs.Common.{◌∙◌, arith}
use Rattle.txn.proofs.Marks.{same_ids}
use Rattle.txn.proofs.many_ids.ids_between.Goals as goal

pub returns : goal.returns
returns c =
    c.double_sha_many.ensures
    ∙ same_ids c.cut.messages c.args.txs.now (omega (arith, c.cut.invariant.0, c.requires.txs)) (λ k d e lt. c.cut.invariant.1 k d e (omega (arith, lt, c.requires.txs, c.cut-test.false)))
