use Rattle.std.proofs.Common.{rules, ◌∙◌}
use Rattle.block.proofs.Records.{remain_trans}
use Rattle.vectors.proofs.blk_vectors.ByteByByteSource.append.Goals as goal

pub returns-in_err-append-clause-remain : goal.returns-in_err-append-clause-remain
returns-in_err-append-clause-remain g c = remain_trans _ _ _ c.loop-self.invariant.4 c.append.ensures.remain

pub loop-self-preserved : goal.loop-self-preserved
loop-self-preserved g c = (
  search rules,
  search rules,
  c.loop-self.invariant.2 ∙ c.in_ok-append.ensures.came,
  search rules,
  remain_trans _ _ _ c.loop-self.invariant.4 c.append.ensures.remain,
)
