use Rattle.std.proofs.Common.{rules, ◌++◌, List, ℕ, ap, sym, ◌∙◌}
use Rattle.block.proofs.Records.{come_next, filled, remain_trans}
use Rattle.block.proofs.pieces.fill.Goals as goal

pub loop-at-preserved : goal.loop-at-preserved
loop-at-preserved g c =
    let part = filled c.loop-at.at _ c.in_ok-count.count c.loop-at.buffer c.read.new.buffer c.loop-at.invariant.0 c.in_ok-count.ensures.room in (
      search rules,
      search rules,
      come_next _ _ _ _ _ c.loop-at.invariant.2 c.in_ok-count.ensures.came ∙ ap (λ (t : List ℕ). t ++ g.R.Source.to_come c.read.new.self) (sym part),
      search rules,
      remain_trans _ _ _ c.loop-at.invariant.4 (_, c.in_ok-count.ensures.came),
    )
