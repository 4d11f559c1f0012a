use Rattle.std.proofs.Common.{◌-◌, length, drop, arith, ap, ◌∙◌}
use Rattle.activate.specs.inside.ActiveBranch.{last_of}
use Rattle.activate.specs.CoreState.{most_undo}
use Rattle.activate.proofs.active_branch.drop_oldest.Goals as goal

pub returns-then-len-ge-MOST_UNDO-clause-kept : goal.returns-then-len-ge-MOST_UNDO-clause-kept
unfolding last_of
returns-then-len-ge-MOST_UNDO-clause-kept c =
    let t = c.if-len-ge-MOST_UNDO.true in
    let r = c.requires in
    let e = c.len.ensures in
    let w = c.args.kept.now.ok.0 in
    c.pop_front.ensures.rest ∙ ap (λ i. drop i c.args.kept.now.items) {x = 1} {y = length c.args.kept.now.items - (most_undo - 1)} (omega arith)

pub returns-else-len-ge-MOST_UNDO-clause-kept : goal.returns-else-len-ge-MOST_UNDO-clause-kept
unfolding last_of
returns-else-len-ge-MOST_UNDO-clause-kept c =
    let t = c.if-len-ge-MOST_UNDO.false in
    let e = c.len.ensures in
    let w = c.args.kept.now.ok.0 in
    ap (λ i. drop i c.args.kept.now.items) {x = 0} {y = length c.args.kept.now.items - (most_undo - 1)} (omega arith)
