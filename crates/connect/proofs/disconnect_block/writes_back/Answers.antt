use Rattle.std.proofs.Common.{sym, ap, subst, ◌∙◌}
use Rattle.coins.specs.Coins.{Coins, Layer}
use Rattle.coins.specs.Entries.{over, IsSound}
use Rattle.connect.specs.inside.AppliedTransactions.{IsBlockApplied}
use Rattle.connect.proofs.disconnect_block.writes_back.Goals as goal

pub revert_txs-requires-clause-applied : goal.revert_txs-requires-clause-applied
revert_txs-requires-clause-applied g c =
    let p = c.requires.applied in
    (p.0, p.1, subst (λ (n : Coins). IsBlockApplied p.0 p.1 c.args.txs.now n c.args.undo.now) (sym c.over.ensures.coins) p.2)

pub returns-clause-sound : goal.returns-clause-sound
returns-clause-sound g c =
    let p = c.requires.applied in
    let left = c.in_ok-layer.ensures p.0 p.1 (subst (λ (n : Coins). IsBlockApplied p.0 p.1 c.args.txs.now n c.args.undo.now) (sym c.over.ensures.coins) p.2) in
    let below = ap (λ (l : Layer). l.base) left ∙ c.over.ensures.below in
    subst (λ (m : Coins). IsSound m c.into_writes.result) below c.into_writes.ensures.sound

pub returns-clause-over : goal.returns-clause-over
returns-clause-over g c = λ h m b.
    let left = c.in_ok-layer.ensures h m (subst (λ (n : Coins). IsBlockApplied h m c.args.txs.now n c.args.undo.now) (sym c.over.ensures.coins) b) in
    let below = ap (λ (l : Layer). l.base) left ∙ c.over.ensures.below in
    ap (λ (n : Coins). over n c.into_writes.result) (sym below) ∙ c.into_writes.ensures.over ∙ ap (λ (l : Layer). l.coins) left
