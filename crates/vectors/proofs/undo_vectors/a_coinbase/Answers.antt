use Rattle.std.proofs.Common.{ap, ◌∙◌}
use Rattle.coins.specs.Coins.{Layer}
use Rattle.vectors.proofs.Trials.{id_of_sevens, coinbase_applies}
use Rattle.vectors.proofs.undo_vectors.a_coinbase.Goals as goal

pub apply_tx-requires : goal.apply_tx-requires
apply_tx-requires g c = coinbase_applies c.over-layer.result.coins c.in_ok-tx.tx id_of_sevens (c.over-layer.ensures.coins ∙ c.new-map.ensures) c.in_ok-tx.ensures.input c.in_ok-tx.ensures.outputs

pub revert_tx-requires : goal.revert_tx-requires
revert_tx-requires g c = (
  c.over-layer.result.coins,
  9,
  record {
    applicable = coinbase_applies c.over-layer.result.coins c.in_ok-tx.tx id_of_sevens (c.over-layer.ensures.coins ∙ c.new-map.ensures) c.in_ok-tx.ensures.input c.in_ok-tx.ensures.outputs;
    after = ap (λ (l : Layer). l.coins) c.in_ok-spent.ensures.ok;
    spent = c.in_ok-spent.ensures.spent;
  },
)
