-- The layer has the coins that it is over.
use Rattle.std.proofs.Common.{subst, sym}
use Rattle.coins.specs.Coins.{Coins}
use Rattle.connect.specs.ConnectedBlock.{IsConnected}
use Rattle.ffi.proofs.utxo.changes_back.Goals as goal

pub disconnect_in_layer-requires-clause-connected : goal.disconnect_in_layer-requires-clause-connected
disconnect_in_layer-requires-clause-connected c =
    let r = c.requires in
    (r.0, r.1, subst (λ (n : Coins). IsConnected r.0 r.1 c.args.last.now.block n c.args.last.now.undo) (sym c.over-layer.ensures.coins) r.2)
