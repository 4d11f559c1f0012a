-- What holds of the fields holds of the set that they make.
use Rattle.std.proofs.Common.{rules, ◌≡◌, None, Some, IfOk, sym, subst}
use Rattle.std.specs.Result.{result_err}
use Rattle.block.specs.declared.block.Block.{Block}
use Rattle.signatures.specs.Known.{Agrees}
use Rattle.coins.specs.Changes.{Changes, after_changes}
use Rattle.coins.specs.Coins.{Coins}
use Rattle.connect.specs.BlockContext.{setting}
use Rattle.connect.specs.ConnectedBlock.{IsConnected}
use Rattle.ffi.specs.UtxoState.{IsBlockFault, UtxoState, known_by}
use Rattle.ffi.proofs.utxo.Utxo.connect.Goals as goal

pub invariant_of-self-in-Ok-Ok : goal.invariant_of-self-in-Ok-Ok
invariant_of-self-in-Ok-Ok c =
    let s = setting c.args.context.now in
    let m = c.self.inside.coins in
    let b = c.args.block in
    let done = c.in-Ok-Ok.field-0-0.done in
    let changes = c.in-Ok-Ok.changes in
    let laid : c.lay.new.self ≡ after_changes m changes = search rules in
    let block = subst (λ r. IfOk r (λ found. found.done.block ≡ b)) c.in-Ok-Ok.field-0-is c.in-Ok-Ok.ensures.block in
    let connected = subst (λ (l : Changes). IsConnected s m b (after_changes m l) done.undo) c.in-Ok-Ok.changes-is
    (subst (λ r. IfOk r (λ found. IsConnected s m b (after_changes m found.changes) found.done.undo)) c.in-Ok-Ok.field-0-is c.in-Ok-Ok.ensures.connected) in (
      s,
      m,
      subst (λ (n : Coins). IsConnected s m done.block n done.undo) (sym laid)
          (subst (λ (x : Block). IsConnected s m x (after_changes m changes) done.undo) (sym block) connected),
    )

pub returns-in-Ok-Err-clause-fault : goal.returns-in-Ok-Err-clause-fault
returns-in-Ok-Err-clause-fault c triples agrees =
    let s = setting c.args.context.now in
    subst (λ (u : UtxoState). IsBlockFault s u.coins c.args.block triples (Some c.in-Ok-Err.reason)) c.self.view_is
    (subst (λ r. IsBlockFault s c.self.inside.coins c.args.block triples (result_err r)) c.in-Ok-Err.field-0-is
    (c.in-Ok-Err.ensures.fault triples (subst (λ (u : UtxoState). Agrees (known_by u) triples) (sym c.self.view_is) agrees)))

pub returns-else-is_err-clause-fault : goal.returns-else-is_err-clause-fault
returns-else-is_err-clause-fault c triples agrees =
    let s = setting c.args.context.now in
    subst (λ (u : UtxoState). IsBlockFault s u.coins c.args.block triples None) c.self.view_is
    (subst (λ r. IsBlockFault s c.self.inside.coins c.args.block triples (result_err r)) c.in-Ok-Ok.field-0-is
    (c.in-Ok-Ok.ensures.fault triples (subst (λ (u : UtxoState). Agrees (known_by u) triples) (sym c.self.view_is) agrees)))
