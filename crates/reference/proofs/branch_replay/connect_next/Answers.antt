use Rattle.std.proofs.Common.{Some, None, subst}
use Rattle.std.specs.Result.{result_err}
use Rattle.connect.specs.BlockContext.{setting}
use Rattle.connect.specs.Scripts.{IsConnectFault}
use Rattle.signatures.specs.laws.Agreement.{table_agrees}
use Rattle.connect.specs.laws.Scripts.{fault-found}
use Rattle.reference.proofs.branch_replay.connect_next.Goals as goal

pub returns-in-Ok-clause-fault : goal.returns-in-Ok-clause-fault
returns-in-Ok-clause-fault c =
    let s = setting c.args.context.now in
    let m = c.args.coins.now.coins in
    let txs = c.args.block.now.txs in
    let triples = c.args.chain.now.table.now in
    (fault-found s m txs triples None).0 (subst (λ a. IsConnectFault s m txs triples (result_err a)) c.in-Ok.is (c.in_ok-connect.ensures.fault triples (table_agrees triples)))

pub returns-clause-fault : goal.returns-clause-fault
returns-clause-fault c =
    let s = setting c.args.context.now in
    let m = c.args.coins.now.coins in
    let txs = c.args.block.now.txs in
    let triples = c.args.chain.now.table.now in
    (fault-found s m txs triples (Some c.in-Err.reason)).0 (subst (λ a. IsConnectFault s m txs triples (result_err a)) c.in-Err.is (c.in_ok-connect.ensures.fault triples (table_agrees triples)))
