-- A rule that a block breaks by itself comes before those over coins.
use Rattle.std.proofs.Common.{rules, ◌≡◌, Option, None, Some, true, false, is_some, true≢false, refl, sym, subst, ◌∙◌}
use Rattle.std.specs.Result.{result_err}
use Rattle.txn.specs.First.{first_broken}
use Rattle.coins.specs.Coins.{Coins}
use Rattle.rules.specs.Alone.{alone_rules}
use Rattle.connect.specs.BlockContext.{setting}
use Rattle.connect.specs.Scripts.{IsBefore, IsConnectFault}
use Rattle.ffi.proofs.Slots.{empty}
use Rattle.ffi.proofs.utxo.effect_of.Goals as goal

pub returns-in-Some-clause-fault : goal.returns-in-Some-clause-fault
returns-in-Some-clause-fault c triples agrees =
    let s = setting c.args.context.now in
    let broken : first_broken (alone_rules c.args.block) ≡ Some c.in-Some.reason = sym c.in_ok-reason.ensures ∙ c.in-Some.is in
    subst (λ o. IsBefore o (IsConnectFault s c.args.coins.now c.args.block.txs triples) (Some c.in-Some.reason)) (sym broken) refl

pub returns-in-Err-clause-fault : goal.returns-in-Err-clause-fault
returns-in-Err-clause-fault c triples agrees =
    let s = setting c.args.context.now in
    let nothing : is_some c.in_ok-reason.field-0 ≡ false = search rules in
    let none : first_broken (alone_rules c.args.block) ≡ None = sym c.in_ok-reason.ensures ∙ empty c.in_ok-reason.field-0 nothing in
    let found : IsConnectFault s c.over-layer.result.coins c.args.block.txs triples (Some c.in-Err.reason) =
    subst (λ r. IsConnectFault s c.over-layer.result.coins c.args.block.txs triples (result_err r)) c.in-Err.is (c.in_ok-reason-2.ensures.fault triples agrees) in
    subst (λ o. IsBefore o (IsConnectFault s c.args.coins.now c.args.block.txs triples) (Some c.in-Err.reason)) (sym none)
    (subst (λ (m : Coins). IsConnectFault s m c.args.block.txs triples (Some c.in-Err.reason)) c.over-layer.ensures.coins found)
