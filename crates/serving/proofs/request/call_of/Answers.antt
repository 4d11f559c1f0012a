use Rattle.serving.proofs.request.call_of.Goals as goal
use Rattle.std.proofs.Common.{sym, subst, inr}
use Rattle.std.specs.Prelude.{IfOk, IfErr}
use Rattle.serving.specs.Requests.{IsCall}
use Rattle.serving.specs.declared.method.Method.TheVariants as method
use Rattle.serving.specs.inside.Given.{given, IsNoCall}
use Rattle.serving.proofs.Refusals.{is-param, takes}

pub returns-in-Submit-clause-ok : goal.returns-in-Submit-clause-ok
returns-in-Submit-clause-ok c =
    subst (λ m. IfOk c.submission.result (λ call. IsCall c.args.seats m (given c.args.params.now) call))
    (sym c.in-Submit.is) (c.submission.ensures.ok c.args.seats)

pub returns-in-Submit-clause-err : goal.returns-in-Submit-clause-err
returns-in-Submit-clause-err c =
    subst (λ m. IfErr c.submission.result (λ why. IsNoCall c.args.seats m (given c.args.params.now) why))
    (sym c.in-Submit.is) (c.submission.ensures.err c.args.seats)

pub returns-in-Judge-clause-ok : goal.returns-in-Judge-clause-ok
returns-in-Judge-clause-ok c =
    subst (λ m. IfOk c.dry_run.result (λ call. IsCall c.args.seats m (given c.args.params.now) call))
    (sym c.in-Judge.is) (c.dry_run.ensures.ok c.args.seats)

pub returns-in-Judge-clause-err : goal.returns-in-Judge-clause-err
returns-in-Judge-clause-err c =
    subst (λ m. IfErr c.dry_run.result (λ why. IsNoCall c.args.seats m (given c.args.params.now) why))
    (sym c.in-Judge.is) (c.dry_run.ensures.err c.args.seats)

pub returns-in-GetTxOut-clause-ok : goal.returns-in-GetTxOut-clause-ok
returns-in-GetTxOut-clause-ok c =
    subst (λ m. IfOk c.output.result (λ call. IsCall c.args.seats m (given c.args.params.now) call))
    (sym c.in-GetTxOut.is) (c.output.ensures.ok c.args.seats)

pub returns-in-GetTxOut-clause-err : goal.returns-in-GetTxOut-clause-err
returns-in-GetTxOut-clause-err c =
    subst (λ m. IfErr c.output.result (λ why. IsNoCall c.args.seats m (given c.args.params.now) why))
    (sym c.in-GetTxOut.is) (c.output.ensures.err c.args.seats)

pub returns-in-Journal-clause-ok : goal.returns-in-Journal-clause-ok
returns-in-Journal-clause-ok c =
    subst (λ m. IfOk c.entries.result (λ call. IsCall c.args.seats m (given c.args.params.now) call))
    (sym c.in-Journal.is) (c.entries.ensures.ok c.args.seats)

pub returns-in-Journal-clause-err : goal.returns-in-Journal-clause-err
returns-in-Journal-clause-err c =
    subst (λ m. IfErr c.entries.result (λ why. IsNoCall c.args.seats m (given c.args.params.now) why))
    (sym c.in-Journal.is) (c.entries.ensures.err c.args.seats)

pub returns-in-Err-clause-err : goal.returns-in-Err-clause-err
returns-in-Err-clause-err c =
    let none = c.in-Err.ensures.err in
    subst (λ m. IsNoCall c.args.seats m (given c.args.params.now) c.in-Err.refusal) (sym c.in-Invalidate.is)
    (inr (is-param none.0, λ call h. let id = takes c.args.seats method.Invalidate (given c.args.params.now) call h in none.1 id.0 id.1))

pub returns-in-Err-id-clause-err : goal.returns-in-Err-id-clause-err
returns-in-Err-id-clause-err c =
    let none = c.in-Err-id.ensures.err in
    subst (λ m. IsNoCall c.args.seats m (given c.args.params.now) c.in-Err-id.refusal) (sym c.in-Reconsider.is)
    (inr (is-param none.0, λ call h. let id = takes c.args.seats method.Reconsider (given c.args.params.now) call h in none.1 id.0 id.1))

pub returns-in-Err-id-2-clause-err : goal.returns-in-Err-id-2-clause-err
returns-in-Err-id-2-clause-err c =
    let none = c.in-Err-id-2.ensures.err in
    subst (λ m. IsNoCall c.args.seats m (given c.args.params.now) c.in-Err-id-2.refusal) (sym c.in-Precious.is)
    (inr (is-param none.0, λ call h. let id = takes c.args.seats method.Precious (given c.args.params.now) call h in none.1 id.0 id.1))

pub returns-in-GetBlock-clause-ok : goal.returns-in-GetBlock-clause-ok
returns-in-GetBlock-clause-ok c =
    subst (λ m. IfOk c.block.result (λ call. IsCall c.args.seats m (given c.args.params.now) call))
    (sym c.in-GetBlock.is) (c.block.ensures.ok c.args.seats)

pub returns-in-GetBlock-clause-err : goal.returns-in-GetBlock-clause-err
returns-in-GetBlock-clause-err c =
    subst (λ m. IfErr c.block.result (λ why. IsNoCall c.args.seats m (given c.args.params.now) why))
    (sym c.in-GetBlock.is) (c.block.ensures.err c.args.seats)

pub returns-in-GetBlockHeader-clause-ok : goal.returns-in-GetBlockHeader-clause-ok
returns-in-GetBlockHeader-clause-ok c =
    subst (λ m. IfOk c.header.result (λ call. IsCall c.args.seats m (given c.args.params.now) call))
    (sym c.in-GetBlockHeader.is) (c.header.ensures.ok c.args.seats)

pub returns-in-GetBlockHeader-clause-err : goal.returns-in-GetBlockHeader-clause-err
returns-in-GetBlockHeader-clause-err c =
    subst (λ m. IfErr c.header.result (λ why. IsNoCall c.args.seats m (given c.args.params.now) why))
    (sym c.in-GetBlockHeader.is) (c.header.ensures.err c.args.seats)

pub returns-in-GetBlockHash-clause-ok : goal.returns-in-GetBlockHash-clause-ok
returns-in-GetBlockHash-clause-ok c =
    subst (λ m. IfOk c.hash.result (λ call. IsCall c.args.seats m (given c.args.params.now) call))
    (sym c.in-GetBlockHash.is) (c.hash.ensures.ok c.args.seats)

pub returns-in-GetBlockHash-clause-err : goal.returns-in-GetBlockHash-clause-err
returns-in-GetBlockHash-clause-err c =
    subst (λ m. IfErr c.hash.result (λ why. IsNoCall c.args.seats m (given c.args.params.now) why))
    (sym c.in-GetBlockHash.is) (c.hash.ensures.err c.args.seats)

pub returns-in-GetAncestor-clause-ok : goal.returns-in-GetAncestor-clause-ok
returns-in-GetAncestor-clause-ok c =
    subst (λ m. IfOk c.ancestor.result (λ call. IsCall c.args.seats m (given c.args.params.now) call))
    (sym c.in-GetAncestor.is) (c.ancestor.ensures.ok c.args.seats)

pub returns-in-GetAncestor-clause-err : goal.returns-in-GetAncestor-clause-err
returns-in-GetAncestor-clause-err c =
    subst (λ m. IfErr c.ancestor.result (λ why. IsNoCall c.args.seats m (given c.args.params.now) why))
    (sym c.in-GetAncestor.is) (c.ancestor.ensures.err c.args.seats)

pub returns-in-GetFork-clause-ok : goal.returns-in-GetFork-clause-ok
returns-in-GetFork-clause-ok c =
    subst (λ m. IfOk c.fork.result (λ call. IsCall c.args.seats m (given c.args.params.now) call))
    (sym c.in-GetFork.is) (c.fork.ensures.ok c.args.seats)

pub returns-in-GetFork-clause-err : goal.returns-in-GetFork-clause-err
returns-in-GetFork-clause-err c =
    subst (λ m. IfErr c.fork.result (λ why. IsNoCall c.args.seats m (given c.args.params.now) why))
    (sym c.in-GetFork.is) (c.fork.ensures.err c.args.seats)

pub returns-in-GetSpent-clause-ok : goal.returns-in-GetSpent-clause-ok
returns-in-GetSpent-clause-ok c =
    subst (λ m. IfOk c.spent.result (λ call. IsCall c.args.seats m (given c.args.params.now) call))
    (sym c.in-GetSpent.is) (c.spent.ensures.ok c.args.seats)

pub returns-in-GetSpent-clause-err : goal.returns-in-GetSpent-clause-err
returns-in-GetSpent-clause-err c =
    subst (λ m. IfErr c.spent.result (λ why. IsNoCall c.args.seats m (given c.args.params.now) why))
    (sym c.in-GetSpent.is) (c.spent.ensures.err c.args.seats)

pub returns-in-Coins-clause-ok : goal.returns-in-Coins-clause-ok
returns-in-Coins-clause-ok c =
    subst (λ m. IfOk c.coins.result (λ call. IsCall c.args.seats m (given c.args.params.now) call))
    (sym c.in-Coins.is) (c.coins.ensures.ok c.args.seats)

pub returns-in-Coins-clause-err : goal.returns-in-Coins-clause-err
returns-in-Coins-clause-err c =
    subst (λ m. IfErr c.coins.result (λ why. IsNoCall c.args.seats m (given c.args.params.now) why))
    (sym c.in-Coins.is) (c.coins.ensures.err c.args.seats)

pub returns-in-Wait-clause-ok : goal.returns-in-Wait-clause-ok
returns-in-Wait-clause-ok c =
    subst (λ m. IfOk c.wait.result (λ call. IsCall c.args.seats m (given c.args.params.now) call))
    (sym c.in-Wait.is) (c.wait.ensures.ok c.args.seats)

pub returns-in-Wait-clause-err : goal.returns-in-Wait-clause-err
returns-in-Wait-clause-err c =
    subst (λ m. IfErr c.wait.result (λ why. IsNoCall c.args.seats m (given c.args.params.now) why))
    (sym c.in-Wait.is) (c.wait.ensures.err c.args.seats)

pub returns-in-Learn-clause-ok : goal.returns-in-Learn-clause-ok
returns-in-Learn-clause-ok c =
    subst (λ m. IfOk c.verdicts.result (λ call. IsCall c.args.seats m (given c.args.params.now) call))
    (sym c.in-Learn.is) (c.verdicts.ensures.ok c.args.seats)

pub returns-in-Learn-clause-err : goal.returns-in-Learn-clause-err
returns-in-Learn-clause-err c =
    subst (λ m. IfErr c.verdicts.result (λ why. IsNoCall c.args.seats m (given c.args.params.now) why))
    (sym c.in-Learn.is) (c.verdicts.ensures.err c.args.seats)
