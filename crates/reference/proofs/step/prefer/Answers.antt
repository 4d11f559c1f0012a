use Rattle.std.proofs.Common.{◌≡◌, List, length, Some, None, sym, ap, ◌∙◌, subst, arith}
use Rattle.block.specs.declared.block.Block.{Block}
use Rattle.tree.specs.Branches.{height}
use Rattle.tree.specs.State.{State}
use Rattle.model.specs.declared.reply.MarkReply.TheVariants.{Done}
use Rattle.reference.specs.declared.judgement.Judgement.{Judgement}
use Rattle.model.specs.Settle.{active}
use Rattle.model.specs.Step.{mark_says}
use Rattle.reference.specs.inside.Replay.{AreJudgements, chain_rules, state_of_replayed}
use Rattle.reference.proofs.States.{count, genesis-usable, height-is}
use Rattle.reference.proofs.step.prefer.Goals.{then-index+in_ok-call+in_ok-settle, else-index}
use Rattle.model.specs.laws.Steps.{step_not-found}
use Rattle.model.specs.laws.Findings.{prefer_done, prefer_lower}
use Rattle.reference.proofs.Steps.{find_place, place_kept}
use Rattle.reference.proofs.step.prefer.Goals as goal

pub returns-in_default-clause-state : goal.returns-in_default-clause-state
returns-in_default-clause-state c =
    sym (step_not-found (chain_rules c.args.chain.now) (state_of_replayed c.args.old.now) c.args.id.now (find_place c.args.old.now c.deref.result.now c.args.id.now c.find.result None c.deref.ensures.value c.find.ensures c.in_default.is)).2

pub index-requires : goal.index-requires
index-requires c =
    let r = chain_rules c.args.chain.now in
    let k = place_kept r c.args.old.now c.requires c.args.id.now c.in-Some.place (find_place c.args.old.now c.deref.result.now c.args.id.now c.find.result (Some c.in-Some.place) c.deref.ensures.value c.find.ensures c.in-Some.is) in
    let n = count r c.args.old.now c.requires in
    let j = c.in_ok-judged.ensures.same in
    let w = c.in_ok-judged.judged.ok in
    omega arith

pub returns-clause-state : goal.returns-clause-state
returns-clause-state c =
    let r = chain_rules c.args.chain.now in
    let old = c.args.old.now in
    let s = state_of_replayed old in
    let items = c.in_ok-judged.judged.items in
    let place = (find_place c.args.old.now c.deref.result.now c.args.id.now c.find.result (Some c.in-Some.place) c.deref.ensures.value c.find.ensures c.in-Some.is) in
    let k = place_kept r old c.requires c.args.id.now c.in-Some.place place in
    let n = count r old c.requires in
    let j = c.in_ok-judged.ensures.same in
    let l = ap (λ (k : List Judgement). length k) c.deref-2.ensures.value in
    let b = c.best_of.ensures.kept in
    let best : c.best_of.result ≡ active r s =
    c.best_of.ensures.active c.args.chain.now.params.now c.args.chain.now.table.now s (subst (λ (k : List Judgement). AreJudgements r s k) (sym c.deref-2.ensures.value) c.in_ok-judged.ensures) (genesis-usable r old c.requires) in
    let own : c.index.result.now.height ≡ height s.blocks c.in-Some.place =
    ap (λ (q : Judgement). q.height) c.index.ensures ∙ height-is c.args.chain.now.params.now c.args.chain.now.table.now s items c.in_ok-judged.ensures c.in-Some.place c.index.result.now (omega arith) in
    let top : c.index-2.result.now.height ≡ height s.blocks (active r s) =
    ap (λ (q : Judgement). q.height) c.index-2.ensures ∙ height-is c.args.chain.now.params.now c.args.chain.now.table.now s items c.in_ok-judged.ensures c.best_of.result c.index-2.result.now (omega arith) ∙ ap (height s.blocks) best in
    elim c.if-index.branch [
      | then-index+in_ok-call+in_ok-settle w ↦
          let h = w.if-index.true in
          prefer_done c.args.chain.now.params.now c.args.chain.now.table.now s c.args.id.now c.in-Some.place place (state_of_replayed w.call.new.self) (state_of_replayed c.if-index.old) (omega arith) w.in_ok-call.ensures.state (ap state_of_replayed w.old-is ∙ w.in_ok-settle.ensures.state)
      | else-index w ↦
          let h = w.if-index.false in
          ap (λ (q : State Block). mark_says q Done) (ap state_of_replayed w.old-is) ∙ prefer_lower c.args.chain.now.params.now c.args.chain.now.table.now s c.args.id.now c.in-Some.place place (omega arith)
    ]

pub settle-requires : goal.settle-requires
settle-requires c = c.in_ok-call.ensures.right c.args.chain.now.params.now c.args.chain.now.table.now c.requires

pub call-requires : goal.call-requires
call-requires c = (c.args.chain.now.params.now, c.args.chain.now.table.now, c.requires)
