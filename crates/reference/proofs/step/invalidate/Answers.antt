use Rattle.std.proofs.Common.{ℕ, Some, None, sym, ap, ◌∙◌, arith}
use Rattle.reference.specs.inside.Replay.{chain_rules, state_of_replayed}
use Rattle.model.specs.laws.Steps.{step-genesis, step_not-found}
use Rattle.model.specs.laws.Findings.{invalidate_done}
use Rattle.reference.proofs.Steps.{find_place, place_kept}
use Rattle.reference.proofs.step.invalidate.Goals as goal

pub mark-requires-clause-kept : goal.mark-requires-clause-kept
mark-requires-clause-kept c =
    place_kept (chain_rules c.args.chain.now) c.args.old.now c.requires c.args.id.now c.in-Some.place
    (find_place c.args.old.now c.deref.result.now c.args.id.now c.find.result (Some c.in-Some.place) c.deref.ensures.value c.find.ensures c.in-Some.is)

pub returns-in-None-clause-state : goal.returns-in-None-clause-state
returns-in-None-clause-state c =
    sym (step_not-found (chain_rules c.args.chain.now) (state_of_replayed c.args.old.now) c.args.id.now (find_place c.args.old.now c.deref.result.now c.args.id.now c.find.result None c.deref.ensures.value c.find.ensures c.in-None.is)).0

pub returns-in-Some-eq0-clause-state : goal.returns-in-Some-eq0-clause-state
returns-in-Some-eq0-clause-state c =
    sym (step-genesis (chain_rules c.args.chain.now) (state_of_replayed c.args.old.now) c.args.id.now
    (find_place c.args.old.now c.deref.result.now c.args.id.now c.find.result (Some 0) c.deref.ensures.value c.find.ensures (c.in-Some-eq0.is ∙ ap (λ (k : ℕ). Some k) c.in-Some-eq0.field-0-test)))

pub returns-in_ok-settle-in-Some-clause-state : goal.returns-in_ok-settle-in-Some-clause-state
returns-in_ok-settle-in-Some-clause-state c =
    invalidate_done c.args.chain.now.params.now c.args.chain.now.table.now (state_of_replayed c.args.old.now) c.args.id.now c.in-Some.place
    (find_place c.args.old.now c.deref.result.now c.args.id.now c.find.result (Some c.in-Some.place) c.deref.ensures.value c.find.ensures c.in-Some.is)
    (state_of_replayed c.mark.new.self) (state_of_replayed c.settle.new.old) (omega arith) c.mark.ensures.state c.in_ok-settle-in-Some.ensures.state

pub settle-requires : goal.settle-requires
settle-requires c = c.mark.ensures.right c.args.chain.now.params.now c.args.chain.now.table.now c.requires

pub mark-requires-clause-right : goal.mark-requires-clause-right
mark-requires-clause-right c = (c.args.chain.now.params.now, c.args.chain.now.table.now, c.requires)
