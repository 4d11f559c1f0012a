use Rattle.std.proofs.Common.{Some, None, sym}
use Rattle.reference.specs.inside.Replay.{chain_rules, state_of_replayed}
use Rattle.model.specs.laws.Steps.{step_not-found}
use Rattle.model.specs.laws.Findings.{reconsider_done}
use Rattle.reference.proofs.Steps.{find_place, place_kept}
use Rattle.reference.proofs.step.reconsider.Goals as goal

pub clear-requires-clause-kept : goal.clear-requires-clause-kept
clear-requires-clause-kept c =
    place_kept (chain_rules c.args.chain.now) c.args.old.now c.requires c.args.id.now c.in-Some.place
    (find_place c.args.old.now c.deref.result.now c.args.id.now c.find.result (Some c.in-Some.place) c.deref.ensures.value c.find.ensures c.in-Some.is)

pub returns-in_default-clause-state : goal.returns-in_default-clause-state
returns-in_default-clause-state c =
    sym (step_not-found (chain_rules c.args.chain.now) (state_of_replayed c.args.old.now) c.args.id.now (find_place c.args.old.now c.deref.result.now c.args.id.now c.find.result None c.deref.ensures.value c.find.ensures c.in_default.is)).1

pub returns-clause-state : goal.returns-clause-state
returns-clause-state c =
    reconsider_done c.args.chain.now.params.now c.args.chain.now.table.now (state_of_replayed c.args.old.now) c.args.id.now c.in-Some.place
    (find_place c.args.old.now c.deref.result.now c.args.id.now c.find.result (Some c.in-Some.place) c.deref.ensures.value c.find.ensures c.in-Some.is)
    (state_of_replayed c.clear.new.self) (state_of_replayed c.settle.new.old) c.in_ok-clear.ensures.state c.in_ok-settle.ensures.state

pub settle-requires : goal.settle-requires
settle-requires c = c.in_ok-clear.ensures.right c.args.chain.now.params.now c.args.chain.now.table.now c.requires

pub clear-requires-clause-right : goal.clear-requires-clause-right
clear-requires-clause-right c = (c.args.chain.now.params.now, c.args.chain.now.table.now, c.requires)
