use Rattle.std.proofs.Common.{Some, None, sym, ◌∙◌}
use Rattle.reference.specs.inside.Replay.{chain_rules, state_of_replayed}
use Rattle.model.specs.laws.Findings.{fault_alone, fault_orphan, fault_invalid, fault_context}
use Rattle.reference.proofs.Steps.{find_place, place_kept}
use Rattle.reference.proofs.step.judge.Goals as goal

pub returns-in-Some-clause-fault : goal.returns-in-Some-clause-fault
returns-in-Some-clause-fault c = fault_alone c.args.chain.now.params.now c.args.chain.now.table.now (state_of_replayed c.args.old.now) c.args.now c.args.block.now c.in-Some.reason (sym c.in_ok-reason.ensures ∙ c.in-Some.is)

pub returns-in_default-find-clause-fault : goal.returns-in_default-find-clause-fault
returns-in_default-find-clause-fault c =
    fault_orphan c.args.chain.now.params.now c.args.chain.now.table.now (state_of_replayed c.args.old.now) c.args.now c.args.block.now (sym c.in_ok-reason.ensures ∙ c.in_default.is)
    (find_place c.args.old.now c.deref.result.now c.args.block.now.header.prev c.find.result None c.deref.ensures.value c.find.ensures c.in_default-find.is)

pub is_usable-requires-clause-kept : goal.is_usable-requires-clause-kept
is_usable-requires-clause-kept c =
    place_kept (chain_rules c.args.chain.now) c.args.old.now c.requires c.args.block.now.header.prev c.in-Some-find.parent
    (find_place c.args.old.now c.deref.result.now c.args.block.now.header.prev c.find.result (Some c.in-Some-find.parent) c.deref.ensures.value c.find.ensures c.in-Some-find.is)

pub fault_by_place-requires-clause-kept : goal.fault_by_place-requires-clause-kept
fault_by_place-requires-clause-kept c =
    place_kept (chain_rules c.args.chain.now) c.args.old.now c.requires c.args.block.now.header.prev c.in-Some-find.parent
    (find_place c.args.old.now c.deref.result.now c.args.block.now.header.prev c.find.result (Some c.in-Some-find.parent) c.deref.ensures.value c.find.ensures c.in-Some-find.is)

pub returns-then-not-branch-clause-fault : goal.returns-then-not-branch-clause-fault
returns-then-not-branch-clause-fault c =
    fault_invalid c.args.chain.now.params.now c.args.chain.now.table.now (state_of_replayed c.args.old.now) c.args.now c.args.block.now (sym c.in_ok-reason.ensures ∙ c.in_default.is) c.in-Some-find.parent
    (find_place c.args.old.now c.deref.result.now c.args.block.now.header.prev c.find.result (Some c.in-Some-find.parent) c.deref.ensures.value c.find.ensures c.in-Some-find.is) (sym c.in_ok-is_usable.ensures ∙ c.if-not-branch.true)

pub returns-in-Some-2-clause-fault : goal.returns-in-Some-2-clause-fault
returns-in-Some-2-clause-fault c =
    fault_context c.args.chain.now.params.now c.args.chain.now.table.now (state_of_replayed c.args.old.now) c.args.now c.args.block.now (sym c.in_ok-reason.ensures ∙ c.in_default.is) c.in-Some-find.parent (Some c.in-Some-2.reason)
    (find_place c.args.old.now c.deref.result.now c.args.block.now.header.prev c.find.result (Some c.in-Some-find.parent) c.deref.ensures.value c.find.ensures c.in-Some-find.is) (sym c.in_ok-is_usable.ensures ∙ c.if-not-branch.false) (sym c.in-Some-2.is ∙ c.in_ok-reason-2.ensures)

pub returns-in-None-clause-fault : goal.returns-in-None-clause-fault
returns-in-None-clause-fault c =
    fault_context c.args.chain.now.params.now c.args.chain.now.table.now (state_of_replayed c.args.old.now) c.args.now c.args.block.now (sym c.in_ok-reason.ensures ∙ c.in_default.is) c.in-Some-find.parent None
    (find_place c.args.old.now c.deref.result.now c.args.block.now.header.prev c.find.result (Some c.in-Some-find.parent) c.deref.ensures.value c.find.ensures c.in-Some-find.is) (sym c.in_ok-is_usable.ensures ∙ c.if-not-branch.false) (sym c.in-None.is ∙ c.in_ok-reason-2.ensures)

pub returns-in-None-clause-parent : goal.returns-in-None-clause-parent
returns-in-None-clause-parent c =
    (find_place c.args.old.now c.deref.result.now c.args.block.now.header.prev c.find.result (Some c.in-Some-find.parent) c.deref.ensures.value c.find.ensures c.in-Some-find.is)
