use Rattle.std.proofs.Common.{Some, None, sym, ◌∙◌}
use Rattle.tree.specs.laws.AddedBlock.{place-bound}
use Rattle.tree.specs.Names.{names}
use Rattle.model.specs.laws.Findings.{fault_alone, fault_orphan, fault_invalid, fault_context}
use Rattle.activate.proofs.block_faults.fault_or_parent.Goals as goal

pub returns-in-Some-clause-fault : goal.returns-in-Some-clause-fault
returns-in-Some-clause-fault c triples = fault_alone c.args.params.now triples c.args.tree.now c.args.now c.args.submitted.now.block c.in-Some.reason (sym c.requires.judged.fault ∙ c.in-Some.is)

pub returns-in_default-find-clause-fault : goal.returns-in_default-find-clause-fault
returns-in_default-find-clause-fault c triples =
    fault_orphan c.args.params.now triples c.args.tree.now c.args.now c.args.submitted.now.block (sym c.requires.judged.fault ∙ c.in_default.is) (sym c.find.ensures ∙ c.in_default-find.is)

pub usable-requires : goal.usable-requires
usable-requires c = place-bound names c.args.tree.now.blocks c.args.submitted.now.block.header.prev c.in-Some-find.parent (sym c.find.ensures ∙ c.in-Some-find.is)

pub returns-then-not-usable-clause-fault : goal.returns-then-not-usable-clause-fault
returns-then-not-usable-clause-fault c triples =
    fault_invalid c.args.params.now triples c.args.tree.now c.args.now c.args.submitted.now.block (sym c.requires.judged.fault ∙ c.in_default.is) c.in-Some-find.parent
    (sym c.find.ensures ∙ c.in-Some-find.is) (sym c.usable.ensures ∙ c.if-not-usable.true)

pub fault_on_parent-requires-clause-kept : goal.fault_on_parent-requires-clause-kept
fault_on_parent-requires-clause-kept c = place-bound names c.args.tree.now.blocks c.args.submitted.now.block.header.prev c.in-Some-find.parent (sym c.find.ensures ∙ c.in-Some-find.is)

pub returns-in-Some-fault_on_parent-clause-fault : goal.returns-in-Some-fault_on_parent-clause-fault
returns-in-Some-fault_on_parent-clause-fault c triples =
    fault_context c.args.params.now triples c.args.tree.now c.args.now c.args.submitted.now.block (sym c.requires.judged.fault ∙ c.in_default.is) c.in-Some-find.parent (Some c.in-Some-fault_on_parent.reason)
    (sym c.find.ensures ∙ c.in-Some-find.is) (sym c.usable.ensures ∙ c.if-not-usable.false) (sym c.in-Some-fault_on_parent.is ∙ c.fault_on_parent.ensures triples)

pub returns-in-None-clause-fault : goal.returns-in-None-clause-fault
returns-in-None-clause-fault c triples =
    fault_context c.args.params.now triples c.args.tree.now c.args.now c.args.submitted.now.block (sym c.requires.judged.fault ∙ c.in_default.is) c.in-Some-find.parent None
    (sym c.find.ensures ∙ c.in-Some-find.is) (sym c.usable.ensures ∙ c.if-not-usable.false) (sym c.in-None.is ∙ c.fault_on_parent.ensures triples)
