use Rattle.std.proofs.Common.{inr, ◌<◌, length, ap, sym, ◌∙◌, arith}
use Rattle.std.proofs.lemmas.Result.{err_from_is_err_and}
use Rattle.std.proofs.lemmas.List.{nil_from_length}
use Rattle.std.proofs.lemmas.Grind.{common_steps}
use Rattle.std.proofs.lemmas.Bool.{eqb-true}
use Rattle.block.proofs.Whole.{whole_found, whole_extra, whole_reads, whole_refused, only_memory, front_refuses, extra_only, as_refusal, decodes_or_not}
use Rattle.block.specs.declared.fault.ReadFault.TheVariants as faults
use Rattle.block.specs.laws.BlockBytes.{decoded-spelled, decoded-faulty}
use Rattle.block.proofs.decode.read_by.Goals as goal

pub returns-in_err-block-clause-refused : goal.returns-in_err-block-clause-refused
returns-in_err-block-clause-refused c =
    let p = err_from_is_err_and c.from_residual.result c.from_residual.ensures.1 in
    rw (p.1, p.2) (whole_refused c.args.has_flag c.args.bytes.now c.in_err-block.field-0.0 (λ i. omega (arith, c.type_inv.bytes i)) (rw (← c.new-cursor.ensures) c.in_err-block.ensures))

pub returns-in_err-block-clause-reads : goal.returns-in_err-block-clause-reads
returns-in_err-block-clause-reads c =
    let p = err_from_is_err_and c.from_residual.result c.from_residual.ensures.1 in
    λ b lawful is. rw (p.1, p.2) (only_memory c.args.has_flag c.args.bytes.now c.in_err-block.field-0.0 b (rw (← c.new-cursor.ensures) c.in_err-block.ensures) lawful is, tt)

pub returns-in_err-block-clause-refuses : goal.returns-in_err-block-clause-refuses
returns-in_err-block-clause-refuses c =
    let p = err_from_is_err_and c.from_residual.result c.from_residual.ensures.1 in
    λ e faulty. rw (p.1, p.2) (as_refusal _ e (front_refuses c.args.has_flag c.args.bytes.now c.in_err-block.field-0.0 e (rw (← c.new-cursor.ensures) c.in_err-block.ensures) faulty))

pub returns-then-not-is_empty-clause-refused : goal.returns-then-not-is_empty-clause-refused
returns-then-not-is_empty-clause-refused c = inr (whole_extra c.args.has_flag c.args.bytes.now c.in_ok-block.block c.front.new.bytes (λ i. omega (arith, c.type_inv.bytes i)) (rw (← c.new-cursor.ensures) c.in_ok-block.ensures) (grind (arith, common_steps)))

pub returns-then-not-is_empty-clause-reads : goal.returns-then-not-is_empty-clause-reads
returns-then-not-is_empty-clause-reads c = λ b lawful is.
    let k = whole_reads c.args.has_flag c.args.bytes.now c.in_ok-block.block c.front.new.bytes b (rw (← c.new-cursor.ensures) c.in_ok-block.ensures) lawful is in
    let some : 0 < length c.front.new.bytes = grind (arith, common_steps) in
    absurd (omega (arith, ap length k.1, some))

pub returns-then-not-is_empty-clause-refuses : goal.returns-then-not-is_empty-clause-refuses
returns-then-not-is_empty-clause-refuses c = λ e faulty.
    as_refusal _ e (inr (sym (extra_only c.args.has_flag c.args.bytes.now c.in_ok-block.block c.front.new.bytes e (rw (← c.new-cursor.ensures) c.in_ok-block.ensures) faulty).0))

pub returns-clause-found : goal.returns-clause-found
returns-clause-found c = whole_found c.args.has_flag c.args.bytes.now c.in_ok-block.block c.front.new.bytes (λ i. omega (arith, c.type_inv.bytes i)) (rw (← c.new-cursor.ensures) c.in_ok-block.ensures) (sym c.rest.ensures.rest ∙ nil_from_length c.rest.result.now (eqb-true _ _ (sym c.is_empty.ensures ∙ c.if-not-is_empty.false)))

pub returns-clause-reads : goal.returns-clause-reads
returns-clause-reads c = λ b lawful is. (tt, (whole_reads c.args.has_flag c.args.bytes.now c.in_ok-block.block c.front.new.bytes b (rw (← c.new-cursor.ensures) c.in_ok-block.ensures) lawful is).0)

pub returns-clause-refuses : goal.returns-clause-refuses
returns-clause-refuses c = λ e faulty.
    let k = extra_only c.args.has_flag c.args.bytes.now c.in_ok-block.block c.front.new.bytes e (rw (← c.new-cursor.ensures) c.in_ok-block.ensures) faulty in
    let none = eqb-true (length c.rest.result.now) 0 (sym c.is_empty.ensures ∙ c.if-not-is_empty.false) in
    absurd (omega (arith, ap length c.rest.ensures.rest, none, k.1))

pub returns-in_err-block-clause-exact : goal.returns-in_err-block-clause-exact
returns-in_err-block-clause-exact c =
    let p = err_from_is_err_and c.from_residual.result c.from_residual.ensures.1 in
    rw (p.1, p.2) (decodes_or_not c.args.has_flag c.args.bytes.now _ (whole_refused c.args.has_flag c.args.bytes.now c.in_err-block.field-0.0 (λ i. omega (arith, c.type_inv.bytes i)) (rw (← c.new-cursor.ensures) c.in_err-block.ensures)))

pub returns-then-not-is_empty-clause-exact : goal.returns-then-not-is_empty-clause-exact
returns-then-not-is_empty-clause-exact c = inr (decoded-faulty c.args.has_flag c.args.bytes.now faults.Extra (whole_extra c.args.has_flag c.args.bytes.now c.in_ok-block.block c.front.new.bytes (λ i. omega (arith, c.type_inv.bytes i)) (rw (← c.new-cursor.ensures) c.in_ok-block.ensures) (grind (arith, common_steps))))

pub returns-clause-exact : goal.returns-clause-exact
returns-clause-exact c =
    let found = whole_found c.args.has_flag c.args.bytes.now c.in_ok-block.block c.front.new.bytes (λ i. omega (arith, c.type_inv.bytes i)) (rw (← c.new-cursor.ensures) c.in_ok-block.ensures) (sym c.rest.ensures.rest ∙ nil_from_length c.rest.result.now (eqb-true _ _ (sym c.is_empty.ensures ∙ c.if-not-is_empty.false))) in
    decoded-spelled c.args.has_flag c.args.bytes.now c.in_ok-block.block found.0 found.1
