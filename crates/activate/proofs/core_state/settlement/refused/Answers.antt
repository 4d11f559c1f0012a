use Rattle.std.proofs.Common.{Bool, cond, length, arith, sym, ap, ◌+◌}
use Rattle.std.proofs.lemmas.Bool.{eq-eqb, ne_eqb}
use Rattle.model.specs.declared.reply.SubmitReply.TheVariants.{Inconclusive, Rejected}
use Rattle.activate.specs.inside.Preparation.{reply_to_failed_try}
use Rattle.activate.proofs.core_state.settlement.refused.Goals as goal

pub overflow_add-failed : goal.overflow_add-failed
overflow_add-failed c = let r = c.requires in let w = c.args.failed.now.path.up.ok.0 in let v = c.args.failed.now.path.up.small in omega arith

pub returns-then-failed-len : goal.returns-then-failed-len
unfolding reply_to_failed_try
returns-then-failed-len c =
    let e = c.len.ensures in
    let w = c.args.failed.now.path.up.ok.0 in
    let t = c.if-failed-len.true in
    ap (λ (b : Bool). cond b (Rejected c.args.failed.now.reason) Inconclusive) (sym (eq-eqb (c.args.failed.now.passed + 1) (length c.args.failed.now.path.up.items) (omega arith)))

pub returns-else-failed-len : goal.returns-else-failed-len
unfolding reply_to_failed_try
returns-else-failed-len c =
    let e = c.len.ensures in
    let w = c.args.failed.now.path.up.ok.0 in
    let t = c.if-failed-len.false in
    ap (λ (b : Bool). cond b (Rejected c.args.failed.now.reason) Inconclusive) (sym (ne_eqb (c.args.failed.now.passed + 1) (length c.args.failed.now.path.up.items) (λ q. t (omega arith))))
