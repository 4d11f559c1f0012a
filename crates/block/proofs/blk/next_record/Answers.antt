use Rattle.std.proofs.Common.{◌≡◌, ◌<◌, List, [], ℕ, length, take, length-take-le, sym, subst, arith}
use Rattle.std.proofs.lemmas.Result.{err_from_is_err_and}
use Rattle.block.specs.Blk.{IsFault}
use Rattle.block.proofs.Records.{remain_trans}
use Rattle.block.proofs.blk.next_record.Goals as goal

pub returns-in_err-len-clause-refused : goal.returns-in_err-len-clause-refused
returns-in_err-len-clause-refused g c =
    let p = err_from_is_err_and c.from_residual-in_err-len.result c.from_residual-in_err-len.ensures.1 in
    let short : length (take c.in_ok-count.count c.fill.new.buffer) < 8 → g.R.Source.to_come c.fill.new.source ≡ [] = λ h.
    c.in_ok-count.ensures.end (omega (arith, h, c.in_ok-count.ensures.len, length-take-le c.in_ok-count.count c.fill.new.buffer c.in_ok-count.ensures.room)) in
    rw (p.1, p.2) (subst (λ (rest : List ℕ). IsFault c.args.place rest c.in_err-len.field-0.0) (sym c.in_ok-count.ensures.came) (c.in_err-len.ensures.refused _ short))

pub returns-in_err-end-clause-remain : goal.returns-in_err-end-clause-remain
returns-in_err-end-clause-remain g c = remain_trans _ _ _ c.fill.ensures.remain c.end.ensures.remain

pub returns-in_err-block-clause-remain : goal.returns-in_err-block-clause-remain
returns-in_err-block-clause-remain g c = remain_trans _ _ _ c.fill.ensures.remain c.take.ensures.remain

pub returns-clause-remain : goal.returns-clause-remain
returns-clause-remain g c = remain_trans _ _ _ c.fill.ensures.remain c.take.ensures.remain
