use Rattle.std.proofs.Common.{inr, subst, sym, arith}
use Rattle.std.proofs.lemmas.Option.{same_Some, none-some}
use Rattle.journal.specs.Heights.{IsNumber}
use Rattle.journal.proofs.Parts.{numeral-lacks, is-found, found-parts}
use Rattle.journal.proofs.heights.front_height.Goals as goal

pub returns-in_err-front-clause-reads : goal.returns-in_err-front-clause-reads
returns-in_err-front-clause-reads c digits rest n spelled number =
    absurd (is-found 44 c.args.word.now digits rest c.split_once.result c.split_once.ensures.cases (omega arith) spelled (numeral-lacks 44 digits (inr (omega arith)) number.0) c.in_err-front.was)

pub returns-in_err-height-clause-reads : goal.returns-in_err-height-clause-reads
returns-in_err-height-clause-reads c digits rest n spelled number =
    let at = found-parts 44 c.args.word.now digits rest c.split_once.result c.in_ok-front.front c.in_ok-front.rest c.split_once.ensures.cases (omega arith) spelled (numeral-lacks 44 digits (inr (omega arith)) number.0) c.in_ok-front.was in
    absurd (none-some n (c.in_err-height.ensures.reads n (subst (λ text. IsNumber text n) (sym at.0) number)))

pub returns-clause-reads : goal.returns-clause-reads
returns-clause-reads c digits rest n spelled number =
    let at = found-parts 44 c.args.word.now digits rest c.split_once.result c.in_ok-front.front c.in_ok-front.rest c.split_once.ensures.cases (omega arith) spelled (numeral-lacks 44 digits (inr (omega arith)) number.0) c.in_ok-front.was in
    (same_Some c.in_ok-height.field-0 n (c.in_ok-height.ensures.reads n (subst (λ text. IsNumber text n) (sym at.0) number)), at.1)
