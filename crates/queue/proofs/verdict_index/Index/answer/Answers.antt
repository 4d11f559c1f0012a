use Rattle.std.proofs.Common.{get_or}
use Rattle.std.proofs.lemmas.Option.{slice_get-get_or}
use Rattle.interp.specs.Question.{question_of}
use Rattle.queue.proofs.Pairs.{answer-is, list-there}
use Rattle.queue.proofs.verdict_index.Index.answer.Goals as goal

pub returns-clause-some : goal.returns-clause-some
returns-clause-some g c =
    let verdicts = c.args.self.now.verdicts.now in
    let q = question_of c.args.job.now in
    let there = slice_get-get_or verdicts c.args.slot.verdicts c.index-self-slot.result (list-there verdicts c.args.slot q c.requires.fits) in
    (answer-is verdicts c.args.slot q (get_or verdicts c.args.slot.verdicts c.index-self-slot.result) c.requires.fits there (g.S.KnowsSignatures.known c.args._by.now) c.requires.early c.answer.result c.answer.ensures).0

pub returns-clause-right : goal.returns-clause-right
returns-clause-right g c =
    let verdicts = c.args.self.now.verdicts.now in
    let q = question_of c.args.job.now in
    let there = slice_get-get_or verdicts c.args.slot.verdicts c.index-self-slot.result (list-there verdicts c.args.slot q c.requires.fits) in
    (answer-is verdicts c.args.slot q (get_or verdicts c.args.slot.verdicts c.index-self-slot.result) c.requires.fits there (g.S.KnowsSignatures.known c.args._by.now) c.requires.early c.answer.result c.answer.ensures).1
