use Rattle.std.proofs.Common.{ap}
use Rattle.signatures.specs.Known.{all_known}
use Rattle.signatures.specs.laws.Agreement.{table_agrees}
use Rattle.interp.specs.Answer.{unknown_in}
use Rattle.interp.specs.Question.{question_of}
use Rattle.interp.specs.laws.InputVerdict.{said-right, table-says}
use Rattle.interp.proofs.verification.verify.Goals.{in-Ok, in-Err-Memory}
use Rattle.interp.proofs.verification.verify.Goals as goal

pub unreachable-requires : goal.unreachable-requires
unreachable-requires c = table-says c.args.table.now (question_of c.args.job.now) _ (c.in-Err-Unknown.ensures _ (ap unknown_in c.in-Err-Unknown.field-0-is))

pub returns : goal.returns
returns c =
    elim c.match-verify_with.branch [
      | in-Ok w ↦ rw w.result-is (said-right (all_known c.args.table.now) (question_of c.args.job.now) _ w.in-Ok.ensures c.args.table.now (table_agrees c.args.table.now))
      | in-Err-Memory w ↦ rw w.result-is tt
    ]
