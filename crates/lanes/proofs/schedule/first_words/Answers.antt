use Rattle.std.proofs.Common.{sym, ◌∙◌, arith}
use Rattle.sha2.proofs.Schedule256.{slice_index-schedule_first}
use Rattle.lanes.proofs.schedule.first_words.Goals as goal

pub returns : goal.returns
returns c = λ t lt. c.words.invariant.1 t (omega (arith, lt, c.words-test.false)) ∙ sym (slice_index-schedule_first c.args.block.now 48 t lt)
