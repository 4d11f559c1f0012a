use Rattle.std.proofs.Common.{◌≡◌, All, map, take}
use Rattle.interp.specs.Question.{question_of}
use Rattle.queue.specs.Jobs.{HasInput, questions}
use Rattle.queue.proofs.Pairs.{batch_of}
use Rattle.queue.proofs.early_jobs.EarlyJobs.jobs.Given as goal

abbrev pub invariant-loop-listed : goal.invariant-loop-listed
invariant-loop-listed l = record {
  asked : map question_of l.jobs.items ≡ questions (batch_of l.self-inside.txs.now l.self-inside.flags (take l.listed-index l.self-inside.list.items));
  inputs : All HasInput l.jobs.items;
}
