-- Where there is no answer.
use Rattle.std.specs.Prelude.{◌≡◌, None}
use Rattle.std.proofs.Common.{ap}
use Rattle.queue.specs.declared.no_answer.Undecided.{Undecided}
use Rattle.queue.specs.declared.no_answer.Undecided.TheVariants.{Memory}
use Rattle.queue.specs.Jobs.{told_by}

-- want of memory tells nothing
pub memory_tells : {M : Type 0} (memory : M) (stop : Undecided) → stop ≡ Memory → told_by stop ≡ None
memory_tells memory stop is = ap told_by is
