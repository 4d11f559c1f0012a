-- Rounds: what is wanted is found out, and the question is put again.
use Rattle.std.proofs.Common.{◌≢◌}
use Rattle.std.specs.Prelude.{◌≡◌, ℕ, ◌*◌, List, [], ◌∷◌, length, All, None, ⊤}
use Rattle.signatures.specs.Known.{Known}
use Rattle.signatures.specs.Triple.{Triple}
use Rattle.signatures.specs.laws.Growth.{Grows}
use Rattle.interp.specs.Limits.{max_ops}
use Rattle.interp.specs.Question.{Question}
use Rattle.interp.specs.declared.job.Job.{Job}
use Rattle.queue.specs.Jobs.{IsWanted, verdict_at}
use Rattle.queue.specs.FirstAnswer.{AreTheWants}

-- the next round has the verdict on each of these signatures, and all that was known
abbrev pub HasFound : Known → List Triple → List Known → Type 0
HasFound known wanted [] = ⊤
HasFound known wanted (next ∷ later) = Grows known next × All (λ t. next t ≢ None) wanted

-- each round wants signatures, and the next one has found them out
abbrev pub AreRounds : (Known → List Triple → Type 0) → List Known → Type 0
AreRounds Want [] = ⊤
AreRounds Want (known ∷ later) = ((wanted : List Triple) × Want known wanted × HasFound known wanted later) × AreRounds Want later

-- an input wants one signature at a time
abbrev pub WantsOne : Question → Known → List Triple → Type 0
WantsOne q known wanted = (t : Triple) × IsWanted known q t × (wanted ≡ t ∷ [])

-- all that the jobs want before the first that is refused
abbrev pub JobsWant : List Job → Known → List Triple → Type 0
JobsWant jobs known = AreTheWants (length jobs) (verdict_at known jobs)

-- two scripts of an input can ask for signatures, each as often as it may have opcodes and keys that are counted: its own
-- and the spent one; or the spent one and the inner one (BIP 16), where its own only pushes
abbrev pub max_rounds : ℕ
max_rounds = 2 * max_ops
