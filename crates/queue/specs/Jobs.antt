-- Which jobs of a list are accepted, and the first one that isn't.
use Rattle.std.specs.Prelude.{◌≡◌, ℕ, ◌<◌, pos, Bool, true, List, [], length, map, get_or, Option, Some, None, slice_get}
use Rattle.txn.specs.Tx.{Tx}
use Rattle.signatures.specs.Known.{Known, all_known, verdict_in}
use Rattle.signatures.specs.laws.Growth.{Grows}
use Rattle.signatures.specs.Triple.{Triple, Triples}
use Rattle.interp.specs.declared.flags.Flags.{Flags}
use Rattle.interp.specs.declared.job.Job.{Job}
use Rattle.interp.specs.Answer.{Answer, Says, Wants}
use Rattle.interp.specs.Question.{Question, question, question_of}
use Rattle.interp.specs.Rules.{Accepts}
use Rattle.interp.specs.computed.Step.{verdict}
use Rattle.queue.specs.declared.source.Source.{Source}
use Rattle.queue.specs.declared.source.Source.TheVariants.{Listed, Found}
use Rattle.queue.specs.declared.no_answer.Undecided.{Undecided}
use Rattle.queue.specs.declared.no_answer.Undecided.TheVariants.{Memory, Unknown}

-- the job's input is one of its transaction's
abbrev pub HasInput : Job → Type 0
HasInput job = job.input < length job.tx.now.inputs

-- the input may spend it, where these signatures are valid
abbrev pub IsAccepted : Question → Triples → Type 0
IsAccepted q triples = Accepts q.tx q.input q.spent q.flags triples

-- jobs of one number are of one transaction; those beyond the numbers may be of any
abbrev pub AreNumbered : List ℕ → List Job → Type 0
AreNumbered numbers jobs =
    (i j number : ℕ) (a b : Job) → slice_get jobs i ≡ Some a → slice_get jobs j ≡ Some b
    → slice_get numbers i ≡ Some number → slice_get numbers j ≡ Some number → a.tx.now ≡ b.tx.now

-- ---- questions that are asked before a block is connected

-- an input of a transaction of a list, by their places, and the script that it spends
pub record Spending : Type 0 where
  pub place : ℕ
  pub input : ℕ
  pub spent : List ℕ

abbrev pub spending : ℕ → ℕ → List ℕ → Spending
spending place input spent = record { place = place; input = input; spent = spent }

-- inputs of the transactions of a list, under the same rules
pub record Batch : Type 0 where
  pub txs : List Tx
  pub flags : Flags
  pub spendings : List Spending

abbrev pub tx_at : List Tx → ℕ → Tx
tx_at txs place = get_or txs place record { version = pos 0; inputs = []; outputs = []; lock_time = 0; witnesses = [] }

-- there are such a transaction and such an input of it
abbrev pub IsThere : List Tx → Spending → Type 0
IsThere txs s = (s.place < length txs) × (s.input < length (tx_at txs s.place).inputs)

abbrev pub questions : Batch → List Question
questions batch = map (λ s. question (tx_at batch.txs s.place) s.input s.spent batch.flags) batch.spendings

-- what is known by a table, or by what was found out
abbrev pub known_of : Source → Known
known_of (Listed table) = all_known table.now
known_of (Found found) = verdict_in found.now

-- a batch, and by what its scripts were run
pub record Answered : Type 0 where
  pub batch : Batch
  pub by : Source

-- what was known then
abbrev pub known_then : Answered → Known
known_then answered = known_of answered.by

-- the answer of a verdict; none where a signature is wanted
abbrev pub said : Answer Bool → Option Bool
said (Says answer) = Some answer
said (Wants t) = None

-- the answer to each question, by what is known
abbrev pub answers_to : Known → List Question → List (Option Bool)
answers_to known asked = map (λ q. said (verdict known q)) asked

-- ---- where there is no answer

-- what is known doesn't suffice for a verdict on the question: whether this triple is valid has to be found out
abbrev pub IsWanted : Known → Question → Triple → Type 0
IsWanted known q t = verdict known q ≡ Wants t

-- the verdict on the job at a place; where there is no job, nothing is refused
abbrev pub verdict_of : Known → Option Job → Answer Bool
verdict_of known None = Says true
verdict_of known (Some job) = verdict known (question_of job)

abbrev pub verdict_at : Known → List Job → ℕ → Answer Bool
verdict_at known jobs place = verdict_of known (slice_get jobs place)

-- the signatures that have to be found out first; of running out of memory nothing is said
abbrev pub told_by : Undecided → Option (List Triple)
told_by Memory = None
told_by (Unknown unknown) = Some unknown.items

-- what was known then is known
abbrev pub IsEarly : Known → Answered → Type 0
IsEarly known answered = Grows (known_then answered) known
