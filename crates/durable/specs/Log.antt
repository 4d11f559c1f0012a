-- What a log stands for.
use Rattle.std.specs.Prelude.{◌≡◌, ℕ, ◌+◌, ◌<◌, ◌≤◌, true, false, List, [], ◌∷◌, ◌++◌, length, map, take, drop}
use Rattle.durable.specs.declared.host.Asked.TheVariants.{Open}
use Rattle.durable.specs.Crash.{Event, File, Synced, Appended, Shortened, Unsaid, file_after}
use Rattle.durable.specs.Lines.{lines, AreWhole}
use Rattle.durable.specs.KeptSteps.{Told, told, AreUpTo, KeepsBetween}
use Rattle.durable.specs.declared.log.Log.{Log}
use Rattle.durable.specs.declared.log.Answer.{Answer}

-- what is on the disk at least
abbrev pub on_disk : File → List ℕ
on_disk (Synced file) = file
on_disk (Appended file more done) = file
on_disk (Shortened file n done) = []
on_disk Unsaid = []

-- the steps on the disk, and those that wait
abbrev pub history : {H F : Type 0} → (H → List Event) → Log H F → List (List ℕ)
history calls log = lines (on_disk (file_after (calls log.host))) ++ lines log.pending.items

-- all of the file is on the disk, it has whole lines alone, and no one was told of more
pub record IsSound {H F : Type 0} (calls : H → List Event) (log : Log H F) : Type 0 where
  pub synced : file_after (calls log.host) ≡ Synced (on_disk (file_after (calls log.host)))
  pub whole : AreWhole false (on_disk (file_after (calls log.host)))
  pub waits : AreWhole false log.pending.items
  pub durable_is : log.durable ≡ length (lines (on_disk (file_after (calls log.host))))
  pub count_is : log.count ≡ log.durable + length (lines log.pending.items)
  pub no_more : AreUpTo log.durable (told (calls log.host))

-- the calls of a host that has only opened a file of these bytes
abbrev pub opened : List ℕ → List Event
opened bytes = (record { asked = Open; is_done = true }, bytes) ∷ []

-- the answers, as they are told
abbrev pub as_told : List Answer → List Told
as_told answers = map (λ (answer : Answer). (answer.stamp, answer.line.items)) answers

-- the first of them tells of more steps than these
abbrev pub FirstWaits : ℕ → List Answer → Type 0
FirstWaits durable [] = Unit {0}
FirstWaits durable (answer ∷ answers) = durable < answer.stamp

-- A crash at any moment from the first of the log's states to the second leaves what keeps the first one's history.
abbrev pub KeepsThrough : {H F : Type 0} → (H → List Event) → Log H F → Log H F → Type 0
KeepsThrough calls old new = KeepsBetween (history calls old) (calls old.host) (calls new.host)

-- what anyone was told
abbrev pub heard : {H F : Type 0} → (H → List Event) → Log H F → List Told
heard calls log = told (calls log.host)

-- the file of a host, as it is on the disk at least
abbrev pub file_of : {H : Type 0} → (H → List Event) → H → List ℕ
file_of calls host = on_disk (file_after (calls host))

-- A host has only opened a file of this length, of which these many bytes are these many whole lines.
pub record IsUncut {H : Type 0} (calls : H → List Event) (host : H) (count end len : ℕ) : Type 0 where
  pub only_opened : calls host ≡ opened (file_of calls host)
  pub len_is : len ≡ length (file_of calls host)
  pub count_is : count ≡ length (lines (file_of calls host))
  pub within : end ≤ len
  pub whole : AreWhole false (take end (file_of calls host))
  pub rest : lines (drop end (file_of calls host)) ≡ []
