-- A line of the journal.
use Rattle.std.specs.Prelude.{◌≡◌, ◌⊎◌, ℕ, ◌+◌, true, false, List, [], ◌++◌, Option, Some, None, codes, slice_get}
use Rattle.std.specs.Fmt.{decimal}
use Rattle.std.specs.Option.{option_map}
use Rattle.block.specs.BlockOfBytes.{block_of_bytes}
use Rattle.block.specs.Identity.{id_of}
use Rattle.model.specs.declared.command.Command.{Command}
use Rattle.model.specs.declared.command.Command.TheVariants as command
use Rattle.model.specs.declared.reply.Reply.{Reply}
use Rattle.model.specs.ReplyText.{text_of_reply}
use Rattle.journal.specs.declared.step.Asked.{Asked}
use Rattle.journal.specs.declared.step.Asked.TheVariants as asked
use Rattle.journal.specs.declared.step.Step.{Step}
use Rattle.hash.specs.declared.id.Id.{Id}
use Rattle.hash.specs.Id.{hex_of_id}
use Rattle.std.specs.List.{flat_map}

-- what a command asks
abbrev pub asked_of : Command → Asked
asked_of (command.Submit bytes now) = asked.Submit now
asked_of (command.Invalidate id) = asked.Invalidate
asked_of (command.Reconsider id) = asked.Reconsider
asked_of (command.Precious id) = asked.Precious
asked_of (command.Learn triple valid) = asked.Learn valid

-- the id of the block that it is about, if its bytes are a block; of a verdict on a signature, the digest
abbrev pub named_by : Command → Option Id
named_by (command.Submit bytes now) = option_map (λ b. id_of b.header) (block_of_bytes bytes)
named_by (command.Invalidate id) = Some id
named_by (command.Reconsider id) = Some id
named_by (command.Precious id) = Some id
named_by (command.Learn triple valid) = Some (record { 0 = triple.digest })

-- the moment of a submission
abbrev pub when_of : Asked → Option ℕ
when_of (asked.Submit now) = Some now
when_of asked.Invalidate = None
when_of asked.Reconsider = None
when_of asked.Precious = None
when_of (asked.Learn valid) = None

abbrev pub word_of : Asked → List ℕ
word_of (asked.Submit now) = codes "submit"
word_of asked.Invalidate = codes "invalidate"
word_of asked.Reconsider = codes "reconsider"
word_of asked.Precious = codes "precious"
word_of (asked.Learn true) = codes "valid"
word_of (asked.Learn false) = codes "invalid"

-- the moment of a submission, in seconds since 1970, behind a space
abbrev pub moment_of : Asked → List ℕ
moment_of (asked.Submit now) = codes " " ++ decimal now
moment_of asked.Invalidate = []
moment_of asked.Reconsider = []
moment_of asked.Precious = []
moment_of (asked.Learn valid) = []

abbrev pub text_of_answer : Option Reply → List ℕ
text_of_answer (Some reply) = text_of_reply reply
text_of_answer None = codes "owed"

-- a step's line, up to its block and behind it: `N CLIENT WORD BLOCK NOW = REPLY`, the moment for submissions alone
abbrev pub front_of : {B : Type 0} → Step B → List ℕ
front_of step = decimal step.number ++ codes " " ++ step.client.now ++ codes " " ++ word_of step.asked ++ codes " "

abbrev pub rest_of : {B : Type 0} → Step B → List ℕ
rest_of step = moment_of step.asked ++ codes " = " ++ text_of_answer step.reply

-- a step's line, its block told by its id in digits, and a verdict's digest as an id
abbrev pub line_of : Step Id → List ℕ
line_of step = front_of step ++ hex_of_id step.block ++ rest_of step

-- the lines of these steps, each with its end; the last one may lack it
abbrev pub IsJournal : List (Step Id) → List ℕ → Type 0
IsJournal steps text =
    (text ≡ flat_map (λ step. line_of step ++ codes "\n") steps)
    ⊎ (text ++ codes "\n" ≡ flat_map (λ step. line_of step ++ codes "\n") steps)

-- each step's number is its place, from 1
abbrev pub AreNumbered : List (Step Id) → Type 0
AreNumbered steps = (place : ℕ) (step : Step Id) → slice_get steps place ≡ Some step → step.number ≡ place + 1
