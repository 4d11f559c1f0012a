-- What a seat's writing calls answer, before the answer is told apart by the call.
use Rattle.std.specs.Prelude.{◌≡◌, ◌⊎◌, ℕ, false, [], ◌∷◌, ◌++◌}
use Rattle.model.specs.declared.command.Command.{Command}
use Rattle.model.specs.declared.command.Command.TheVariants as command
use Rattle.model.specs.declared.reply.Reply.{Reply}
use Rattle.model.specs.declared.reply.Reply.TheVariants as reply
use Rattle.node.specs.declared.fault.Fault.{Fault}
use Rattle.node.specs.declared.fault.Fault.TheVariants.{Memory, Owed, Closed, Unknown}
use Rattle.node.specs.Pass.{Pass, IsWrite, owed_entry}
use Rattle.node.specs.Calls.{IsSubmitAnswer}
use Rattle.node.specs.inside.PublishedState.{PublishedState}

-- a submission has a reply to submissions, and a mark or a preference one to marks
abbrev pub IsWriteAnswer : Pass → Pass → Command → ℕ → Reply → Type 0
IsWriteAnswer p q (command.Submit bytes now) at (reply.Submit value) = IsSubmitAnswer p q bytes now at value
IsWriteAnswer p q (command.Submit bytes now) at (reply.Mark value) = ⊥
IsWriteAnswer p q c at (reply.Submit value) = ⊥
IsWriteAnswer p q c at (reply.Mark value) = IsWrite p q c at (reply.Mark value)

-- the command submits bytes
abbrev pub IsSubmission : Command → Type 0
IsSubmission (command.Submit bytes now) = Unit {0}
IsSubmission c = ⊥

-- the command marks a block, or prefers one
abbrev pub IsMark : Command → Type 0
IsMark (command.Submit bytes now) = ⊥
IsMark (command.Learn triple valid) = ⊥
IsMark c = Unit {0}

-- what lies under the lock stays, but that the step that was owed before may have been published
abbrev pub IsSettledAtMost : PublishedState → PublishedState → Type 0
IsSettledAtMost h k = (k ≡ h) ⊎ (k ≡ record h { owed = false })

-- what a refused write leaves under the lock: where it is owed, the seat's step alone is new
abbrev pub IsLeftBy : PublishedState → PublishedState → ℕ → Command → Fault → Type 0
IsLeftBy h k number c Memory = IsSettledAtMost h k
IsLeftBy h k number c Owed = k.journal ≡ h.journal ++ owed_entry number c ∷ []
IsLeftBy h k number c Closed = IsSettledAtMost h k
IsLeftBy h k number c Unknown = IsSettledAtMost h k
