-- Histories without their verdicts; what was asked and replied.
use Rattle.std.specs.Prelude.{◌≢◌, Bool, true, false, if◌then◌else◌, List, [], ◌∷◌, map, Option, None}
use Rattle.model.specs.declared.command.Command.{Command}
use Rattle.model.specs.declared.command.Command.TheVariants.{Submit, Invalidate, Reconsider, Precious, Learn}
use Rattle.model.specs.declared.entry.Entry.{Entry}
use Rattle.model.specs.declared.reply.Reply.{Reply}

-- whether a command tells a verdict on a signature
abbrev pub is_verdict : Command → Bool
is_verdict (Submit bytes now) = false
is_verdict (Invalidate id) = false
is_verdict (Reconsider id) = false
is_verdict (Precious id) = false
is_verdict (Learn triple valid) = true

-- the entries of all other commands
abbrev pub without_verdicts : List Entry → List Entry
without_verdicts [] = []
without_verdicts (e ∷ es) = if is_verdict e.command then without_verdicts es else e ∷ without_verdicts es

-- what was asked, in order
abbrev pub commands_of : List Entry → List Command
commands_of = map (λ e. e.command)

-- what was replied, in order
abbrev pub replies_of : List Entry → List (Option Reply)
replies_of = map (λ e. e.reply)

-- no reply is owed
abbrev pub AreAnswered : List Entry → Type 0
AreAnswered [] = Unit {0}
AreAnswered (e ∷ es) = (e.reply ≢ None) × AreAnswered es
