-- Why no step was taken under the lock.
use Rattle.std.specs.Prelude.{List}
use Rattle.signatures.specs.Known.{Known}
use Rattle.queue.specs.declared.no_answer.Undecided.{Undecided}
use Rattle.queue.specs.declared.no_answer.Undecided.TheVariants as stop
use Rattle.model.specs.declared.command.Command.{Command}
use Rattle.model.specs.declared.entry.Entry.{Entry}
use Rattle.activate.specs.CoreState.{CoreState}
use Rattle.activate.specs.Wants.{AreWantedByStep}
use Rattle.view.specs.Origin.{Origin}
use Rattle.node.specs.declared.published_history.refusal.Refusal.{Refusal}
use Rattle.node.specs.declared.published_history.refusal.Refusal.TheVariants.{Memory, Closed, Unknown}
use Rattle.node.specs.Calls.{AreWanted}

abbrev pub refusal_of : Undecided → Refusal
refusal_of stop.Memory = Memory
refusal_of (stop.Unknown wants) = Unknown wants

-- a core wants these signatures, if any are told
abbrev pub IsWantOf : CoreState → Known → Command → Refusal → Type 0
IsWantOf core known c Memory = Unit {0}
IsWantOf core known c Closed = Unit {0}
IsWantOf core known c (Unknown wants) = AreWantedByStep core c known wants.items

-- and so they are wanted after these entries
abbrev pub IsWantAfter : Origin → List Entry → Command → Refusal → Type 0
IsWantAfter o es c Memory = Unit {0}
IsWantAfter o es c Closed = Unit {0}
IsWantAfter o es c (Unknown wants) = AreWanted o es c wants.items
