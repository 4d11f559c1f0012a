-- Histories: the state after some of their steps, and which of them may be.
use Rattle.std.specs.Prelude.{◌≡◌, ℕ, ◌<◌, ◌==◌, if◌then◌else◌, List, [], ◌∷◌, take, Option, Some, None}
use Rattle.model.specs.declared.command.Command.{Command}
use Rattle.model.specs.declared.reply.Reply.{Reply}
use Rattle.model.specs.declared.entry.Entry.{Entry}
use Rattle.model.specs.Machine.{Machine}

-- the state that a step leaves, or s where there was no step
abbrev pub state_left : {S : Type 0} → S → Option (S × Reply) → S
state_left s None = s
state_left s (Some x) = x.0

-- the state after these entries, from s on
abbrev pub state_after_entries : (m : Machine) → m.State → List Entry → m.State
state_after_entries m s [] = s
state_after_entries m s (e ∷ es) = state_after_entries m (state_left s (m.step s e.command)) es

-- the state after the first n entries, from the opening state on
abbrev pub state_at : (m : Machine) → List Entry → ℕ → m.State
state_at m history n = state_after_entries m m.opening (take n history)

-- the command takes a step, and the reply is the step's, or is owed
abbrev pub Answers : {S : Type 0} → Option Reply → Option (S × Reply) → Type 0
Answers reply None = ⊥
Answers None (Some x) = Unit {0}
Answers (Some reply) (Some x) = reply ≡ x.1

-- the entry may come where the state is s: it is of a seat that was given out
pub record Stands (m : Machine) (seats : ℕ) (s : m.State) (e : Entry) : Type 0 where
  pub seat_is : e.seat < seats
  pub reply_is : Answers e.reply (m.step s e.command)

abbrev pub LegalFrom : (m : Machine) → ℕ → m.State → List Entry → Type 0
LegalFrom m seats s [] = Unit {0}
LegalFrom m seats s (e ∷ es) = Stands m seats s e × LegalFrom m seats (state_left s (m.step s e.command)) es

-- each entry may come at its place
abbrev pub Legal : (m : Machine) → ℕ → List Entry → Type 0
Legal m seats history = LegalFrom m seats m.opening history

-- the entries of one seat
abbrev pub own_of : ℕ → List Entry → List Entry
own_of seat [] = []
own_of seat (e ∷ es) = if e.seat == seat then e ∷ own_of seat es else own_of seat es

abbrev pub entry_of : ℕ → Command → Option Reply → Entry
entry_of seat command reply = record { seat = seat; command = command; reply = reply }
