-- What a crash at any moment leaves.
use Rattle.std.specs.Prelude.{◌≡◌, ◌≤◌, ℕ, Bool, false, List, [], ◌∷◌, ◌++◌, length}
use mathlib.Core.List.{IsPrefix}
use Rattle.durable.specs.declared.host.Asked.{Asked}
use Rattle.durable.specs.declared.host.Asked.TheVariants.{Open, Append, Cut, Sync, Tell}
use Rattle.durable.specs.Crash.{Event, Leaves, file_after}
use Rattle.durable.specs.Lines.{lines}

-- of how many steps an answer tells, and its text
abbrev pub Told : Type 0
Told = ℕ × List ℕ

-- What a call told. Of all that a file stood for when it was opened anyone may have been told before.
abbrev pub told_by : Asked → List ℕ → List Told
told_by Open bytes = (length (lines bytes), []) ∷ []
told_by Append bytes = []
told_by (Cut n) bytes = []
told_by Sync bytes = []
told_by (Tell stamp) bytes = (stamp, bytes) ∷ []

-- what anyone was told so far
abbrev pub told : List Event → List Told
told [] = []
told (event ∷ events) = told_by event.0.asked event.1 ++ told events

-- none of them tells of more steps than these
abbrev pub AreUpTo : ℕ → List Told → Type 0
AreUpTo n [] = Unit {0}
AreUpTo n (answer ∷ answers) = (answer.0 ≤ n) × AreUpTo n answers

-- The file stands for a beginning of the history, and has every step that anyone was told of.
pub record Keeps (history : List (List ℕ)) (file : List ℕ) (answers : List Told) : Type 0 where
  pub beginning : IsPrefix (lines file) history
  pub has : AreUpTo (length (lines file)) answers

-- a crash behind these calls leaves what keeps the history
abbrev pub KeepsNow : List (List ℕ) → List Event → Type 0
KeepsNow history events = (file : List ℕ) → Leaves (file_after events) file → Keeps history file (told events)

-- so does a crash behind each of the calls that follow
abbrev pub KeepsOn : List (List ℕ) → List Event → List Event → Type 0
KeepsOn history events [] = KeepsNow history events
KeepsOn history events (event ∷ more) = KeepsNow history events × KeepsOn history (events ++ event ∷ []) more

-- A crash at any moment from the first calls to the second leaves what keeps the history.
abbrev pub KeepsBetween : List (List ℕ) → List Event → List Event → Type 0
KeepsBetween history before now = (more : List Event) × (now ≡ before ++ more) × KeepsOn history before more

-- the last call failed
abbrev pub HasFailed : List Event → Type 0
HasFailed events = (before : List Event) × (event : Event) × (events ≡ before ++ event ∷ []) × (event.0.is_done ≡ false)

-- a life of a log: its history, its calls, and the file that the crash left that ended it
pub record Life : Type 0 where
  pub history : List (List ℕ)
  pub calls : List Event
  pub left : List ℕ

-- it opened this file, whose lines begin its history, and kept that
pub record IsLife (file : List ℕ) (life : Life) : Type 0 where
  pub opened : (done : Bool) × (more : List Event) × (life.calls ≡ (record { asked = Open; is_done = done }, file) ∷ more)
  pub begins : IsPrefix (lines file) life.history
  pub keeps : KeepsNow life.history life.calls
  pub leaves : Leaves (file_after life.calls) life.left

-- each opens the file that the one before has left
abbrev pub AreLives : List ℕ → List Life → Type 0
AreLives file [] = Unit {0}
AreLives file (life ∷ lives) = IsLife file life × AreLives life.left lives

-- the file that the last of them has left
abbrev pub left_by : List ℕ → List Life → List ℕ
left_by file [] = file
left_by file (life ∷ lives) = left_by life.left lives

-- none of them told of more steps than these
abbrev pub AllAreUpTo : ℕ → List Life → Type 0
AllAreUpTo n [] = Unit {0}
AllAreUpTo n (life ∷ lives) = AreUpTo n (told life.calls) × AllAreUpTo n lives
