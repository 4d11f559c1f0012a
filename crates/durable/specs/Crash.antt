-- What a crash leaves of a host's file, by the calls so far.
use Rattle.std.specs.Prelude.{◌≡◌, ◌⊎◌, ◌≤◌, ◌&&◌, ℕ, Bool, false, if◌then◌else◌, List, [], ◌∷◌, ◌++◌, take, fold, Result, is_ok}
use Rattle.durable.specs.declared.host.Asked.{Asked}
use Rattle.durable.specs.declared.host.Asked.TheVariants.{Open, Append, Cut, Sync, Tell}
use Rattle.durable.specs.declared.host.Call.{Call}

-- a call, and the bytes that it was given
abbrev pub Event : Type 0
Event = Call × List ℕ

-- the call that asked this and had this result
abbrev pub event : {E : Type 0} → Asked → Result Unit E → List ℕ → Event
event asked result bytes = (record { asked = asked; is_done = is_ok result }, bytes)

-- what is known of a file; the flag says whether the call was done
pub data File : Type 0 where
  -- all of it is on the disk
  Synced : List ℕ → File
  -- of these bytes, the second were appended since the last sync
  Appended : List ℕ → List ℕ → Bool → File
  -- it was cut to this length since the last sync
  Shortened : List ℕ → ℕ → Bool → File
  -- nothing is said
  Unsaid : File

abbrev pub append : File → List ℕ → Bool → File
append (Synced file) bytes done = Appended file bytes done
append (Appended file more was) bytes done = Unsaid
append (Shortened file n was) bytes done = Unsaid
append Unsaid bytes done = Unsaid

abbrev pub cut : File → ℕ → Bool → File
cut (Synced file) n done = Shortened file n done
cut (Appended file more was) n done = Unsaid
cut (Shortened file m was) n done = Unsaid
cut Unsaid n done = Unsaid

-- what was done in part, or whose sync failed, is never synced again
abbrev pub sync : File → Bool → File
sync (Synced file) done = Synced file
sync (Appended file more was) done = if was && done then Synced (file ++ more) else Appended file more false
sync (Shortened file n was) done = if was && done then Synced (take n file) else Shortened file n false
sync Unsaid done = Unsaid

abbrev pub after : File → Asked → Bool → List ℕ → File
after file Open done bytes = Synced bytes
after file Append done bytes = append file bytes done
after file (Cut n) done bytes = cut file n done
after file Sync done bytes = sync file done
after file (Tell stamp) done bytes = file

-- the file after these calls
abbrev pub file_after : List Event → File
file_after events = fold (λ file event. after file event.0.asked event.0.is_done event.1) Unsaid events

-- Of bytes that were appended and not synced, a crash leaves these: each is the byte that was written or zero, and they
-- may end anywhere.
abbrev pub IsTorn : List ℕ → List ℕ → Type 0
IsTorn bytes [] = Unit {0}
IsTorn [] (n ∷ left) = ⊥
IsTorn (b ∷ bytes) (n ∷ left) = ((n ≡ 0) ⊎ (n ≡ b)) × IsTorn bytes left

-- what a crash may leave of a file
abbrev pub Leaves : File → List ℕ → Type 0
Leaves (Synced file) left = left ≡ file
Leaves (Appended file more done) left = (part : List ℕ) × (left ≡ file ++ part) × IsTorn more part
Leaves (Shortened file n done) left = (m : ℕ) × (n ≤ m) × (left ≡ take m file)
Leaves Unsaid left = Unit {0}
