-- Where each seat's last entry is.
use Rattle.std.specs.Prelude.{◌≡◌, ◌≤◌, ℕ, List, [], Some, length, drop, slice_get}
use Rattle.model.specs.declared.entry.Entry.{Entry}
use Rattle.model.specs.History.{own_of}

-- a seat has no entry behind a place of the history
abbrev pub IsLastPlace : ℕ → ℕ → List Entry → Type 0
IsLastPlace n place journal = (place ≤ length journal) × (own_of n (drop place journal) ≡ [])

-- such a place for each of so many seats
pub record AreLastPlaces (seats : ℕ) (places : List ℕ) (journal : List Entry) : Type 0 where
  pub all : length places ≡ seats
  pub each : (n place : ℕ) → slice_get places n ≡ Some place → IsLastPlace n place journal
