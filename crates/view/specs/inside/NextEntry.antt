-- The step that adds an entry to the history.
use Rattle.std.specs.Prelude.{◌≡◌, ◌<◌, ◌^◌, ℕ, List, [], ◌∷◌, ◌++◌, length}
use mathlib.Core.List.{IsPrefix}
use Rattle.logbook.specs.Pages.{Step, View}
use Rattle.model.specs.declared.entry.Entry.{Entry}
use Rattle.view.specs.HistoryPrefix.{Beginning}
use Rattle.view.specs.declared.publication.NoPlace.{NoPlace}
use Rattle.view.specs.declared.publication.NoPlace.TheVariants.{Taken, Full}

-- this begins a longer list
abbrev pub IsShorter : List Entry → List Entry → Type 0
IsShorter xs ys = IsPrefix xs ys × (length xs < length ys)

-- the entry was added to all that had been seen, or as many entries were found as there are, which are more
abbrev pub Adds : Step Entry → View Entry ℕ → ℕ → View Entry ℕ → Type 0
Adds s v found w =
    ((found ≡ s.old) → w.0 ≡ v.0 ++ s.ask ∷ [])
    × (¬ (found ≡ s.old) → (found ≡ length w.0) × (length v.0 < length w.0))

-- the most entries that a history may have
abbrev pub max_entries : ℕ
max_entries = 2 ^ 60

-- why an entry gets no place behind these: the history has others there, or as many as it may have
abbrev pub IsNoPlace : Beginning → NoPlace → Type 0
IsNoPlace b (Taken note) = (note.book ≡ b.book) × IsShorter b.entries note.entries
IsNoPlace b Full = ¬ (length b.entries < max_entries)
