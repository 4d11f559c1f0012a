-- Replies that were recorded, beside those of a replay.
use Rattle.std.specs.Prelude.{◌≡◌, ℕ, ◌<◌, Bool, true, List, Option, Some, None, slice_get}

-- whether they agree: an owed reply with any, another with the same one
abbrev pub agrees : {R : Type 0} → (R → R → Bool) → Option R → R → Bool
agrees same None replayed = true
agrees same (Some recorded) replayed = same recorded replayed

-- the replies of this place agree, if both lists have one
abbrev pub AgreeAt : {R : Type 0} → (R → R → Bool) → List (Option R) → List R → ℕ → Type 0
AgreeAt {R} same recorded replayed place =
    (one : Option R) → slice_get recorded place ≡ Some one →
    (other : R) → slice_get replayed place ≡ Some other →
    agrees same one other ≡ true

-- the least place at which they don't agree, or none
abbrev pub IsFirstDifference : {R : Type 0} → (R → R → Bool) → List (Option R) → List R
    → Option ℕ → Type 0
IsFirstDifference same recorded replayed (Some place) =
    ¬ AgreeAt same recorded replayed place
    × ((before : ℕ) → before < place → AgreeAt same recorded replayed before)
IsFirstDifference same recorded replayed None = (place : ℕ) → AgreeAt same recorded replayed place
