-- What is put at the front of the room that was passed for it.
use Rattle.std.specs.Prelude.{◌≡◌, ℕ, ◌<◌, ◌≤◌, ◌⊎◌, ◌++◌, List, length, drop}

-- it fits, and what was behind it in the room stays
abbrev pub IsAtFront : {A : Type 0} → List A → List A → List A → Type 0
IsAtFront found before after = (length found ≤ length before) × (after ≡ found ++ drop (length found) before)

-- it is there, or the room is too small and stays as it was
abbrev pub IsFilled : {A : Type 0} → List A → List A → List A → ℕ → Type 0
IsFilled found before after result =
    ((result ≡ 0) × IsAtFront found before after)
    ⊎ ((result ≡ 5) × (length before < length found) × (after ≡ before))

-- the same, and how many are wanted is reported in both cases; or memory ran out, and nothing changes
abbrev pub IsCounted : {A : Type 0} → List A → List A → List A → ℕ → ℕ → ℕ → Type 0
IsCounted found before after count told result =
    (IsFilled found before after result × (told ≡ length found))
    ⊎ ((result ≡ 1) × (after ≡ before) × (told ≡ count))
