-- The hash values of eight messages side by side.
use Rattle.std.specs.Prelude.{ℕ, List, [], ◌∷◌, slice_index, map}
use Rattle.lanes.specs.declared.rounds.State.{State}

-- the words of lane l, one of each vector
abbrev pub lane_of : List (List ℕ) → ℕ → List ℕ
lane_of vectors l = map (λ (vector : List ℕ). slice_index vector l) vectors

-- the hash value, or the working variables, of lane l
abbrev pub lane : State → ℕ → List ℕ
lane s l = lane_of (s.a ∷ s.b ∷ s.c ∷ s.d ∷ s.e ∷ s.f ∷ s.g ∷ s.h ∷ []) l
