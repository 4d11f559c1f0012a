-- Verdicts in parts, by the first byte of the digest.
use Rattle.std.specs.Prelude.{ℕ, ◌+◌, ◌==◌, List, [], ◌∷◌, get_or, slice_index}
use Rattle.std.specs.FinSet as set
use Rattle.signatures.specs.Known.{Verdicts}
use Rattle.signatures.specs.Triple.{Triple, Triples}

-- which part has the verdict on a triple
abbrev pub part_of : Triple → ℕ
part_of t = slice_index t.digest 0

-- of the triples of a part those that belong there
abbrev pub own : ℕ → Triples → Triples
own n triples = set.retain triples (λ t. part_of t == n)

-- those of all parts from a number on
abbrev pub all_from : (Verdicts → Triples) → ℕ → List Verdicts → Triples
all_from f n [] = set.empty
all_from f n (part ∷ parts) = set.union (own n (f part)) (all_from f (n + 1) parts)

abbrev pub whole : List Verdicts → Verdicts
whole parts = record { valid = all_from (λ part. part.valid) 0 parts; invalid = all_from (λ part. part.invalid) 0 parts }

abbrev pub nothing : Verdicts
nothing = record { valid = set.empty; invalid = set.empty }

-- the part of a number
abbrev pub part_at : List Verdicts → ℕ → Verdicts
part_at parts n = get_or parts n nothing
