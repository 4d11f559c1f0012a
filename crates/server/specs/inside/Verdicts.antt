-- Verdicts that the lines of a table's text tell.
use Rattle.std.specs.Prelude.{◌≡◌, ◌⊎◌, ℕ, Bool, List, [], ◌∷◌, slice_get, Option, None, Some, Result, Ok, Err}
use Rattle.signatures.specs.Lines.{Spells, words}
use Rattle.signatures.specs.Triple.{Triple}
use Rattle.node.specs.declared.answer.Learning.TheVariants.{Contradicted}
use Rattle.node.specs.declared.fault.Fault.{Fault}
use Rattle.node.specs.declared.fault.Fault.TheVariants.{Memory}
use Rattle.node.specs.Pass.{Pass}
use Rattle.node.specs.Runs.{IsLearnAllFault, IsLearntUpTo, Learns}

-- the triple that a line spells; None where it spells none
abbrev pub IsSpelled : List ℕ → Option Triple → Type 0
IsSpelled line None = (t : Triple) → ¬ Spells (words line) t
IsSpelled line (Some t) = Spells (words line) t

-- the triples that lines spell, in their order
abbrev pub AreSpelled : List (List ℕ) → List Triple → Type 0
AreSpelled [] ts = ts ≡ []
AreSpelled (l ∷ ls) ts = (IsSpelled l None × AreSpelled ls ts)
    ⊎ ((t : Triple) × (us : List Triple) × IsSpelled l (Some t) × AreSpelled ls us × (ts ≡ t ∷ us))

-- the verdicts before this one are taken down, and it contradicts what is known
abbrev pub IsContradicted : Pass → Pass → List Triple → Bool → Triple → Type 0
IsContradicted p q ts valid t = (n : ℕ) × (at : ℕ) × (slice_get ts n ≡ Some t)
    × IsLearntUpTo p q ts valid n (Ok (record { at = at; value = Contradicted }))

-- the verdict on each signature of these lines is taken down by a call of `learn`, up to one that contradicts what is known, or
-- is refused; nothing is where there is no memory for the list
abbrev pub AreLearnt : Pass → Pass → List (List ℕ) → Bool → Result (Option Triple) Fault → Type 0
AreLearnt p q ls valid (Ok None) = (ts : List Triple) × AreSpelled ls ts × Learns p ts valid q
AreLearnt p q ls valid (Ok (Some t)) = (ts : List Triple) × AreSpelled ls ts × IsContradicted p q ts valid t
AreLearnt p q ls valid (Err fault) = ((fault ≡ Memory) × (q ≡ p))
    ⊎ ((ts : List Triple) × AreSpelled ls ts × IsLearnAllFault p q ts valid fault)
