-- The opcode at the front of a script, where it is no push or none is there.
use Rattle.std.proofs.Common.{◌≡◌, ℕ, ◌<◌, List, [], ◌∷◌, ◌++◌, length, take, inr, refl, arith}
use Rattle.script.specs.Ops.{ops, rest}
use Rattle.script.specs.laws.Ops.{op-again, ops-more}

pub alone-first : (script : List ℕ) (number : ℕ) (more : List ℕ) → script ≡ number ∷ more → 78 < number
    → (ops script ≡ take 1 script ∷ ops more) × (script ≡ take 1 script ++ more)
alone-first script number more e above =
    rw e (ops-more (number ∷ more) (number ∷ []) more (op-again (number ∷ []) more (number, [], inr (inr (above, refl, refl)))) refl, refl)

pub none-first : (script : List ℕ) → length script ≡ 0 → (ops script ≡ []) × (rest script ≡ script)
unfolding ops rest
none-first [] e = (refl, refl)
none-first (x ∷ xs) e = absurd (omega arith)
