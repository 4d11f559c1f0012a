-- Where the first byte stands that isn't 0.
use Rattle.std.proofs.Common.{◌≡◌, ℕ, zero, suc, ◌+◌, ◌<◌, ◌≤◌, List, [], ◌∷◌, true, false, not, ◌||◌, nat_lt, eqb, get_or, drop, length, refl, ◌∙◌, drop-cons, length-drop, add-one, arith}
use borrow.Author.Tests.{ne_eqb, lt-ltb, le-ltb}
use Rattle.interp.specs.Elements.{truth}

zero_first : (rest : List ℕ) → truth (0 ∷ rest) ≡ truth rest
unfolding truth
zero_first [] = refl
zero_first (c ∷ rest) = refl

pub truth_at_zero : (bytes : List ℕ) (i : ℕ) → i < length bytes → get_or bytes i 0 ≡ 0 → truth (drop i bytes) ≡ truth (drop (i + 1) bytes)
truth_at_zero bytes i h e = rw (drop-cons bytes i 0, e, add-one i) (zero_first (drop (suc i) bytes))

some_first : (b : ℕ) (rest : List ℕ) → 0 < b → truth (b ∷ rest) ≡ (nat_lt 0 (length rest) || not (eqb b 128))
unfolding truth
some_first b [] h = rw (ne_eqb b 0 (λ e. omega arith)) refl
some_first b (c ∷ rest) h = rw (ne_eqb b 0 (λ e. omega arith), lt-ltb 0 (length (c ∷ rest)) (omega arith)) refl

pub truth_at : (bytes : List ℕ) (i : ℕ) → i < length bytes → 0 < get_or bytes i 0 → truth (drop i bytes) ≡ (nat_lt 0 (length (drop (suc i) bytes)) || not (eqb (get_or bytes i 0) 128))
truth_at bytes i h e = rw (drop-cons bytes i 0) (some_first (get_or bytes i 0) (drop (suc i) bytes) e)

-- not the last byte
pub truth_early : (bytes : List ℕ) (i : ℕ) → i + 1 < length bytes → 0 < get_or bytes i 0 → truth (drop i bytes) ≡ true
truth_early bytes i h e =
    let left = length-drop (suc i) bytes in
    truth_at bytes i (omega arith) e ∙ rw (lt-ltb 0 (length (drop (suc i) bytes)) (omega arith)) refl

-- the last byte
pub truth_last : (bytes : List ℕ) (i : ℕ) → i < length bytes → length bytes ≤ i + 1 → 0 < get_or bytes i 0 → truth (drop i bytes) ≡ not (eqb (get_or bytes i 0) 128)
truth_last bytes i h k e =
    let left = length-drop (suc i) bytes in
    truth_at bytes i h e ∙ rw (le-ltb 0 (length (drop (suc i) bytes)) (omega arith)) refl

-- past the end
pub truth_end : (bytes : List ℕ) (i : ℕ) → length bytes ≤ i → truth (drop i bytes) ≡ false
unfolding truth
truth_end [] zero h = refl
truth_end [] (suc i) h = refl
truth_end (b ∷ bytes) zero h = absurd (omega arith)
truth_end (b ∷ bytes) (suc i) h = truth_end bytes i (omega arith)
