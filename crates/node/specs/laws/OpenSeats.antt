-- The seats that a node is opened with.
use Rattle.std.specs.Prelude.{◌≡◌, ℕ, zero, suc, ◌≤◌, ◌<◌, List, [], ◌∷◌, ◌++◌, length, slice_get, Some, All}
use Rattle.std.proofs.Common.{refl, ◌∙◌, subst, sym, ap, eq-or-lt_of_le, ⊎_elim, length-append, arith}
use Rattle.std.proofs.lemmas.List.Elements.{All-push}
use Rattle.view.specs.Origin.{Origin}
use Rattle.node.specs.Pass.{opening_pass, opening_passes}

-- they are as many as were asked for
pub opening_count : (o : Origin) (n : ℕ) → length (opening_passes o n) ≡ n
opening_count o zero = refl
opening_count o (suc n) = length-append (opening_passes o n) (opening_pass o n ∷ []) ∙ omega (arith, opening_count o n)

-- all of them sit at one history, so each may be told what another has seen
pub opening_origin : (o : Origin) (n : ℕ) → All (λ p. p.origin ≡ o) (opening_passes o n)
opening_origin o zero = λ k d lt. absurd (omega (arith, lt))
opening_origin o (suc n) = All-push (λ p. p.origin ≡ o) (opening_passes o n) (opening_pass o n) (opening_origin o n) refl

-- an element of a list that goes on, and the first behind it
get_front : {A : Type 0} (xs ys : List A) (k : ℕ) → k < length xs → slice_get (xs ++ ys) k ≡ slice_get xs k
get_front [] ys k lt = absurd (omega (arith, lt))
get_front (x ∷ xs) ys zero lt = refl
get_front (x ∷ xs) ys (suc k) lt = get_front xs ys k (omega (arith, lt))

get_last : {A : Type 0} (xs : List A) (y : A) → slice_get (xs ++ y ∷ []) (length xs) ≡ Some y
get_last [] y = refl
get_last (x ∷ xs) y = get_last xs y

-- each is the opening pass of its number
pub opening_at : (o : Origin) (n k : ℕ) → k < n → slice_get (opening_passes o n) k ≡ Some (opening_pass o k)
opening_at o zero k lt = absurd (omega (arith, lt))
opening_at o (suc n) k lt =
    let below : k ≤ n = omega (arith, lt) in
    ⊎_elim last (λ less. before less (opening_at o n k less)) (eq-or-lt_of_le below)
  where
    last : k ≡ n → slice_get (opening_passes o (suc n)) k ≡ Some (opening_pass o k)
    last e =
        let whole : slice_get (opening_passes o (suc n)) n ≡ Some (opening_pass o n) =
        ap (slice_get (opening_passes o (suc n))) (sym (opening_count o n)) ∙ get_last (opening_passes o n) (opening_pass o n) in
        subst (λ (i : ℕ). slice_get (opening_passes o (suc n)) i ≡ Some (opening_pass o i)) (sym e) whole

    before : k < n → slice_get (opening_passes o n) k ≡ Some (opening_pass o k) → slice_get (opening_passes o (suc n)) k ≡ Some (opening_pass o k)
    before less there =
        let inside : k < length (opening_passes o n) = omega (arith, less, opening_count o n) in
        get_front (opening_passes o n) (opening_pass o n ∷ []) k inside ∙ there
