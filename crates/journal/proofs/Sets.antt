-- Heights that are set by name, a part at a time.
use Rattle.std.proofs.Common.{◌≡◌, ℕ, ◌<◌, List, [], ◌∷◌, ◌++◌, length, get_or, Some, None, sym, ap, subst, ◌∙◌, arith}
use Rattle.std.specs.Borrow.{Bor}
use Rattle.std.specs.Prelude.{MatchOption}
use Rattle.std.specs.List.{join_with_byte}
use Rattle.std.proofs.Math.Seq.{get_or-append_seam}
use Rattle.std.proofs.lemmas.List.{length-append}
use Rattle.std.proofs.lemmas.Str.Pattern.{IsSplitOnceResult, split_parts}
use Rattle.rules.specs.declared.deployment.Deployment.{Deployment}
use Rattle.rules.specs.declared.params.Params.{Params}
use Rattle.rules.specs.Params.{with_height}
use Rattle.journal.specs.Heights.{IsNamed}
use Rattle.journal.specs.inside.HeightSets.{AreSets}
use Rattle.journal.proofs.Parts.{Lacks, Split, comma-free, found-parts}

-- where it stands it isn't lacking
pub stands : (c : ℕ) (text front back : List ℕ) → text ≡ front ++ (c ∷ back) → Lacks c text → ⊥
stands c text front back is none =
    let inside : length front < length text = omega (arith, ap length is, length-append front (c ∷ back)) in
    none (length front) inside (ap (λ (t : List ℕ). get_or t (length front) 0) is ∙ get_or-append_seam front c back 0)

-- a first part and a comma before what sets
pub more : (text front behind : List ℕ) (before after : Params) (deployment : Deployment) (n : ℕ) → text ≡ front ++ (44 ∷ behind) → IsNamed front deployment n
    → AreSets behind (with_height before deployment n) after → AreSets text before after
more text front behind before after deployment n is named sets =
    (front, sets.0 ∷ sets.1, is ∙ ap (λ (t : List ℕ). front ++ (44 ∷ t)) sets.2, (deployment, n, named, sets.3))

abbrev pub First : List ℕ → List ℕ → Params → Params → Type 0
First front behind before after = (deployment : Deployment) × (n : ℕ) × IsNamed front deployment n × AreSets behind (with_height before deployment n) after

-- and the other way round
pub first : (text : List ℕ) (a b : Bor (List ℕ)) (r : Split) (before after : Params) → IsSplitOnceResult 44 text r → r ≡ Some (a, b) → AreSets text before after → First a.now b.now before after
first text a b r before after split is (one, [], same, (deployment, n, named, last)) =
    let at : (text ≡ a.now ++ (44 ∷ b.now)) × Lacks 44 a.now = subst (λ (o : Split). MatchOption o (Lacks 44 text) (λ x. (text ≡ x.0.now ++ (44 ∷ x.1.now)) × Lacks 44 x.0.now)) is (split_parts 44 text r split (omega arith)) in
    absurd (stands 44 one a.now b.now (sym same ∙ at.0) (comma-free one deployment n named))
first text a b r before after split is (one, (next ∷ others), same, (deployment, n, named, sets)) =
    let parts = found-parts 44 text one (join_with_byte 44 (next ∷ others)) r a b split (omega arith) same (comma-free one deployment n named) is in
    (deployment, n, subst (λ (t : List ℕ). IsNamed t deployment n) (sym parts.0) named, (next, others, parts.1, sets))

-- what has no comma sets one
pub alone : (text : List ℕ) (before after : Params) (r : Split) → IsSplitOnceResult 44 text r → r ≡ None → AreSets text before after
    → (deployment : Deployment) × (n : ℕ) × IsNamed text deployment n × (with_height before deployment n ≡ after)
alone text before after r split is (one, [], same, (deployment, n, named, last)) =
    (deployment, n, subst (λ (t : List ℕ). IsNamed t deployment n) (sym same) named, last)
alone text before after r split is (one, (next ∷ others), same, (deployment, n, named, sets)) =
    let none : Lacks 44 text = subst (λ (o : Split). MatchOption o (Lacks 44 text) (λ x. (text ≡ x.0.now ++ (44 ∷ x.1.now)) × Lacks 44 x.0.now)) is (split_parts 44 text r split (omega arith)) in
    absurd (stands 44 text one (join_with_byte 44 (next ∷ others)) same none)
