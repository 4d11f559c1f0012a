use Rattle.std.proofs.Common.{◌≡◌, ◌∷◌, [], ℕ, List, slice_index, ◌∙◌, ap}
use Rattle.lanes.proofs.Vectors.{itself, of_both, sum-turned}
use Rattle.sha2.specs.Sha256.{big_sigma0, big_sigma1, ch, maj, add32}
use Rattle.lanes.proofs.rounds.turned.Goals as goal

pub returns : goal.returns
returns c = λ l lt w k fed.
    let at = λ (v : List ℕ). slice_index v l in
    let first = of_both add32 (of_both add32 (of_both add32 (itself c.args.h c.fits-h.0) c.upper_sigma1.ensures) c.choice.ensures)
    (itself c.args.fed c.fits-fed.0) in
    let second = of_both add32 c.upper_sigma0.ensures c.majority.ensures in
    let new_a = of_both add32 first second in
    let new_e = of_both add32 (itself c.args.d c.fits-d.0) first in
    let before : ℕ = add32 (add32 (at c.args.h) (big_sigma1 (at c.args.e))) (ch (at c.args.e) (at c.args.f) (at c.args.g)) in
    let after : ℕ = add32 (big_sigma0 (at c.args.a)) (maj (at c.args.a) (at c.args.b) (at c.args.c)) in
    let turned : add32 before (at c.args.fed) ≡ add32 (add32 before k) w = ap (add32 before) fed ∙ sum-turned before w k in
    λ i. (new_a.at l lt ∙ ap (λ (n : ℕ). add32 n after) turned) i ∷ at c.args.a ∷ at c.args.b ∷ at c.args.c
    ∷ (new_e.at l lt ∙ ap (add32 (at c.args.d)) turned) i ∷ at c.args.e ∷ at c.args.f ∷ at c.args.g ∷ []
