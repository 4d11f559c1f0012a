-- Vectors lane by lane.
use Rattle.std.proofs.Common.{◌≡◌, [], ◌<◌, ◌^◌, ◌∙◌, ℕ, List, length, slice_index, refl, sym, arith, replicate, Fits, w32}
use Rattle.std.proofs.lemmas.Simd.{get_or-zip2, length-zip2, length-replicate, get_or-replicate, Each1-get_or}
use lib.Lanes.{zip2, Each1}
use Rattle.std.proofs.Math.ListN.{get_or, get_or-map}
use Rattle.sha2.specs.Sha256.{add32}
use Rattle.lanes.specs.Lane.{lanes}
use Rattle.lanes.specs.inside.EachLane.{EachLane}
use Rattle.lanes.specs.State.{lane_of}

-- each lane has its own word
pub itself : (v : List ℕ) → length v ≡ lanes → EachLane v (λ l. slice_index v l)
itself v len = record { len = len; at = λ l lt. refl }

-- each lane has the same word
pub everywhere : (n : ℕ) → EachLane (replicate lanes n) (λ l. n)
everywhere n = record { len = length-replicate lanes n; at = λ l lt. get_or-replicate lanes l n 0 lt }

in_one_lane : (h : ℕ → ℕ → ℕ) (u v : List ℕ) (a b l : ℕ) → length u ≡ lanes → length v ≡ lanes → l < lanes
    → slice_index u l ≡ a → slice_index v l ≡ b → slice_index (zip2 h u v) l ≡ h a b
in_one_lane h u v a b l lu lv lt ea eb =
    get_or-zip2 h u v l 0 0 0 (omega (arith, lu)) (omega (arith, lv)) ∙ (λ i. h (ea i) (eb i))

-- an operation on two vectors
pub of_both : (h : ℕ → ℕ → ℕ) {u v : List ℕ} {f g : ℕ → ℕ} → EachLane u f → EachLane v g → EachLane (zip2 h u v) (λ l. h (f l) (g l))
of_both h {u = u} {v = v} {f = f} {g = g} p q = record {
  len = length-zip2 h u v (p.len ∙ sym q.len) ∙ p.len;
  at = λ l lt. in_one_lane h u v (f l) (g l) l p.len q.len lt (p.at l lt) (q.at l lt);
}

-- what each lane has, said otherwise
pub said : {v : List ℕ} {f : ℕ → ℕ} (g : ℕ → ℕ) → EachLane v f → ((l : ℕ) → l < lanes → f l ≡ g l) → EachLane v g
said g p same = record { len = p.len; at = λ l lt. p.at l lt ∙ same l lt }

-- each lane has a word, which fits 32 bits
pub fits_word : (v : List ℕ) → (length v ≡ lanes) × Each1 (Fits w32) v → (l : ℕ) → l < lanes → slice_index v l < 2 ^ 32
fits_word v p l lt = (Each1-get_or (Fits w32) v l 0 (omega (arith, p.0)) p.1).fits

-- word i of lane l
pub lane_of-at : (w : List (List ℕ)) (i l : ℕ) → slice_index (lane_of w l) i ≡ slice_index (get_or w i []) l
lane_of-at w i l = get_or-map (λ (v : List ℕ). slice_index v l) w i []

pub sum-turned : (t w k : ℕ) → add32 t (add32 w k) ≡ add32 (add32 t k) w
sum-turned t w k = omega arith
