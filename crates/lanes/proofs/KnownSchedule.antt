-- The schedule of a block that all lanes have in common, and of the padding of 64 bytes with the constants of the rounds added.
use Rattle.std.proofs.Common.{◌≡◌, ◌<◌, ◌+◌, ◌∙◌, ℕ, List, [], ◌∷◌, length, slice_index, slice_set, inl, inr, refl, ap, arith}
use Rattle.std.proofs.lemmas.Bool.{cases_lt}
use Rattle.std.proofs.lemmas.List.{get_or-set_same, get_or-set_other}
use Rattle.std.proofs.lemmas.Simd.{get_or-zip2}
use lib.Lanes.{zip2}
use Rattle.sha2.specs.Sha256.{add32, padding, schedule, first_words, round_constants}
use Rattle.sha2.proofs.Schedule256.{length-schedule}

abbrev pub sums : List ℕ
sums =
    0xC28A2F98 ∷ 0x71374491 ∷ 0xB5C0FBCF ∷ 0xE9B5DBA5 ∷ 0x3956C25B ∷ 0x59F111F1 ∷ 0x923F82A4 ∷ 0xAB1C5ED5 ∷
    0xD807AA98 ∷ 0x12835B01 ∷ 0x243185BE ∷ 0x550C7DC3 ∷ 0x72BE5D74 ∷ 0x80DEB1FE ∷ 0x9BDC06A7 ∷ 0xC19BF374 ∷
    0x649B69C1 ∷ 0xF0FE4786 ∷ 0x0FE1EDC6 ∷ 0x240CF254 ∷ 0x4FE9346F ∷ 0x6CC984BE ∷ 0x61B9411E ∷ 0x16F988FA ∷
    0xF2C65152 ∷ 0xA88E5A6D ∷ 0xB019FC65 ∷ 0xB9D99EC7 ∷ 0x9A1231C3 ∷ 0xE70EEAA0 ∷ 0xFDB1232B ∷ 0xC7353EB0 ∷
    0x3069BAD5 ∷ 0xCB976D5F ∷ 0x5A0F118F ∷ 0xDC1EEEFD ∷ 0x0A35B689 ∷ 0xDE0B7A04 ∷ 0x58F4CA9D ∷ 0xE15D5B16 ∷
    0x007F3E86 ∷ 0x37088980 ∷ 0xA507EA32 ∷ 0x6FAB9537 ∷ 0x17406110 ∷ 0x0D8CD6F1 ∷ 0xCDAA3B6D ∷ 0xC0BBBE37 ∷
    0x83613BDA ∷ 0xDB48A363 ∷ 0x0B02E931 ∷ 0x6FD15CA7 ∷ 0x521AFACA ∷ 0x31338431 ∷ 0x6ED41A95 ∷ 0x6D437890 ∷
    0xC39C91F2 ∷ 0x9ECCABBD ∷ 0xB5C9A0E6 ∷ 0x532FB63C ∷ 0xD2C741C6 ∷ 0x07237EA3 ∷ 0xA4954B68 ∷ 0x4C191D76 ∷ []

all_sums : sums ≡ zip2 add32 (schedule (padding 64) 48) round_constants
unfolding schedule first_words
all_sums = refl

pub sums-at : (t : ℕ) → t < 64 → slice_index sums t ≡ add32 (slice_index (schedule (padding 64) 48) t) (slice_index round_constants t)
sums-at t lt = ap (λ (words : List ℕ). slice_index words t) all_sums
    ∙ get_or-zip2 add32 (schedule (padding 64) 48) round_constants t 0 0 0 (omega (arith, length-schedule (padding 64) 48)) (omega arith)

-- one word more
pub word_more : (words ws : List ℕ) (t x : ℕ) → t < length words → ((j : ℕ) → j < t → slice_index words j ≡ slice_index ws j) → x ≡ slice_index ws t
    → (j : ℕ) → j < t + 1 → slice_index (slice_set words t x) j ≡ slice_index ws j
word_more words ws t x room before is j lt = elim (cases_lt j t) [
  | inl less ↦ get_or-set_other words t j x 0 (omega (arith, less)) ∙ before j less
  | inr ge ↦
      let e : j ≡ t = omega (arith, ge, lt) in
      rw e (get_or-set_same words t x 0 room ∙ is)
]
