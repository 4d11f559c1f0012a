-- The hash values of messages of 64 and of 32 bytes, by their blocks.
use Rattle.std.proofs.Common.{◌≡◌, ◌∙◌, ◌+◌, ◌/◌, ℕ, List, ◌++◌, length, take, drop, refl, ap, subst, arith}
use Rattle.std.proofs.lemmas.List.{length-append, take-append-le, take_all}
use Rattle.std.proofs.Math.Seq.{drop-append_seam}
use Rattle.sha2.proofs.Absorbing256.{hash_after_next}
use Rattle.sha2.specs.Sha256.{compress, digest_bytes, final_hash, hash_after, initial_hash_256, padded_message, padding}

-- a message whose length is known, so that its padding is
of_length : (h m : List ℕ) (len blocks : ℕ) → length m ≡ len → (len + length (padding len)) / 64 ≡ blocks → final_hash h m ≡ hash_after h (m ++ padding len) blocks
of_length h m len blocks e count =
    let padded : padded_message m ≡ m ++ padding len = ap (λ (n : ℕ). m ++ padding n) e in
    let long : length (m ++ padding len) / 64 ≡ blocks = ap (λ (n : ℕ). n / 64) (length-append m (padding len) ∙ ap (λ (n : ℕ). n + length (padding len)) e) ∙ count in
    ap (λ (p : List ℕ). hash_after h p (length p / 64)) padded ∙ ap (hash_after h (m ++ padding len)) long

first_block : (h p : List ℕ) → hash_after h p 1 ≡ compress h (take 64 p)
unfolding hash_after
first_block h p = refl

pub of_64 : (m : List ℕ) → length m ≡ 64 → final_hash initial_hash_256 m ≡ compress (compress initial_hash_256 m) (padding 64)
of_64 m len =
    let h = initial_hash_256 in
    let p = m ++ padding 64 in
    let whole : take 64 p ≡ m = take-append-le 64 m (padding 64) (omega (arith, len)) ∙ take_all 64 m (omega (arith, len)) in
    let rest : take 64 (drop 64 p) ≡ padding 64 = ap (take 64) (subst (λ (n : ℕ). drop n p ≡ padding 64) len (drop-append_seam m (padding 64))) ∙ take_all 64 (padding 64) (omega arith) in
    of_length h m 64 2 len refl ∙ hash_after_next h p 1
    ∙ (λ i. compress ((first_block h p ∙ ap (compress h) whole) i) (rest i))

pub of_32 : (m : List ℕ) → length m ≡ 32 → final_hash initial_hash_256 m ≡ compress initial_hash_256 (m ++ padding 32)
of_32 m len =
    let p = m ++ padding 32 in
    of_length initial_hash_256 m 32 1 len refl ∙ first_block initial_hash_256 p
    ∙ ap (compress initial_hash_256) (take_all 64 p (omega (arith, length-append m (padding 32), len)))

pub length_digest : (h : List ℕ) → length (digest_bytes h 8) ≡ 32
unfolding digest_bytes
length_digest h = refl
