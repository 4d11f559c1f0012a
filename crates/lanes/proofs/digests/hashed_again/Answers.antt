use Rattle.std.proofs.Common.{◌≡◌, ◌++◌, ℕ, List, sym, ◌∙◌, ap}
use Rattle.sha2.specs.Sha256.{compress, digest_bytes, padding, sha256}
use Rattle.lanes.specs.State.{lane}
use Rattle.lanes.proofs.Whole.{length_digest, of_32}
use Rattle.lanes.proofs.digests.hashed_again.Goals as goal

pub returns : goal.returns
unfolding sha256
returns c = λ l lt message once d.
    let bytes = λ (h : List ℕ). digest_bytes h 8 in
    let first : List ℕ = bytes (lane c.args.once l) in
    let again = c.compressed.ensures l lt (first ++ padding 32) (c.digest_block-words.ensures l lt)
    ∙ ap (λ (h : List ℕ). compress h (first ++ padding 32)) (c.initial.ensures l lt)
    ∙ sym (of_32 first (length_digest (lane c.args.once l))) in
    let hashed : bytes (lane c.compressed.result l) ≡ sha256 (sha256 message) = ap bytes again ∙ ap sha256 (ap bytes once) in
    c.digests.ensures l lt d ∙ (λ i. record { 0 = hashed i })
