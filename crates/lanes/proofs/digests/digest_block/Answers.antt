use Rattle.std.proofs.Common.{◌≡◌, ℕ, List, slice_index, sym, length, Fits, w32}
use lib.Lanes.{Each1}
use Rattle.std.proofs.lemmas.Nat.{from_be_bytes-to_be_bytes_4}
use Rattle.sha2.specs.Sha256.{digest_bytes}
use Rattle.lanes.specs.Lane.{lanes}
use Rattle.lanes.proofs.Cases.{below_16}
use Rattle.lanes.proofs.Vectors.{everywhere, fits_word}
use Rattle.lanes.proofs.digests.digest_block.Goals as goal

pub returns : goal.returns
unfolding digest_bytes
returns c = λ l lt.
    let back = λ (v : List ℕ) (fits : (length v ≡ lanes) × Each1 (Fits w32) v). sym (from_be_bytes-to_be_bytes_4 (slice_index v l) (fits_word v fits l lt)) in
    let zero = (everywhere 0).at l lt in
    below_16 _ (back c.args.a c.fits-a) (back c.args.b c.fits-b) (back c.args.c c.fits-c) (back c.args.d c.fits-d) (back c.args.e c.fits-e) (back c.args.f c.fits-f) (back c.args.g c.fits-g) (back c.args.h c.fits-h) ((everywhere 0x80000000).at l lt) zero zero zero zero zero zero ((everywhere 256).at l lt)
