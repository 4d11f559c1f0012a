-- Each place is of one claim, and lies between its first place and the next one's.
use Rattle.std.proofs.Common.{◌≡◌, ℕ, ◌+◌, ◌<◌, ◌≤◌, arith}
use Rattle.std.proofs.lemmas.Bool.Decides.{nat_tests}
use Rattle.queue.specs.inside.ClaimedPlaces.{claims_in, begin_of, claim_of}

pub claim_of-below : (count place : ℕ) → place < count → claim_of count place < claims_in count
claim_of-below count place below = grind (arith, nat_tests)

pub claim_of-within : (count claim place : ℕ) → place < count → claim_of count place ≡ claim → (begin_of count claim ≤ place) × (place < begin_of count (claim + 1))
claim_of-within count claim place below is = grind (arith, nat_tests)
