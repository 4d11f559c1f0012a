-- The blocks of a message with its padding (FIPS 180-4, 5.1.1 and 5.2.1).
use Rattle.std.specs.Prelude.{◌≡◌, ℕ, ◌-◌, ◌*◌, ◌/◌, ◌<◌, if◌then◌else◌, nat_lt, List, [], length, take, drop, min, slice_index, slice_index_or}
use Rattle.std.specs.Borrow.{Bor}
use Rattle.lanes.specs.Lane.{lanes}
use Rattle.lanes.specs.inside.Messages.{message_at}
use Rattle.sha2.specs.Sha256.{hash_after, initial_hash_256, padded_message}

-- how many blocks a message has
abbrev pub block_count : List ℕ → ℕ
block_count message = length (padded_message message) / 64

-- its block i
abbrev pub block : List ℕ → ℕ → List ℕ
block message i = take 64 (drop (i * 64) (padded_message message))

-- how long the last bytes of a message are with the padding
abbrev pub padded_len : List ℕ → ℕ
padded_len rest = if nat_lt (length rest) 56 then 64 else 128

-- the tail begins with what follows the message's whole blocks: its last bytes and the padding
abbrev pub IsTail : List ℕ → List ℕ → Type 0
IsTail message tail = take ((block_count message - length message / 64) * 64) tail ≡ drop (length message / 64 * 64) (padded_message message)

-- the hash value after i blocks, or after all where there are fewer
abbrev pub after_blocks : List ℕ → ℕ → List ℕ
after_blocks message i = hash_after initial_hash_256 (padded_message message) (min i (block_count message))

-- ---- of the eight messages of the lanes

abbrev pub AreCounts : List (Bor (List ℕ)) → List ℕ → Type 0
AreCounts messages counts = (l : ℕ) → l < lanes → slice_index counts l ≡ block_count (message_at messages l)

abbrev pub AreTails : List (Bor (List ℕ)) → List (List ℕ) → Type 0
AreTails messages tails = (l : ℕ) → l < lanes → IsTail (message_at messages l) (slice_index_or tails l [])

-- the block i of each message that has one
abbrev pub AreBlocks : List (Bor (List ℕ)) → ℕ → List (List ℕ) → Type 0
AreBlocks messages i blocks = (l : ℕ) → l < lanes → i < block_count (message_at messages l) → slice_index_or blocks l [] ≡ block (message_at messages l) i
