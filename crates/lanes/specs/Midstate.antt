-- The hash values of eight messages that begin alike.
use Rattle.std.specs.Prelude.{◌≡◌, ℕ, ◌*◌, ◌/◌, ◌%◌, ◌^◌, ◌<◌, List, length, take, drop}
use Rattle.sha2.specs.Sha256.{hash_after, initial_hash_256}
use Rattle.lanes.specs.declared.midstate.Midstate.{Midstate}
use Rattle.lanes.specs.Lane.{lanes}
use Rattle.lanes.specs.State.{lane}

-- the hash value of a message after these whole blocks
abbrev pub IsValueAfter : List ℕ → List ℕ → Type 0
IsValueAfter blocks value = (length blocks % 64 ≡ 0) × (value ≡ hash_after initial_hash_256 blocks (length blocks / 64))

-- each of the eight messages began with these whole blocks
pub record IsAfter (midstate : Midstate) (blocks : List ℕ) : Type 0 where
  pub count : midstate.len ≡ length blocks % 2 ^ 64
  pub values : (l : ℕ) → l < lanes → IsValueAfter blocks (lane midstate.state l)

-- part l of eight of one length, which lie one after the other
abbrev pub part : List ℕ → ℕ → List ℕ
part parts l = take (length parts / lanes) (drop (l * (length parts / lanes)) parts)
