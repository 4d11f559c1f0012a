-- Bitcoin Core's blk files: the records of blocks, one after the other, and then zero bytes alone.
use Rattle.std.specs.Prelude.{◌≡◌, ◌≢◌, ◌⊎◌, ℕ, ◌+◌, ◌<◌, ◌≤◌, ◌^◌, List, [], ◌∷◌, ◌++◌, length, ⊤, Result, Ok, Err}
use Rattle.std.specs.List.{AllByRecursion}
use Rattle.byteorder.specs.Endian.{little_bytes}
use Rattle.wire.specs.Numbers.{limit}
use Rattle.block.specs.declared.blk_fault.BlkFault.{BlkFault}
use Rattle.block.specs.declared.blk_fault.BlkFault.TheVariants.{Foreign, Cut, TooLong, Read, Memory, Stopped}

-- the bytes before each of regtest's records (Bitcoin Core's message start)
abbrev pub magic : List ℕ
magic = 0xfa ∷ 0xbf ∷ 0xb5 ∷ 0xda ∷ []

-- the magic, and a length in four bytes, the lowest first
abbrev pub head : ℕ → List ℕ
head len = magic ++ little_bytes 4 len

-- the record of a block
abbrev pub record_bytes : List ℕ → List ℕ
record_bytes block = head (length block) ++ block

-- the record of a block is at the front, and these bytes after it
abbrev pub IsRecord : List ℕ → List ℕ → List ℕ → Type 0
IsRecord block rest after = (length block ≤ limit) × (rest ≡ record_bytes block ++ after)

-- the end of a file: zero bytes alone, or nothing
abbrev pub IsEnd : List ℕ → Type 0
IsEnd rest = AllByRecursion (λ byte. byte ≡ 0) rest

-- neither zero bytes alone, nor the whole magic at the front
abbrev pub IsForeign : List ℕ → Type 0
IsForeign rest = (IsEnd rest → ⊥) × ((after : List ℕ) → rest ≢ magic ++ after)

-- the magic, and then fewer bytes than a length has, or than the length says
abbrev pub IsCut : List ℕ → Type 0
IsCut rest =
    ((after : List ℕ) × (rest ≡ magic ++ after) × (length after < 4))
    ⊎ ((len : ℕ) × (after : List ℕ) × (rest ≡ head len ++ after) × (len ≤ limit) × (length after < len))

-- the magic and a length above the limit, whatever follows
abbrev pub IsTooLong : List ℕ → Type 0
IsTooLong rest = (len : ℕ) × (after : List ℕ) × (rest ≡ head len ++ after) × (limit < len) × (len < 256 ^ 4)

-- what a fault says of the bytes at a record's place
abbrev pub IsFault : ℕ → List ℕ → BlkFault → Type 0
IsFault place rest (Foreign at) = (at ≡ place) × IsForeign rest
IsFault place rest (Cut at) = (at ≡ place) × IsCut rest
IsFault place rest (TooLong at) = (at ≡ place) × IsTooLong rest
IsFault place rest Read = ⊤
IsFault place rest Memory = ⊤
IsFault place rest Stopped = ⊥

-- a fault that isn't of the bytes: a read failed, or memory was refused
abbrev pub IsOutside : BlkFault → Type 0
IsOutside (Foreign at) = ⊥
IsOutside (Cut at) = ⊥
IsOutside (TooLong at) = ⊥
IsOutside Read = ⊤
IsOutside Memory = ⊤
IsOutside Stopped = ⊥

-- how many failed reads a fault is for
abbrev pub failures : BlkFault → ℕ
failures (Foreign at) = 0
failures (Cut at) = 0
failures (TooLong at) = 0
failures Read = 1
failures Memory = 0
failures Stopped = 0

-- the failed reads before a call and after it: one more where it told of one
abbrev pub CountsFailures : {X : Type 0} → Result X BlkFault → ℕ → ℕ → Type 0
CountsFailures (Ok x) old new = new ≡ old
CountsFailures (Err e) old new = new ≡ old + failures e

-- of the bytes to come some may have come, from their front
abbrev pub Remain : List ℕ → List ℕ → Type 0
Remain old new = (came : List ℕ) × (old ≡ came ++ new)
