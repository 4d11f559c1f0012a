-- The numbers of what bytes, or what is asked of them, lack. Beside those of Answers:
--     20 the bytes end too early    21 a count in more bytes than it needs    22 a count above the limit
--     23 bytes behind the block     24 no such input    25 as many are wanted as there are inputs
--     26 no record    27 a record that is cut short    28 a record above the limit
--     29 of a signature that is asked for nothing is known    30 a signature is said to be valid and not to be
use Rattle.std.specs.Prelude.{◌≡◌, ℕ, ◌⊎◌, Bool, true, false, List, length, Option, None, Some, Result, Ok, Err}
use Rattle.wire.specs.declared.fault.WireFault.{WireFault}
use Rattle.wire.specs.declared.fault.WireFault.TheVariants as wire
use Rattle.txn.specs.declared.reason.Reason.{Reason}
use Rattle.txn.specs.Reason.{number_of}
use Rattle.block.specs.Blk.{IsEnd, IsFault, IsOutside, IsRecord}
use Rattle.block.specs.Whole.{Faulty}
use Rattle.block.specs.declared.block.Block.{Block}
use Rattle.block.specs.declared.fault.ReadFault.{ReadFault}
use Rattle.block.specs.declared.fault.ReadFault.TheVariants as block
use Rattle.block.specs.declared.blk_fault.BlkFault.{BlkFault}
use Rattle.block.specs.declared.blk_fault.BlkFault.TheVariants as blk

abbrev pub wire_number : WireFault → ℕ
wire_number wire.Short = 20
wire_number wire.LongForm = 21
wire_number wire.TooLarge = 22

abbrev pub read_number : ReadFault → ℕ
read_number block.Short = 20
read_number block.LongForm = 21
read_number block.TooLarge = 22
read_number block.Extra = 23
read_number block.Memory = 1

abbrev pub blk_number : BlkFault → ℕ
blk_number (blk.Foreign at) = 26
blk_number (blk.Cut at) = 27
blk_number (blk.TooLong at) = 28
blk_number blk.Read = 1
blk_number blk.Memory = 1
blk_number blk.Stopped = 1

-- the first rule that is broken, or 0
abbrev pub broken_number : Option Reason → ℕ
broken_number None = 0
broken_number (Some reason) = number_of reason

abbrev pub bit : Bool → ℕ
bit true = 1
bit false = 0

-- What is answered about a part at the front of bytes. Where bytes have none, its fault is reported and nothing is
-- written. Memory may always run out, and nothing is written then either.
abbrev pub IsTold : {X : Type 0} → Result (X × List ℕ) WireFault → (X → Type 0) → Type 0 → ℕ → Type 0
IsTold (Ok found) told kept result = told found.0 ⊎ ((result ≡ 1) × kept)
IsTold (Err fault) told kept result = ((result ≡ wire_number fault) ⊎ (result ≡ 1)) × kept

-- The same for a block that bytes spell, all of them. That no block is spelled is reported by the fault that they have.
abbrev pub IsBlockTold : List ℕ → Option Block → (Block → Type 0) → Type 0 → ℕ → Type 0
IsBlockTold bytes (Some b) told kept result = told b ⊎ ((result ≡ 1) × kept)
IsBlockTold bytes None told kept result =
    (((fault : ReadFault) × Faulty fault bytes × (result ≡ read_number fault)) ⊎ (result ≡ 1)) × kept

-- the bytes have this fault, so it is reported
abbrev pub IsFaultTold : ReadFault → ℕ → Type 0
IsFaultTold fault result = (result ≡ read_number fault) ⊎ (result ≡ 1)

-- what is at the front of a blk file's bytes: a record, the end, or a fault; or there is no memory for the record
abbrev pub IsRecordTold : List ℕ → ℕ → ℕ → ℕ → Type 0
IsRecordTold bytes before size result =
    ((block : List ℕ) × (after : List ℕ) × IsRecord block bytes after × (result ≡ 0) × (size ≡ length block))
    ⊎ ((IsEnd bytes × (result ≡ 4) × (size ≡ before))
    ⊎ (((fault : BlkFault) × IsFault 0 bytes fault × (IsOutside fault → ⊥) × (result ≡ blk_number fault) × (size ≡ before))
    ⊎ ((result ≡ 1) × (size ≡ before))))
