-- What is saved of a run.
use Rattle.std.specs.Prelude.{ℕ, ◌+◌, ◌-◌, nat_lt, Bool, false, List, [], length}
use Rattle.wire.specs.Numbers.{limit}
use Rattle.block.specs.declared.blk_fault.BlkFault.{BlkFault}
use Rattle.block.specs.Blk.{record_bytes, IsEnd, IsFault}
use Rattle.block.specs.laws.Files.{Gave}
use Rattle.model.specs.declared.command.Command.{Command}
use Rattle.model.specs.declared.command.Command.TheVariants as command
use Rattle.model.specs.declared.entry.Entry.{Entry}

-- the blk record of what a command submits; marks and verdicts have none
abbrev pub record_asked : Command → List ℕ
record_asked (command.Submit bytes now) = record_bytes bytes
record_asked (command.Invalidate id) = []
record_asked (command.Reconsider id) = []
record_asked (command.Precious id) = []
record_asked (command.Learn triple valid) = []

-- the blk record of an entry
abbrev pub record_of : Entry → List ℕ
record_of entry = record_asked entry.command

-- whether a command submits a block that is longer than a record may be
abbrev pub is_long : Command → Bool
is_long (command.Submit bytes now) = nat_lt limit (length bytes)
is_long (command.Invalidate id) = false
is_long (command.Reconsider id) = false
is_long (command.Precious id) = false
is_long (command.Learn triple valid) = false

-- these blocks come in their records, from the front on, and then the file ends
abbrev pub AreAll : List ℕ → List (List ℕ) → Type 0
AreAll file blocks = (rest : List ℕ) × Gave file blocks rest × IsEnd rest

-- behind the records of some blocks stands what the fault says, at its place from the first of all bytes on; the
-- file's front stands at `place`
abbrev pub IsRefused : ℕ → List ℕ → BlkFault → Type 0
IsRefused place file fault = (blocks : List (List ℕ)) × (rest : List ℕ) × Gave file blocks rest
    × IsFault (place + (length file - length rest)) rest fault
