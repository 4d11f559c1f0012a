-- Blocks whose counts and lengths can be read again.
use Rattle.std.specs.Prelude.{◌≤◌, List, length, Bool, false}
use Rattle.std.specs.List.{All}
use Rattle.wire.specs.Numbers.{limit}
use Rattle.txn.specs.Tx.{Tx}
use Rattle.txn.specs.Limits as txn
use Rattle.block.specs.declared.block.Block.{Block}

-- not too many transactions, and no list, script or witness of theirs is too long
abbrev pub AreWithin : Bool → List Tx → Type 0
AreWithin has_flag txs = (length txs ≤ limit) × All (txn.IsWithinLimitsBy has_flag) txs

-- by BIP 144, or without witnesses
abbrev pub IsWithinLimitsBy : Bool → Block → Type 0
IsWithinLimitsBy has_flag b = AreWithin has_flag b.txs

abbrev pub IsWithinLimits : Block → Type 0
IsWithinLimits = IsWithinLimitsBy false
