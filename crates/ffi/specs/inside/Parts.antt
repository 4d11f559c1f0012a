-- Why a part of bytes, or a table, isn't read, by its number.
use Rattle.std.specs.Prelude.{◌≡◌, ℕ, ◌⊎◌, List, Result, Ok, Err}
use Rattle.signatures.specs.Lines.{IsFirstBad}
use Rattle.wire.specs.declared.fault.WireFault.{WireFault}
use Rattle.txn.specs.declared.fault.TxFault.{TxFault}
use Rattle.txn.specs.declared.fault.TxFault.TheVariants as txn
use Rattle.ffi.specs.Refusals.{wire_number}

abbrev pub tx_number : TxFault → ℕ
tx_number txn.Short = 20
tx_number txn.LongForm = 21
tx_number txn.TooLarge = 22
tx_number txn.Memory = 1

-- why a part isn't read: for its fault, or for lack of memory
abbrev pub IsRefusal : {X : Type 0} → Result (X × List ℕ) WireFault → ℕ → Type 0
IsRefusal (Ok found) code = code ≡ 1
IsRefusal (Err fault) code = (code ≡ wire_number fault) ⊎ (code ≡ 1)

-- a line can't be read, which is reported, or memory ran out
abbrev pub IsNoTable : List (List ℕ) → ℕ → ℕ → ℕ → Type 0
IsNoTable ls before line code = ((code ≡ 3) × IsFirstBad ls line) ⊎ ((code ≡ 1) × (line ≡ before))
