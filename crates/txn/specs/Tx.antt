-- A transaction, as clauses see it.
use Rattle.std.specs.Prelude.{ℕ, ℤ, List}
use Rattle.txn.specs.declared.input.TxIn.{TxIn}
use Rattle.txn.specs.declared.output.TxOut.{TxOut}

-- a stack of strings of bytes, the bottom first (BIP 141)
abbrev pub Witness : Type 0
Witness = List (List ℕ)

pub record Tx : Type 0 where
  pub version : ℤ
  pub inputs : List TxIn
  pub outputs : List TxOut
  pub lock_time : ℕ
  -- none, or one for each input
  pub witnesses : List Witness
