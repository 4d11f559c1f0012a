-- Midstates of several transactions.
use Rattle.std.specs.Prelude.{◌≡◌, ℕ, List, Some, slice_get}
use Rattle.txn.specs.Tx.{Tx}
use Rattle.sighash.specs.declared.midstates.Midstates.{Midstates}

-- each is of the transaction at its place
abbrev pub AreOf : List Tx → List Midstates → Type 0
AreOf txs list = (place : ℕ) (midstates : Midstates) → slice_get list place ≡ Some midstates → slice_get txs place ≡ Some midstates.tx.now
