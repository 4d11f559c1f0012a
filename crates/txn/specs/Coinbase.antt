-- Transactions that make new coins.
use Rattle.std.specs.Prelude.{◌≡◌, ℕ, Bool, false, List, [], ◌∷◌, replicate}
use Rattle.txn.specs.declared.outpoint.OutPoint.{OutPoint}
use Rattle.txn.specs.declared.input.TxIn.{TxIn}
use Rattle.txn.specs.Tx.{Tx}
use Rattle.txn.specs.Equality.{same_outpoint}

-- the index that names no output: the greatest of four bytes
abbrev pub null_index : ℕ
null_index = 4294967295

-- the outpoint that names no output
abbrev pub null : OutPoint
null = record { id = record { 0 = replicate 32 0 }; index = null_index }

-- exactly one input, with the null outpoint (Bitcoin Core's IsCoinBase)
abbrev pub IsCoinbase : Tx → Type 0
IsCoinbase t = (input : TxIn) × (t.inputs ≡ input ∷ []) × (input.prev ≡ null)

-- ---- the same as tests, which definitions can compute with

abbrev pub is_null : OutPoint → Bool
is_null outpoint = same_outpoint outpoint null

abbrev pub is_only_null : List TxIn → Bool
is_only_null [] = false
is_only_null (input ∷ []) = is_null input.prev
is_only_null (input ∷ other ∷ inputs) = false

abbrev pub is_coinbase : Tx → Bool
is_coinbase tx = is_only_null tx.inputs
