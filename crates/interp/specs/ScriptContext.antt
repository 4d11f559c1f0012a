-- What a script can look at beside its stacks: the transaction, the number of the input, the rules in force, and the
-- valid signatures.
use Rattle.std.specs.Prelude.{ℕ, slice_get}
use Rattle.std.specs.Option.{option_map_or}
use Rattle.txn.specs.Tx.{Tx}
use Rattle.signatures.specs.Triple.{Triples}
use Rattle.interp.specs.declared.flags.Flags.{Flags}

pub record Spending : Type 0 where
  pub tx : Tx
  pub input : ℕ
  pub flags : Flags
  pub triples : Triples

abbrev pub spending_of : Tx → ℕ → Flags → Triples → Spending
spending_of tx input flags triples = record { tx = tx; input = input; flags = flags; triples = triples }

-- the sequence number of the input
abbrev pub sequence_of : Tx → ℕ → ℕ
sequence_of tx input = option_map_or (λ own. own.sequence) (slice_get tx.inputs input) 0
