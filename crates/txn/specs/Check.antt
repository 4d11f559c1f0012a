-- The rules that a transaction obeys by itself (Bitcoin Core's `CheckTransaction`).
use Rattle.std.specs.Prelude.{ℕ, ◌*◌, ◌==◌, ◌&&◌, ◌||◌, Bool, false, not, nat_le, ℤ, pos, ◌+ℤ◌, int_lt, List, [], ◌∷◌, ◌++◌, length, fold, map}
use Rattle.std.specs.List.{list_any}
use Rattle.txn.specs.declared.outpoint.OutPoint.{OutPoint}
use Rattle.txn.specs.declared.input.TxIn.{TxIn}
use Rattle.txn.specs.declared.output.TxOut.{TxOut}
use Rattle.txn.specs.Tx.{Tx}
use Rattle.txn.specs.declared.reason.Reason.TheVariants.{NoInputs, NoOutputs, OutputNegative, OutputTooLarge, OutputSumTooLarge, DuplicateInputs, CoinbaseLength, NullPrevout}
pub use Rattle.txn.specs.Coinbase.{is_null, is_only_null, is_coinbase}
pub use Rattle.txn.specs.Equality.{same_outpoint}
use Rattle.txn.specs.First.{Rules}

-- all the money there can be: 21 million coins of 10^8 satoshis (`MAX_MONEY`)
abbrev pub max_money : ℤ
max_money = pos (21000000 * 100000000)

-- one outpoint is at two places
abbrev pub has_twice : List OutPoint → Bool
has_twice [] = false
has_twice (p ∷ ps) = list_any (same_outpoint p) ps || has_twice ps

-- the outpoints that inputs spend
abbrev pub prevs : List TxIn → List OutPoint
prevs inputs = map (λ input. input.prev) inputs

-- the script of the first input
abbrev pub first_script : List TxIn → List ℕ
first_script [] = []
first_script (input ∷ inputs) = input.script

-- the bytes that a coinbase's script has at least, and at most
abbrev pub min_coinbase_script : ℕ
min_coinbase_script = 2

abbrev pub max_coinbase_script : ℕ
max_coinbase_script = 100

abbrev pub fits_coinbase : List ℕ → Bool
fits_coinbase script = nat_le min_coinbase_script (length script) && nat_le (length script) max_coinbase_script

-- the sum of the values of outputs
abbrev pub total : List TxOut → ℤ
total outputs = fold (λ sum output. sum +ℤ output.value) (pos 0) outputs

-- of each output that comes after those before it
abbrev pub output_rules : List TxOut → List TxOut → Rules
output_rules before [] = []
output_rules before (output ∷ outputs) =
    (int_lt output.value (pos 0), OutputNegative)
    ∷ (int_lt max_money output.value, OutputTooLarge)
    ∷ (int_lt max_money (total (before ++ output ∷ [])), OutputSumTooLarge)
    ∷ output_rules (before ++ output ∷ []) outputs

-- of a transaction
unfoldable pub tx_rules : Tx → Rules
tx_rules tx =
    (length tx.inputs == 0, NoInputs)
    ∷ (length tx.outputs == 0, NoOutputs)
    ∷ output_rules [] tx.outputs
    ++ (has_twice (prevs tx.inputs), DuplicateInputs)
    ∷ (is_coinbase tx && not (fits_coinbase (first_script tx.inputs)), CoinbaseLength)
    ∷ (not (is_coinbase tx) && list_any (λ input. is_null input.prev) tx.inputs, NullPrevout)
    ∷ []
