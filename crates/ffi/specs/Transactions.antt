-- What is reported about a transaction.
use Rattle.std.specs.Prelude.{◌≡◌, ℕ, ◌-◌, ◌^◌, ◌==◌, ◌&&◌, ◌⊎◌, not, nat_lt, if◌then◌else◌, List, length, map, min}
use Rattle.txn.specs.Tx.{Tx}
use Rattle.txn.specs.Check.{is_coinbase, tx_rules}
use Rattle.txn.specs.First.{first_broken}
use Rattle.txn.specs.Grammar.{transaction}
use Rattle.txn.specs.Identity.{id_of}
use Rattle.rules.specs.Alone.{tx_sigops}
use Rattle.locks.specs.Relative.{are_met}
use Rattle.locks.specs.declared.relative.LockStart.{LockStart}
use Rattle.ffi.specs.declared.shown.ShownTx.{ShownTx}
use Rattle.ffi.specs.declared.shown.Start.{Start}
use Rattle.ffi.specs.Refusals.{bit, broken_number}

-- the highest number of 64 bits is given for all above it too
abbrev pub counted : ℕ → ℕ
counted n = min n (2 ^ 64 - 1)

pub record ShowsTx (tx : Tx) (shown : ShownTx) : Type 0 where
  pub id : shown.id.bytes ≡ (id_of tx).0
  pub size : shown.size ≡ length (transaction.spell tx)
  pub inputs : shown.inputs ≡ length tx.inputs
  pub outputs : shown.outputs ≡ length tx.outputs
  pub sigops : shown.sigops ≡ counted (tx_sigops tx)
  pub version : shown.version ≡ tx.version
  pub lock_time : shown.lock_time ≡ tx.lock_time
  pub coinbase : shown.coinbase ≡ bit (is_coinbase tx)
  pub reason : shown.reason ≡ broken_number (first_broken (tx_rules tx))

-- ---- Bitcoin Core's rule of sizes

-- a transaction has at most so many bytes without witnesses (`MAX_BLOCK_WEIGHT / WITNESS_SCALE_FACTOR`)
abbrev pub max_tx_size : ℕ
max_tx_size = 1000000

-- Whether it has more is the third rule of `CheckTransaction`, behind that it has inputs and that it has outputs; 30 is
-- `bad-txns-oversize`. The other rules are those that it obeys by itself.
abbrev pub core_number : Tx → ℕ
core_number tx =
    if not (length tx.inputs == 0) && not (length tx.outputs == 0) && nat_lt max_tx_size (length (transaction.spell tx)) then 30
    else broken_number (first_broken (tx_rules tx))

-- ---- locks

abbrev pub start_of : Start → LockStart
start_of s = record { height = s.height; median = s.median }

-- there is a start for each input, and the answer is whether all locks are met; or the numbers differ
abbrev pub AreLocksTold : Tx → List Start → ℕ → ℕ → ℕ → Type 0 → ℕ → Type 0
AreLocksTold tx starts height cutoff met kept result =
    ((length starts ≡ length tx.inputs) × (result ≡ 0) × (met ≡ bit (are_met tx (map start_of starts) height cutoff)))
    ⊎ ((length starts ≡ length tx.inputs → ⊥) × (result ≡ 25) × kept)
