-- Reading from left to right, with the first fault that is met.
use Rattle.std.specs.Prelude.{Ok, []}
use Rattle.wire.specs.computed.Reader.{◌>>=◌, Part, piece_at, number_at, i32_at, i64_at, counted_at, sized_at}
use Rattle.txn.specs.declared.outpoint.OutPoint.{OutPoint}
use Rattle.txn.specs.declared.input.TxIn.{TxIn}
use Rattle.txn.specs.declared.output.TxOut.{TxOut}
use Rattle.txn.specs.Tx.{Tx}

unfoldable pub outpoint_at : Part OutPoint
outpoint_at bytes = do
  id ← piece_at 32 bytes
  index ← number_at 4 id.1
  Ok (record { id = record { 0 = id.0 }; index = index.0 }, index.1)

unfoldable pub tx_in_at : Part TxIn
tx_in_at bytes = do
  prev ← outpoint_at bytes
  script ← sized_at prev.1
  sequence ← number_at 4 script.1
  Ok (record { prev = prev.0; script = script.0; sequence = sequence.0 }, sequence.1)

unfoldable pub tx_out_at : Part TxOut
tx_out_at bytes = do
  value ← i64_at bytes
  script ← sized_at value.1
  Ok (record { value = value.0; script = script.0 }, script.1)

unfoldable pub tx_at : Part Tx
tx_at bytes = do
  version ← i32_at bytes
  inputs ← counted_at tx_in_at version.1
  outputs ← counted_at tx_out_at inputs.1
  lock_time ← number_at 4 outputs.1
  Ok (record { version = version.0; inputs = inputs.0; outputs = outputs.0; lock_time = lock_time.0; witnesses = [] }, lock_time.1)
