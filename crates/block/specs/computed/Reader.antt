-- Reading from left to right, with the first fault that is met.
use Rattle.std.specs.Prelude.{Ok, Bool, false}
use Rattle.wire.specs.computed.Reader.{◌>>=◌, Part, piece_at, number_at, i32_at, counted_at}
use Rattle.txn.specs.computed.WitnessReader.{tx_by_at}
use Rattle.hash.specs.declared.id.Id.{Id}
use Rattle.block.specs.declared.header.Header.{Header}
use Rattle.block.specs.declared.block.Block.{Block}

unfoldable pub id_at : Part Id
id_at bytes = do
  x ← piece_at 32 bytes
  Ok (record { 0 = x.0 }, x.1)

unfoldable pub header_at : Part Header
header_at bytes = do
  version ← i32_at bytes
  prev ← id_at version.1
  root ← id_at prev.1
  time ← number_at 4 root.1
  bits ← number_at 4 time.1
  nonce ← number_at 4 bits.1
  Ok (record { version = version.0; prev = prev.0; root = root.0; time = time.0; bits = bits.0; nonce = nonce.0 }, nonce.1)

unfoldable pub block_by_at : Bool → Part Block
block_by_at has_flag bytes = do
  header ← header_at bytes
  txs ← counted_at (tx_by_at has_flag) header.1
  Ok (record { header = header.0; txs = txs.0 }, txs.1)

abbrev pub block_at : Part Block
block_at = block_by_at false
