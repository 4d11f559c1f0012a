-- How what C keeps is stored.
use base.Stored.{Coded}
use Rattle.std.specs.Prelude.{Option}
use Rattle.std.specs.Coded.{coded_option}
use Rattle.sighash.specs.contracts.precomputed_tx.PrecomputedTx as tx
use Rattle.ffi.specs.contracts.session.Session.{the_row}
use Rattle.ffi.specs.contracts.utxo.Utxo as utxo

-- nothing, or a session
abbrev pub kept_coded : Coded (Option the_row.Denot)
kept_coded = coded_option the_row.coded

-- nothing, or a transaction
abbrev pub kept_tx_coded : Coded (Option tx.the_row.Denot)
kept_tx_coded = coded_option tx.the_row.coded

-- nothing, or a set of coins
abbrev pub kept_utxo_coded : Coded (Option utxo.the_row.Denot)
kept_utxo_coded = coded_option utxo.the_row.coded
