-- What C keeps between two calls: nothing, or what a box of a session, of a transaction or of a set of coins owns.
use base.Fml.{Fml, ftrue}
use denote.RawPtr.{Ptr}
use Rattle.std.specs.Prelude.{Option, None, Some}
use Rattle.std.specs.Box.Ownership.{box_owns}
use Rattle.std.specs.Global.{Global}
use Rattle.std.specs.contracts.impls.GlobalAllocator.TheImpl.{ghosts}
use Rattle.sighash.specs.contracts.precomputed_tx.PrecomputedTx as tx
use Rattle.ffi.specs.contracts.session.Session.{the_row}
use Rattle.ffi.specs.contracts.utxo.Utxo as utxo

-- nothing, or the box at an address
abbrev pub kept_owns : Global → Ptr → Option the_row.Denot → Fml
kept_owns alloc at None = ftrue
kept_owns alloc at (Some x) = box_owns (ghosts.dealloc_token alloc) the_row at x

abbrev pub kept_tx_owns : Global → Ptr → Option tx.the_row.Denot → Fml
kept_tx_owns alloc at None = ftrue
kept_tx_owns alloc at (Some x) = box_owns (ghosts.dealloc_token alloc) tx.the_row at x

abbrev pub kept_utxo_owns : Global → Ptr → Option utxo.the_row.Denot → Fml
kept_utxo_owns alloc at None = ftrue
kept_utxo_owns alloc at (Some x) = box_owns (ghosts.dealloc_token alloc) utxo.the_row at x
