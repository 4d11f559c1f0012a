-- Midstates that are lent from a list.
use Rattle.std.specs.Prelude.{◌≡◌, ℕ, List, length, get_or, Option, Some, None, IfSome}
use Rattle.std.specs.Slice.{IsItemAt}
use Rattle.std.proofs.Common.{Bor, refl, sym}
use Rattle.std.proofs.lemmas.Option.{slice_get_read, get_or_from_slice_get}
use Rattle.txn.specs.Tx.{Tx}
use Rattle.sighash.specs.declared.midstates.Midstates.{Midstates}
use Rattle.sighash.specs.Midstates.{AreOf}

-- those at a place are of the transaction at that place
pub lent_of : (txs : List Tx) (list : List Midstates) (place : ℕ) (found : Option (Bor Midstates)) (d : Tx) → AreOf txs list → IsItemAt list place found → IfSome found (λ m. m.now.tx.now ≡ get_or txs place d)
lent_of txs list place None d each at = tt
lent_of txs list place (Some m) d each at = sym (get_or_from_slice_get txs place m.now.tx.now d (each place m.now (slice_get_read list (length list) place m.now refl at.3.0 at.1)))
