-- The tests for equality pass exactly what is equal.
use Rattle.std.proofs.Common.{◌≡◌, List, ap}
use Rattle.std.specs.Prelude.{Decides}
use Rattle.std.proofs.lemmas.Bool.Decides.{Decides-eqb, Decides-int_eq, Decides-and, Decides-like}
use lib.Pointwise.{pointwise_decides, bytes_decides}
use Rattle.hash.specs.declared.id.Id.{Id}
use Rattle.hash.specs.Id.{same_id}
use Rattle.txn.specs.Tx.{Tx}
use Rattle.txn.specs.laws.Equality.{same_tx-decides}
use Rattle.block.specs.declared.header.Header.{Header}
use Rattle.block.specs.declared.block.Block.{Block}
use Rattle.block.specs.Equality.{same_header, same_txs, same_block}

pub same_id-decides : (a b : Id) → Decides (same_id a b) (a ≡ b)
same_id-decides a b = Decides-like (same_id a b) (λ e i. record { 0 = e i }) (λ e. ap (λ x. x.0) e) (bytes_decides a.0 b.0)

pub same_header-decides : (a b : Header) → Decides (same_header a b) (a ≡ b)
same_header-decides a b =
    Decides-like (same_header a b)
    (λ e i. record { version = e.0.0.0.0.0 i; prev = e.0.0.0.0.1 i; root = e.0.0.0.1 i; time = e.0.0.1 i; bits = e.0.1 i; nonce = e.1 i })
    (λ e. (((((ap (λ h. h.version) e, ap (λ h. h.prev) e), ap (λ h. h.root) e), ap (λ h. h.time) e), ap (λ h. h.bits) e), ap (λ h. h.nonce) e))
    (Decides-and _ _ (Decides-and _ _ (Decides-and _ _ (Decides-and _ _ (Decides-and _ _ (Decides-int_eq a.version b.version) (same_id-decides a.prev b.prev)) (same_id-decides a.root b.root)) (Decides-eqb a.time b.time)) (Decides-eqb a.bits b.bits)) (Decides-eqb a.nonce b.nonce))

pub same_txs-decides : (a b : List Tx) → Decides (same_txs a b) (a ≡ b)
same_txs-decides = pointwise_decides same_tx-decides

pub same_block-decides : (a b : Block) → Decides (same_block a b) (a ≡ b)
same_block-decides a b =
    Decides-like (same_block a b) (λ e i. record { header = e.0 i; txs = e.1 i }) (λ e. (ap (λ x. x.header) e, ap (λ x. x.txs) e))
    (Decides-and _ _ (same_header-decides a.header b.header) (same_txs-decides a.txs b.txs))
