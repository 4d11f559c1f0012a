-- Reading decides the grammar of blocks.
use Rattle.std.proofs.Common.{Bool, false, ℕ, List, refl}
use Rattle.std.specs.Prelude.{ℤ}
use Rattle.wire.specs.Grammar.{piece, number, signed32, pair, counted_list}
use Rattle.wire.specs.computed.Reader.{Part, piece_at, number_at, i32_at, counted_at}
use Rattle.wire.specs.laws.Reader.{Decides, both, made, wide4, piece_decides, number_decides, signed32_decides, pair_decides, fields_decides, along, bind_assoc}
use Rattle.wire.specs.laws.Counts.{counted_decides}
use Rattle.hash.specs.declared.id.Id.{Id}
use Rattle.txn.specs.Tx.{Tx}
use Rattle.txn.specs.WitnessGrammar.{transaction_by}
use Rattle.txn.specs.computed.WitnessReader.{tx_by_at}
use Rattle.txn.specs.laws.WitnessReader.{transaction_by_decides}
use Rattle.block.specs.declared.header.Header.{Header}
use Rattle.block.specs.declared.block.Block.{Block}
use Rattle.block.specs.Grammar.{id, header, block_by, block}
use Rattle.block.specs.computed.Reader.{id_at, header_at, block_by_at, block_at}

pub id_decides : Decides id id_at
unfolding id_at
id_decides =
    let to : List ℕ → Id = λ x. record { 0 = x } in
    fields_decides (piece 32) (piece_at 32) to (λ x. x.0) (piece_decides 32) (λ y. refl) (λ x. refl)

pub header_decides : Decides header header_at
unfolding header_at
header_decides =
    let to : ℤ × (Id × (Id × (ℕ × (ℕ × ℕ)))) → Header = λ p. record { version = p.0; prev = p.1.0; root = p.1.1.0; time = p.1.1.1.0; bits = p.1.1.1.1.0; nonce = p.1.1.1.1.1 } in
    let words = number_decides 4 wide4 in
    let two = pair_decides (number 4) (number 4) (number_at 4) (number_at 4) words words in
    let three = pair_decides (number 4) (pair (number 4) (number 4)) (number_at 4) (both (number_at 4) (number_at 4)) words two in
    let four = pair_decides id (pair (number 4) (pair (number 4) (number 4))) id_at (both (number_at 4) (both (number_at 4) (number_at 4))) id_decides three in
    let five = pair_decides id (pair id (pair (number 4) (pair (number 4) (number 4)))) id_at (both id_at (both (number_at 4) (both (number_at 4) (number_at 4)))) id_decides four in
    let six = pair_decides signed32 (pair id (pair id (pair (number 4) (pair (number 4) (number 4))))) i32_at (both id_at (both id_at (both (number_at 4) (both (number_at 4) (number_at 4))))) signed32_decides five in
    let parts : Part (ℤ × (Id × (Id × (ℕ × (ℕ × ℕ))))) = both i32_at (both id_at (both id_at (both (number_at 4) (both (number_at 4) (number_at 4))))) in
    along header (made to parts) header_at
    (fields_decides (pair signed32 (pair id (pair id (pair (number 4) (pair (number 4) (number 4)))))) parts to (λ h. (h.version, (h.prev, (h.root, (h.time, (h.bits, h.nonce)))))) six (λ y. refl) (λ x. refl))
    (λ bytes. simp bind_assoc)

pub block_by_decides : (by : Bool) → Decides (block_by by) (block_by_at by)
unfolding block_by_at
block_by_decides by =
    let to : Header × List Tx → Block = λ p. record { header = p.0; txs = p.1 } in
    let txs : Part (List Tx) = counted_at (tx_by_at by) in
    let parts : Part (Header × List Tx) = both header_at txs in
    along (block_by by) (made to parts) (block_by_at by)
    (fields_decides (pair header (counted_list (transaction_by by))) parts to (λ b. (b.header, b.txs))
    (pair_decides header (counted_list (transaction_by by)) header_at txs header_decides (counted_decides (transaction_by by) (tx_by_at by) (transaction_by_decides by)))
    (λ y. refl) (λ x. refl))
    (λ bytes. simp bind_assoc)

pub block_decides : Decides block block_at
block_decides = block_by_decides false
