use Rattle.std.proofs.Common.{◌≡◌, ℕ, ◌+◌, ◌-◌, ◌^◌, List, length, sum_by, min, ap, arith}
use Rattle.wire.specs.Numbers.{compact_size}
use Rattle.txn.specs.Tx.{Tx}
use Rattle.txn.specs.WitnessGrammar.{transaction_by}
use Rattle.block.specs.Sizes.{size_by}
use Rattle.block.specs.declared.block.Block.{Block}
use Rattle.block.proofs.Lengths.{of_block}
use Rattle.block.proofs.sizes.bytes.Goals as goal

pub returns : goal.returns
returns c =
    let b : Block = c.args.block.now in
    let of : List Tx → ℕ = λ txs. sum_by (λ tx. length ((transaction_by c.args.has_flag).spell tx)) txs in
    let count : List Tx → ℕ = λ txs. length (compact_size (length txs)) in
    let each : of c.as_slice-txs.result.now ≡ of b.txs = ap of c.as_slice-txs.ensures in
    let same : count c.as_slice-txs.result.now ≡ count b.txs = ap count c.as_slice-txs.ensures in
    let parts : size_by c.args.has_flag b ≡ of b.txs + count b.txs + (length b.header.prev.0 + length b.header.root.0 + 16) = of_block c.args.has_flag b in
    let txs : c.txs_size.result ≡ min (of c.as_slice-txs.result.now) (2 ^ 64 - 1) = c.txs_size.ensures in
    let counted : c.count_size.result ≡ count c.as_slice-txs.result.now = c.count_size.ensures.value in
    omega (arith, each, same, parts, txs, counted)
