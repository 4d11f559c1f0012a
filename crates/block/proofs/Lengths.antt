-- The bytes of a spelling are those of its parts.
use Rattle.std.proofs.Common.{◌≡◌, Bool, ◌+◌, ◌++◌, length, length-append, sum_by, arith}
use Rattle.std.specs.List.{flat_map}
use Rattle.std.proofs.lemmas.List.Concat.{length-flat_map}
use Rattle.wire.specs.Numbers.{compact_size, i32le}
use Rattle.wire.specs.Grammar.{counted_list}
use Rattle.byteorder.specs.Endian.{little_bytes}
use Rattle.txn.specs.WitnessGrammar.{transaction_by}
use Rattle.block.specs.declared.header.Header.{Header}
use Rattle.block.specs.declared.block.Block.{Block}
use Rattle.block.specs.Grammar.{header}
use Rattle.block.specs.Sizes.{size_by}

of_header : (h : Header) → length (header.spell h) ≡ length h.prev.0 + length h.root.0 + 16
of_header h =
    let numbers = little_bytes 4 h.time ++ (little_bytes 4 h.bits ++ little_bytes 4 h.nonce) in
    omega (
      arith,
      length-append (i32le h.version) (h.prev.0 ++ (h.root.0 ++ numbers)),
      length-append h.prev.0 (h.root.0 ++ numbers),
      length-append h.root.0 numbers,
    )

pub of_block : (by : Bool) (b : Block) → size_by by b
    ≡ sum_by (λ tx. length ((transaction_by by).spell tx)) b.txs + length (compact_size (length b.txs)) + (length b.header.prev.0 + length b.header.root.0 + 16)
unfolding size_by
of_block by b =
    let each = (transaction_by by).spell in
    omega (
      arith,
      length-append (header.spell b.header) ((counted_list (transaction_by by)).spell b.txs),
      of_header b.header,
      length-append (compact_size (length b.txs)) (flat_map each b.txs),
      length-flat_map each b.txs,
    )
