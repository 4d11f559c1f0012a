-- The first 80 bytes of a block spell its header.
use Rattle.std.proofs.Common.{◌≡◌, ℕ, ◌≤◌, List, ◌++◌, length, take, refl, sym, ap, ◌∙◌, arith}
use Rattle.std.proofs.lemmas.List.{length-append}
use Rattle.std.proofs.Math.Seq.{take-append_seam}
use Rattle.wire.specs.Grammar.{counted_list, number}
use Rattle.wire.specs.Numbers.{i32le}
use Rattle.txn.specs.Grammar.{transaction}
use Rattle.block.specs.declared.block.Block.{Block}
use Rattle.block.specs.declared.header.Header.{Header}
use Rattle.block.specs.Genesis as genesis
use Rattle.block.specs.Grammar.{block, header}
use Rattle.activate.specs.inside.Headers.{IsHeaderAtFront}

header_long : (h : Header) → header.Lawful h → length (header.spell h) ≡ 80
header_long h lawful =
    let numbers = (number 4).spell h.time ++ ((number 4).spell h.bits ++ (number 4).spell h.nonce) in
    let prev : length h.prev.0 ≡ 32 = lawful.1.0.0 in
    let root : length h.root.0 ≡ 32 = lawful.1.1.0.0 in
    omega (
      arith,
      length-append (i32le h.version) (h.prev.0 ++ (h.root.0 ++ numbers)),
      length-append h.prev.0 (h.root.0 ++ numbers),
      length-append h.root.0 numbers,
    )

pub at_front : (b : Block) (bytes : List ℕ) → block.Lawful b → bytes ≡ block.spell b → IsHeaderAtFront b.header bytes
at_front b bytes lawful e = (header_long b.header lawful.0, ((counted_list transaction).spell b.txs, e))

pub genesis_at_front : (bytes : List ℕ) → bytes ≡ block.spell genesis.genesis → IsHeaderAtFront genesis.header bytes
genesis_at_front bytes e = (refl, ((counted_list transaction).spell (genesis.genesis).txs, e))

pub front_is : (h : Header) (bytes : List ℕ) → IsHeaderAtFront h bytes → take 80 bytes ≡ header.spell h
front_is h bytes is =
    ap (take 80) is.1.1 ∙ ap (λ n. take n (header.spell h ++ is.1.0)) (sym is.0) ∙ take-append_seam (header.spell h) is.1.0

pub front_long : (h : Header) (bytes : List ℕ) → IsHeaderAtFront h bytes → 80 ≤ length bytes
front_long h bytes is =
    let own = is.0 in
    let all = ap (λ (l : List ℕ). length l) is.1.1 in
    omega (arith, length-append (header.spell h) is.1.0)
