-- A block whose transactions have inputs has one spelling without witnesses, and is read the same with them.
use Rattle.std.proofs.Common.{◌≡◌, ◌++◌, true, false, ℕ, List, [], ◌∷◌, length, Some, refl, sym, ap, ◌∙◌}
use Rattle.std.specs.List.{AllByRecursion, flat_map}
use Rattle.wire.specs.Grammar.{IsBytes}
use Rattle.wire.specs.Numbers.{compact_size}
use Rattle.txn.specs.Tx.{Tx}
use Rattle.txn.specs.Grammar.{transaction}
use Rattle.txn.specs.WitnessGrammar.{witness_transaction}
use Rattle.txn.specs.laws.WitnessReader.{lawful_in_both}
use Rattle.block.specs.declared.block.Block.{Block}
use Rattle.block.specs.Grammar.{header, block_by}
use Rattle.block.specs.BlockOfBytes.{block_of_bytes, block_of_bytes_by}
use Rattle.block.specs.laws.BlockBytes.{decoded-spelled}
use Rattle.block.proofs.BlockBytes.{decoded-is-spelled}

abbrev pub HasInputs : Tx → Type 0
HasInputs t = ¬ (t.inputs ≡ [])

each_lawful : (txs : List Tx) → AllByRecursion HasInputs txs → AllByRecursion transaction.Lawful txs → AllByRecursion witness_transaction.Lawful txs
each_lawful [] some lawful = tt
each_lawful (t ∷ txs) some lawful = ((lawful_in_both t some.0 lawful.0).0, each_lawful txs some.1 lawful.1)

each_spelled : (txs : List Tx) → AllByRecursion HasInputs txs → AllByRecursion transaction.Lawful txs → flat_map witness_transaction.spell txs ≡ flat_map transaction.spell txs
each_spelled [] some lawful = refl
each_spelled (t ∷ txs) some lawful = λ j. (lawful_in_both t some.0 lawful.0).1 j ++ each_spelled txs some.1 lawful.1 j

pub read_same : (bytes : List ℕ) (b : Block) → IsBytes bytes → block_of_bytes bytes ≡ Some b → AllByRecursion HasInputs b.txs → block_of_bytes_by true bytes ≡ Some b
read_same bytes b fits read some =
    let old = decoded-is-spelled false bytes b fits read in
    let each : AllByRecursion transaction.Lawful b.txs = old.0.1.1.1 in
    let lawful : (block_by true).Lawful b = (old.0.0, (old.0.1.0, (old.0.1.1.0, each_lawful b.txs some each))) in
    let same : (block_by true).spell b ≡ (block_by false).spell b = ap (λ (txs : List ℕ). header.spell b.header ++ (compact_size (length b.txs) ++ txs)) (each_spelled b.txs some each) in
    decoded-spelled true bytes b lawful (old.1 ∙ sym same)
