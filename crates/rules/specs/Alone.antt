-- The rules that a block obeys by itself (Bitcoin Core's `CheckBlock`).
use Rattle.std.specs.Prelude.{ℕ, ◌+◌, ◌==◌, ◌||◌, Bool, false, not, nat_lt, List, [], ◌∷◌, ◌++◌, length, drop, sum_by}
use Rattle.std.specs.List.{list_any, flat_map}
use Rattle.hash.specs.Id.{same_id}
use Rattle.script.specs.Signatures.{sigops}
use Rattle.script.specs.declared.signatures.Counting.TheVariants.{Plain}
use Rattle.txn.specs.Tx.{Tx}
use Rattle.txn.specs.declared.reason.Reason.TheVariants.{HighHash, BadMerkleRoot, DuplicateTransactions, BadBlockLength, CoinbaseMissing, CoinbaseMultiple, TooManySigops}
use Rattle.txn.specs.Check.{is_coinbase, tx_rules}
use Rattle.txn.specs.First.{Rules}
use Rattle.txn.specs.Identity as txn
use Rattle.block.specs.declared.block.Block.{Block}
use Rattle.block.specs.Identity.{id_of}
use Rattle.block.specs.Merkle.{root, twin}
use Rattle.block.specs.Sizes.{size_of}
use Rattle.block.specs.Target.{meets_target}

-- the most bytes of a block (`MAX_BLOCK_BASE_SIZE`, as before segregated witness)
abbrev pub max_block_size : ℕ
max_block_size = 1000000

-- the most signature operations in the scripts of a block (`MAX_BLOCK_SIGOPS`)
abbrev pub max_block_sigops : ℕ
max_block_sigops = 20000

abbrev pub begins_with_coinbase : List Tx → Bool
begins_with_coinbase [] = false
begins_with_coinbase (tx ∷ txs) = is_coinbase tx

-- the signature operations of all scripts of a transaction, whether or not they are run
abbrev pub tx_sigops : Tx → ℕ
tx_sigops tx = sum_by (λ input. sigops Plain input.script) tx.inputs + sum_by (λ output. sigops Plain output.script) tx.outputs

-- of a block
unfoldable pub alone_rules : Block → Rules
alone_rules b =
    (not (meets_target (id_of b.header)), HighHash)
    ∷ (not (same_id b.header.root (root (txn.ids_of b.txs))), BadMerkleRoot)
    ∷ (twin (txn.ids_of b.txs), DuplicateTransactions)
    ∷ ((length b.txs == 0) || nat_lt max_block_size (size_of b), BadBlockLength)
    ∷ (not (begins_with_coinbase b.txs), CoinbaseMissing)
    ∷ (list_any is_coinbase (drop 1 b.txs), CoinbaseMultiple)
    ∷ flat_map tx_rules b.txs
    ++ (nat_lt max_block_sigops (sum_by tx_sigops b.txs), TooManySigops)
    ∷ []
