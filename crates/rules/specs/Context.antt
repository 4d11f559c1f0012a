-- The rules that a block obeys by its place in the tree.
use Rattle.std.specs.Prelude.{ℕ, ◌+◌, ◌&&◌, List, [], ◌∷◌, length, nat_le, pos, if◌then◌else◌, ◌==◌, not, nat_lt, ◌++◌}
use Rattle.script.specs.Num.{shortest_bytes}
use Rattle.std.specs.List.{list_all, starts_with}
use Rattle.txn.specs.Tx.{Tx}
use Rattle.txn.specs.declared.reason.Reason.TheVariants.{WrongBits, TimeTooOld, TimeTooNew, BadVersion, NonFinal, CoinbaseHeight}
use Rattle.block.specs.declared.header.Header.{Header}
use Rattle.block.specs.declared.block.Block.{Block}
use Rattle.locks.specs.Finality.{is_final}
use Rattle.rules.specs.declared.in_force.InForce.{InForce}
use Rattle.txn.specs.Check.{first_script}
use Rattle.txn.specs.First.{Rules}
use Rattle.rules.specs.Params.{is_outdated}

-- OP_1 to OP_16 for 1 to 16, and else a push of the shortest number
unfoldable pub height_push : ℕ → List ℕ
height_push height =
    if nat_le 1 height && nat_le height 16 then (0x50 + height) ∷ [] else length (shortest_bytes (pos height)) ∷ shortest_bytes (pos height)

-- regtest's target, in its compact form
abbrev pub regtest_bits : ℕ
regtest_bits = 0x207fffff

-- by how many seconds a header's time may be above the clock's (`MAX_FUTURE_BLOCK_TIME`)
abbrev pub max_future_block_time : ℕ
max_future_block_time = 7200

-- of a header, where the cutoff is its parent's median time past
abbrev pub header_rules : InForce → Header → ℕ → ℕ → Rules
header_rules rules header cutoff now =
    (not (header.bits == regtest_bits), WrongBits)
    ∷ (nat_le header.time cutoff, TimeTooOld)
    ∷ (nat_lt (now + max_future_block_time) header.time, TimeTooNew)
    ∷ (is_outdated rules header.version, BadVersion)
    ∷ []

-- the script of the first transaction's first input
abbrev pub coinbase_script : List Tx → List ℕ
coinbase_script [] = []
coinbase_script (coinbase ∷ txs) = first_script coinbase.inputs

-- of the transactions of a block at a height
abbrev pub place_rules : InForce → Block → ℕ → ℕ → Rules
place_rules rules block height cutoff =
    (not (list_all (λ tx. is_final tx height cutoff) block.txs), NonFinal)
    ∷ (rules.bip34 && not (starts_with (λ x y. x == y) (coinbase_script block.txs) (height_push height)), CoinbaseHeight)
    ∷ []

-- BIP 113: with what a lock time that is a time is compared, where this is the parent's median time past
abbrev pub finality_cutoff : InForce → Header → ℕ → ℕ
finality_cutoff rules header median = if rules.csv then median else header.time

-- of the header, and then of the transactions (`ContextualCheckBlockHeader`, `ContextualCheckBlock`)
abbrev pub context_rules : InForce → Block → ℕ → ℕ → ℕ → Rules
context_rules rules block height median now =
    header_rules rules block.header median now
    ++ place_rules rules block height (finality_cutoff rules block.header median)
