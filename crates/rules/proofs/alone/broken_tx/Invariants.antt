use Rattle.std.proofs.Common.{◌≡◌, drop}
use Rattle.std.specs.List.{flat_map}
use Rattle.txn.specs.Check.{tx_rules}
use Rattle.txn.specs.First.{first_broken}
use Rattle.rules.proofs.alone.broken_tx.Given as goal

-- the rules of the transactions to come are those of all
abbrev pub invariant-loop-tx : goal.invariant-loop-tx
invariant-loop-tx l = first_broken (flat_map tx_rules l.txs) ≡ first_broken (flat_map tx_rules (drop l.tx-index l.txs))
