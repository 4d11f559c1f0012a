use Rattle.std.proofs.Common.{◌≡◌, ◌∷◌, map, take, replicate}
use Rattle.txn.specs.Weight.{witness_id_of}
use Rattle.txn.proofs.block_ids.witness_ids.Given as goal

abbrev pub invariant-loop-tx : goal.invariant-loop-tx
invariant-loop-tx l = l.ids.items ≡ record { 0 = replicate 32 0 } ∷ map witness_id_of (take l.tx-index l.others)
