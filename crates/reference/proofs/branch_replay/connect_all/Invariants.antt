use Rattle.std.proofs.Common.{◌≡◌, ◌-◌, length, drop}
use Rattle.reference.specs.declared.branch_replay.Trial.TheVariants.{Valid}
use Rattle.model.specs.Replay.{replay}
use Rattle.model.specs.Regtest.{ledger}
use Rattle.reference.specs.inside.Replay.{chain_rules, blocks_in, trial_on}
use Rattle.reference.proofs.branch_replay.connect_all.Given as goal

abbrev pub invariant-loop-height : goal.invariant-loop-height
invariant-loop-height l = record {
  coins : l.coins.coins ≡ replay ledger (drop (length l.branch - l.height) (blocks_in l.held l.branch));
  trial : trial_on (chain_rules l.chain) (drop (length l.branch - l.height) (blocks_in l.held l.branch)) ≡ Valid;
}
