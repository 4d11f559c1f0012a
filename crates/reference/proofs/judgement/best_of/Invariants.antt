use Rattle.std.proofs.Common.{◌≡◌, ◌-◌, ◌<◌, true, length}
use Rattle.signatures.specs.Triple.{Triples}
use Rattle.rules.specs.declared.params.Params.{Params}
use Rattle.block.specs.declared.block.Block.{Block}
use Rattle.tree.specs.State.{State, has_no_mark}
use Rattle.tree.specs.Sound.{IsBest}
use Rattle.model.specs.Settle.{can_be_active}
use Rattle.model.specs.Regtest.{regtest}
use Rattle.reference.specs.inside.Replay.{AreJudgements}
use Rattle.reference.proofs.judgement.best_of.Given as goal

abbrev pub invariant-loop-place : goal.invariant-loop-place
invariant-loop-place l = record {
  kept : l.best < length l.judged;
  before : l.best < l.place;
  best : (params : Params) (triples : Triples) (s : State Block) → AreJudgements (regtest params triples) s l.judged → has_no_mark s 0 ≡ true → IsBest s (can_be_active (regtest params triples) s) (l.place - 1) l.best;
}
