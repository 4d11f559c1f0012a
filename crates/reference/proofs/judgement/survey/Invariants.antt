use Rattle.std.proofs.Common.{◌≡◌, ℕ, ◌<◌, length, get_or}
use Rattle.reference.specs.declared.judgement.Judgement.{Judgement}
use Rattle.reference.specs.inside.Replay.{chain_rules, judgement_at, state_of_replayed}
use Rattle.reference.proofs.judgement.survey.Given as goal

abbrev pub invariant-loop-place : goal.invariant-loop-place
invariant-loop-place l = record {
  same : length l.judged.items ≡ l.place;
  each : (p : ℕ) (d : Judgement) → p < l.place → get_or l.judged.items p d ≡ judgement_at (chain_rules l.chain) (state_of_replayed l.old) p;
}
