use Rattle.std.proofs.Common.{◌≡◌, not, drop}
use Rattle.std.specs.List.{list_all}
use Rattle.reference.specs.inside.Replay.{is_flagged}
use Rattle.reference.proofs.judgement.has_none.Given as goal

abbrev pub invariant-loop-index : goal.invariant-loop-index
invariant-loop-index l = list_all (λ x. not (is_flagged l.flags x)) (drop l.index l.places) ≡ list_all (λ x. not (is_flagged l.flags x)) l.places
