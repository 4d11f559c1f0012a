use denote.Shadow.{shadow}
use denote.Text.{Utf8}
use Rattle.std.proofs.Common.{length}
use Rattle.journal.specs.inside.HeightSets.{AreSets}
use Rattle.rules.specs.declared.params.Params.{Params}
use Rattle.journal.proofs.heights.set_each.Given as goal

-- what is left sets what the whole sets
abbrev pub invariant-loop-front : goal.invariant-loop-front
invariant-loop-front l = record {
  rest : shadow (Utf8 l.rest);
  sound : (after : Params) → AreSets l.rest l.params after → AreSets l.text l.fn.before after;
  again : (after : Params) → AreSets l.text l.fn.before after → AreSets l.rest l.params after;
}

abbrev pub decreases-loop-front : goal.decreases-loop-front
decreases-loop-front l = length l.rest
