use Rattle.std.proofs.Common.{◌≡◌, ◌-◌, true, length, map, reverse, drop, None}
use Rattle.std.specs.Prelude.{IfSome}
use Rattle.signatures.specs.Known.{Under}
use Rattle.model.specs.Valid.{branch_connects}
use Rattle.model.specs.Regtest.{regtest}
use Rattle.activate.specs.Lookups.{undo_at}
use Rattle.activate.specs.Wants.{AreJoined}
use Rattle.activate.specs.inside.Ascents.{top_of, AreWantedAbove, IsApplied}
use Rattle.activate.proofs.ascent.connect_up.Given as goal

abbrev pub invariant-loop-passed : goal.invariant-loop-passed
invariant-loop-passed g l =
    let t = l.active_branch.tree.now.blocks in
    let rest = drop (length l.up - l.passed) l.up in record {
      spent : l.ascent.undo.items ≡ reverse (map (undo_at t) rest);
      good : l.wants ≡ None → Under (g.S.RunsScripts.known l.env) (λ triples. branch_connects (regtest l.active_branch.params.now triples) t (top_of l.path.fork rest) ≡ true);
      applied : IsApplied t (top_of l.path.fork rest) l.initial.ascent.layer.base l.ascent.layer l.ascent.medians;
      wanted : IfSome l.wants (λ stop. IfSome (g.S.RunsScripts.told stop)
          (AreJoined (AreWantedAbove l.active_branch.params.now t l.path.fork (top_of l.path.fork l.path.up.items) (g.S.RunsScripts.known l.env))));
    }
