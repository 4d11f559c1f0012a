-- They are of the steps before this one.
use Rattle.std.proofs.Common.{◌≡◌, map, take}
use Rattle.server.specs.inside.Lists.{AreSteps, text_json}
use Rattle.server.proofs.lists.texts_of.Given as goal

abbrev pub invariant-loop-place : goal.invariant-loop-place
invariant-loop-place l = AreSteps l.fn.first (take l.place l.entries) (map text_json l.texts.items)
