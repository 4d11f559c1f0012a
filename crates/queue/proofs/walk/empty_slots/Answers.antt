use Rattle.std.proofs.Common.{◌+◌, None, length, subst, sym, ap, ◌∙◌}
use Rattle.std.proofs.lemmas.List.{length_push}
use Rattle.queue.specs.inside.Walk.{AreRight}
use Rattle.queue.proofs.Walks.{right-next}
use Rattle.queue.proofs.walk.empty_slots.Goals as goal

pub loop-preserved : goal.loop-preserved
loop-preserved g c = record {
  right = subst (AreRight (g.C.Places.verdict c.args._list.now)) (sym c.in_ok-push.ensures.items) (right-next _ c.loop.slots.items c.loop.invariant.right);
  count = ap length c.in_ok-push.ensures.items ∙ length_push c.loop.slots.items None ∙ ap (λ n. n + 1) c.loop.invariant.count;
}
