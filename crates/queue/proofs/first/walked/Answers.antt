use Rattle.std.proofs.Common.{Bool, List, Option, subst, sym}
use Rattle.queue.specs.Jobs.{verdict_at}
use Rattle.queue.specs.Early.{AreAllKnown, AreAskedAt, AreKnown}
use Rattle.queue.proofs.first.walked.Goals as goal

pub invariant_of-list : goal.invariant_of-list
invariant_of-list g c =
    let lent = c.deref-2.ensures.value in
    record {
      inside = c.first_no.ensures.inside;
      right = subst (λ (l : List (Option Bool)). AreKnown (verdict_at (g.S.KnowsSignatures.known c.args.runs.now.by.now) c.args.jobs.now) l) (sym lent) c.in_ok-known.ensures.right;
      all = subst (λ (l : List (Option Bool)). AreAllKnown c.args.runs.now.early.now c.args.jobs.now l) (sym lent) c.in_ok-known.ensures.all;
      inputs = c.requires.inputs;
      before = c.requires.early;
      at_place = subst (λ (l : List Bool). AreAskedAt c.args.runs.now.early.now c.args.jobs.now l) (sym c.deref-3.ensures.value) c.in_ok-asked.ensures;
    }
