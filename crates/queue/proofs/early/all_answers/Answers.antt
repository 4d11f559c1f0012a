use Rattle.std.proofs.Common.{◌≡◌, ◌+◌, length, sym, ap, subst, ◌∙◌}
use Rattle.std.proofs.lemmas.List.{length_push}
use Rattle.queue.specs.Ahead.{answer_of}
use Rattle.queue.specs.Jobs.{said}
use Rattle.queue.specs.inside.KnownAnswers.{AreSaid, AreWanted, wanted_in}
use Rattle.queue.proofs.JobAnswers.{said-next, wanted-next}
use Rattle.queue.proofs.early.all_answers.Goals as goal

pub loop-place-preserved : goal.loop-place-preserved
loop-place-preserved g c =
    let verdict = g.C.Places.verdict c.args.list.now in
    let v = c.in-Some.verdict in
    let before = c.loop-place.invariant in
    let answers = c.loop-place.found.answers.items in
    let wants = c.loop-place.found.wants.items in
    let is : verdict c.loop-place.place ≡ answer_of v = c.in-Some.ensures.verdict in
    let added = c.in_ok-add.ensures in
    record {
      right = c.take.ensures.slots;
      said = subst (AreSaid verdict) (sym added.answers) (said-next verdict answers c.loop-place.place v before.said before.answers is);
      wanted = subst (AreWanted verdict) (sym added.wants) (wanted-next verdict wants c.loop-place.place v before.wanted before.wants is);
      answers = ap length added.answers ∙ length_push answers (said (answer_of v)) ∙ ap (λ n. n + 1) before.answers;
      wants = ap length added.wants ∙ length_push wants (wanted_in v) ∙ ap (λ n. n + 1) before.wants;
    }
