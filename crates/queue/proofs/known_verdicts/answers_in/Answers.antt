use Rattle.std.proofs.Common.{rules, ◌≡◌, ◌+◌, ◌<◌, ◌++◌, ◌∷◌, [], List, Bool, Option, Some, length, ℕ, sym, ap, subst, ◌∙◌, arith}
use Rattle.std.specs.Prelude.{slice_get, IfSome, IsSome}
use Rattle.std.proofs.lemmas.List.{length_push}
use Rattle.std.proofs.lemmas.Option.{slice_get-get_or}
use Rattle.interp.specs.declared.job.Job.{Job}
use Rattle.queue.specs.declared.verdict_index.Slot.{Slot}
use Rattle.interp.specs.Question.{question_of}
use Rattle.interp.specs.Answer.{Says}
use Rattle.queue.specs.Jobs.{verdict_of, verdict_at}
use Rattle.queue.specs.Early.{AreKnown, Fits}
use Rattle.queue.proofs.Pairs.{AllKnownBelow, all_known, all_next, known_next, some_where_fits, some_is}
use Rattle.queue.proofs.known_verdicts.answers_in.Goals as goal

pub loop-place-preserved : goal.loop-place-preserved
loop-place-preserved g c =
    let jobs = c.args.jobs.now in
    let known = g.S.KnowsSignatures.known c.args.by.now in
    let verdicts = c.args.index.now.verdicts.now in
    let place = c.loop-place.place in
    let job : Job = c.index-jobs-place.result in
    let before : List (Option Bool) = c.loop-place.known.items in
    let answer : Option Bool = c.answer_in.result in
    let within : place < length jobs = search rules in
    let there : slice_get jobs place ≡ Some job = slice_get-get_or jobs place job within ∙ ap (λ (j : Job). Some j) (sym c.index-jobs-place.is) in
    let next : c.push.new.self.items ≡ before ++ answer ∷ [] = c.in_ok-push.ensures.items in
    let some : (slot : Slot) → Fits verdicts slot (question_of job) → IsSome answer = some_where_fits verdicts (question_of job) c.find-slot.result answer c.find-slot.ensures.none c.answer_in.ensures.some in
    record {
      right = subst (λ (l : List (Option Bool)). AreKnown (verdict_at known jobs) l) (sym next) (known_next (verdict_at known jobs) before place answer c.loop-place.invariant.right c.loop-place.invariant.count
          (subst (λ (o : Option Job). IfSome answer (λ said. verdict_of known o ≡ Says said)) (sym there) c.answer_in.ensures.right));
      all = subst (λ (l : List (Option Bool)). AllKnownBelow verdicts jobs (place + 1) l) (sym next) (all_next verdicts jobs before place job answer c.loop-place.invariant.count there some c.loop-place.invariant.all);
      count = ap length next ∙ length_push before answer ∙ ap (λ n. n + 1) c.loop-place.invariant.count;
      before = λ other some is. subst (λ (j : Job). IfSome c.find-slot.result (λ s. Fits verdicts s (question_of j))) (some_is job other (sym there ∙ subst (λ (n : ℕ). slice_get jobs n ≡ Some other) (omega arith) is)) c.find-slot.ensures.found;
    }

pub returns-clause-all : goal.returns-clause-all
returns-clause-all g c = all_known c.args.index.now.verdicts.now c.args.jobs.now c.loop-place.known.items c.loop-place.place (search rules) c.loop-place.invariant.all
