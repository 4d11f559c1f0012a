use Rattle.std.proofs.Common.{List, sym, subst}
use Rattle.std.proofs.lemmas.Result.{IfOk-weaker}
use Rattle.queue.specs.Jobs.{Answered}
use Rattle.queue.specs.Early.{AreAllKnown}
use Rattle.queue.specs.inside.KnownAnswers.{Covers}
use Rattle.queue.proofs.known_verdicts.known_answers.Goals as goal

pub answers_in-requires-clause-covers : goal.answers_in-requires-clause-covers
answers_in-requires-clause-covers g c =
    subst (λ (l : List Answered). Covers l c.in_ok-index.index.slots.entries) (sym c.in_ok-index.ensures.verdicts) c.in_ok-index.ensures.covers

pub returns-clause-all : goal.returns-clause-all
returns-clause-all g c =
    IfOk-weaker c.answers_in.result _ _ (λ known all. subst (λ (l : List Answered). AreAllKnown l c.args.jobs.now known.items) c.in_ok-index.ensures.verdicts all) c.answers_in.ensures.all
