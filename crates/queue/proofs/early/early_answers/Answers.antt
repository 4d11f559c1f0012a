use Rattle.std.proofs.Common.{rules, ◌≡◌, length, map, sym, ap, subst, ◌∙◌, arith}
use Rattle.std.proofs.lemmas.Result.{IfOk-weaker}
use Rattle.signatures.specs.Known.{all_known, verdict_in}
use Rattle.interp.specs.Question.{question_of}
use Rattle.queue.specs.Jobs.{answers_to, known_of, questions}
use Rattle.queue.specs.inside.KnownAnswers.{AreTheirWants}
use Rattle.queue.proofs.JobAnswers.{said-answers, their-wants}
use Rattle.queue.proofs.early.early_answers.Goals as goal

pub returns-in-Listed-clause-answers : goal.returns-in-Listed-clause-answers
returns-in-Listed-clause-answers g c =
    let l = c.all_of.result in
    let made = c.all_of.ensures in
    let lent : l.jobs.now ≡ c.in_ok-jobs.jobs.items = made.jobs.0 ∙ c.deref-in-Listed.ensures.value in
    let asked : map question_of c.in_ok-jobs.jobs.items ≡ questions c.args.jobs.now = search rules in
    let source : all_known l.by.now ≡ known_of c.args.source = ap all_known made.by ∙ sym (ap known_of c.in-Listed.is) in
    IfOk-weaker c.all_answers.result _ _
    (λ found are. said-answers (all_known l.by.now) l.jobs.now (questions c.args.jobs.now) found.answers.items (ap (map question_of) lent ∙ asked) are.1 (omega (arith, found.answers.ok, are.0, made.jobs.1, ap length made.jobs.0))
    ∙ ap (λ known. answers_to known (questions c.args.jobs.now)) source)
    c.all_answers.ensures.answers

pub returns-in-Listed-clause-wants : goal.returns-in-Listed-clause-wants
returns-in-Listed-clause-wants g c =
    let l = c.all_of.result in
    let made = c.all_of.ensures in
    let lent : l.jobs.now ≡ c.in_ok-jobs.jobs.items = made.jobs.0 ∙ c.deref-in-Listed.ensures.value in
    let asked : map question_of c.in_ok-jobs.jobs.items ≡ questions c.args.jobs.now = search rules in
    let source : all_known l.by.now ≡ known_of c.args.source = ap all_known made.by ∙ sym (ap known_of c.in-Listed.is) in
    IfOk-weaker c.all_answers.result _ _
    (λ found are. subst (λ known. AreTheirWants known (questions c.args.jobs.now) found.wants.items) source
    (their-wants (all_known l.by.now) l.jobs.now (questions c.args.jobs.now) found.wants.items (ap (map question_of) lent ∙ asked) are))
    c.all_answers.ensures.wants

pub returns-clause-answers : goal.returns-clause-answers
returns-clause-answers g c =
    let l = c.all_of-in-Found.result in
    let made = c.all_of-in-Found.ensures in
    let lent : l.jobs.now ≡ c.in_ok-jobs.jobs.items = made.jobs.0 ∙ c.deref-in-Found.ensures.value in
    let asked : map question_of c.in_ok-jobs.jobs.items ≡ questions c.args.jobs.now = search rules in
    let source : verdict_in l.by.now ≡ known_of c.args.source = ap verdict_in made.by ∙ sym (ap known_of c.in-Found.is) in
    IfOk-weaker c.all_answers-in-Found.result _ _
    (λ found are. said-answers (verdict_in l.by.now) l.jobs.now (questions c.args.jobs.now) found.answers.items (ap (map question_of) lent ∙ asked) are.1 (omega (arith, found.answers.ok, are.0, made.jobs.1, ap length made.jobs.0))
    ∙ ap (λ known. answers_to known (questions c.args.jobs.now)) source)
    c.all_answers-in-Found.ensures.answers

pub returns-clause-wants : goal.returns-clause-wants
returns-clause-wants g c =
    let l = c.all_of-in-Found.result in
    let made = c.all_of-in-Found.ensures in
    let lent : l.jobs.now ≡ c.in_ok-jobs.jobs.items = made.jobs.0 ∙ c.deref-in-Found.ensures.value in
    let asked : map question_of c.in_ok-jobs.jobs.items ≡ questions c.args.jobs.now = search rules in
    let source : verdict_in l.by.now ≡ known_of c.args.source = ap verdict_in made.by ∙ sym (ap known_of c.in-Found.is) in
    IfOk-weaker c.all_answers-in-Found.result _ _
    (λ found are. subst (λ known. AreTheirWants known (questions c.args.jobs.now) found.wants.items) source
    (their-wants (verdict_in l.by.now) l.jobs.now (questions c.args.jobs.now) found.wants.items (ap (map question_of) lent ∙ asked) are))
    c.all_answers-in-Found.ensures.wants
