use Rattle.std.proofs.Common.{◌≡◌, Bool, None, Some, true, length, refl, ap, subst, sym, ◌∙◌, arith}
use Rattle.std.specs.Prelude.{slice_get}
use Rattle.std.proofs.lemmas.Option.{get_or_from_slice_get, slice_get_read, slice_get_within}
use Rattle.signatures.specs.Triple.{triple_of}
use Rattle.interp.specs.Answer.{Wants}
use Rattle.interp.specs.Question.{question_of}
use Rattle.interp.specs.computed.Step.{verdict}
use Rattle.interp.specs.laws.KnownVerdicts.{want-kept}
use Rattle.queue.specs.Jobs.{Answered, IsEarly, known_then, verdict_of}
use Rattle.queue.proofs.Pairs.{there_is}
use Rattle.queue.proofs.jobs.JobListPlaces.wanted.Goals as goal

pub returns-in-None : goal.returns-in-None
returns-in-None g c =
    let list = c.args.self.now in
    let known = g.S.KnowsSignatures.known list.by.now in
    let t = c.in_ok-triple.triple.now in
    let own : Answered = c.in_ok-first.field-0.now in
    let job = there_is list.jobs.now c.args.place (omega (arith, c.requires, list.inside)) in
    let first : slice_get list.early.now 0 ≡ Some own = slice_get_read list.early.now (length list.early.now) 0 own refl c.in_ok-first.ensures.item.3.0 c.in_ok-first.ensures.item.1 in
    let mark : slice_get list.asked.now c.args.place ≡ Some true =
    slice_get_read list.asked.now (length list.asked.now) c.args.place c.in_ok-get.field-0.now refl c.in_ok-get.ensures.lookup.3.0 c.in_ok-get.ensures.lookup.1 ∙ ap (λ (b : Bool). Some b) c.if-not-branch.false in
    let wants : verdict (known_then own) (question_of job.0) ≡ Wants t = c.in_ok-triple.ensures (question_of job.0) (list.at_place own first c.args.place mark job.0 job.1) in
    let early : IsEarly known own = subst (IsEarly known) (get_or_from_slice_get list.early.now 0 own own first) (list.before 0 own (slice_get_within list.early.now 0 own first)) in
    let none : known t ≡ None = sym (ap known (λ i. triple_of (c.key.ensures i) (c.signature.ensures i) (c.digest.ensures i))) ∙ sym c.find.ensures ∙ c.in-None.is in
    ap (verdict_of known) job.1 ∙ want-kept (known_then own) known early (question_of job.0) t wants none
