use Rattle.std.proofs.Common.{◌≡◌, ℕ, List, length, map, Option, Some, None, ap, ap₂, subst, ◌∙◌, arith}
use Rattle.std.specs.List.{zip}
use Rattle.std.specs.Prelude.{IfSome}
use Rattle.std.proofs.lemmas.Result.{err_from_is_err_and}
use Rattle.txn.specs.declared.reason.Reason.TheVariants.{ScriptRefused}
use Rattle.signatures.specs.Known.{Agrees}
use Rattle.interp.specs.declared.flags.Flags.{Flags}
use Rattle.interp.specs.declared.job.Job.{Job}
use Rattle.interp.specs.Question.{question_of}
use Rattle.queue.specs.laws.FirstFailure.{IsFirstFailure}
use Rattle.queue.specs.Jobs.{verdict_at}
use Rattle.queue.specs.FirstAnswer.{AreTheWants}
use Rattle.queue.specs.laws.FirstFailure.{first-under}
use Rattle.connect.specs.Scripts.{Check, flags_of, IsFirstRefused, AreWantedAmong}
use Rattle.connect.specs.inside.ScriptLists.{checks_from, checks_in}
use Rattle.connect.proofs.Checks.{none_refused, first_refused_is, below_of, told_wanted}
use Rattle.connect.proofs.Numbers.{numbered}
use Rattle.connect.proofs.scripts.first_refused.Goals as goal

pub first_failure-requires-clause-numbered : goal.first_failure-requires-clause-numbered
first_failure-requires-clause-numbered g c =
    let listed : zip c.deref-3.result.now (map question_of c.deref-2.result.now) ≡ checks_from c.flags_of.result 1 c.args.txs.now c.args.undo.now =
    ap₂ (λ (l : List ℕ) (k : List Job). zip l (map question_of k)) c.deref-3.ensures.value c.deref-2.ensures.value ∙ c.in_ok-checks.ensures.checks_from in
    numbered c.flags_of.result c.args.txs.now c.args.undo.now c.deref-3.result.now c.deref-2.result.now listed

pub returns-in_default-clause-answer : goal.returns-in_default-clause-answer
returns-in_default-clause-answer g c triples agrees =
    let checks = c.in_ok-checks.checks in
    let all : checks_in checks ≡ checks_from (flags_of c.args.rules) 1 c.args.txs.now c.args.undo.now = c.in_ok-checks.ensures.checks_from ∙ ap (λ (f : Flags). checks_from f 1 c.args.txs.now c.args.undo.now) c.flags_of.ensures in
    let none : IsFirstFailure triples checks.jobs.items None =
    subst (λ (l : List Job). IsFirstFailure triples l None) c.deref-2.ensures.value (subst (λ (o : Option ℕ). IsFirstFailure triples c.deref-2.result.now o) c.in_default.is (first-under (g.S.RunsScripts.known c.args.env.now) c.deref-2.result.now _ c.in_ok-found.ensures triples agrees)) in
    subst (λ (l : List Check). IsFirstRefused triples l None) all (none_refused triples checks.places.items checks.jobs.items none)

pub index-requires : goal.index-requires
index-requires g c =
    let checks = c.in_ok-checks.checks in
    let triples = g.S.RunsScripts.agreeing c.args.env.now in
    let agrees : Agrees (g.S.RunsScripts.known c.args.env.now) triples = g.met.S.RunsScripts.agrees c.args.env.now in
    let first : IsFirstFailure triples checks.jobs.items (Some c.in-Some.place) =
    subst (λ (l : List Job). IsFirstFailure triples l (Some c.in-Some.place)) c.deref-2.ensures.value (subst (λ (o : Option ℕ). IsFirstFailure triples c.deref-2.result.now o) c.in-Some.is (first-under (g.S.RunsScripts.known c.args.env.now) c.deref-2.result.now _ c.in_ok-found.ensures triples agrees)) in
    let below = below_of checks.jobs.items c.in-Some.place first.0.0 first.0.1 in
    omega (arith, c.in_ok-checks.ensures.even)

pub index-requires-2 : goal.index-requires-2
index-requires-2 g c =
    let checks = c.in_ok-checks.checks in
    let triples = g.S.RunsScripts.agreeing c.args.env.now in
    let agrees : Agrees (g.S.RunsScripts.known c.args.env.now) triples = g.met.S.RunsScripts.agrees c.args.env.now in
    let first : IsFirstFailure triples checks.jobs.items (Some c.in-Some.place) =
    subst (λ (l : List Job). IsFirstFailure triples l (Some c.in-Some.place)) c.deref-2.ensures.value (subst (λ (o : Option ℕ). IsFirstFailure triples c.deref-2.result.now o) c.in-Some.is (first-under (g.S.RunsScripts.known c.args.env.now) c.deref-2.result.now _ c.in_ok-found.ensures triples agrees)) in
    let below = below_of checks.jobs.items c.in-Some.place first.0.0 first.0.1 in
    omega arith

pub returns-clause-answer : goal.returns-clause-answer
returns-clause-answer g c triples agrees =
    let checks = c.in_ok-checks.checks in
    let place = c.in-Some.place in
    let all : checks_in checks ≡ checks_from (flags_of c.args.rules) 1 c.args.txs.now c.args.undo.now = c.in_ok-checks.ensures.checks_from ∙ ap (λ (f : Flags). checks_from f 1 c.args.txs.now c.args.undo.now) c.flags_of.ensures in
    let first : IsFirstFailure triples checks.jobs.items (Some place) =
    subst (λ (l : List Job). IsFirstFailure triples l (Some place)) c.deref-2.ensures.value (subst (λ (o : Option ℕ). IsFirstFailure triples c.deref-2.result.now o) c.in-Some.is (first-under (g.S.RunsScripts.known c.args.env.now) c.deref-2.result.now _ c.in_ok-found.ensures triples agrees)) in
    let below = below_of checks.jobs.items place first.0.0 first.0.1 in
    let even : length checks.places.items ≡ length checks.jobs.items = c.in_ok-checks.ensures.even in
    subst (λ (l : List Check). IsFirstRefused triples l (Some (ScriptRefused c.index.result.now c.index-2.result.now.input))) all
    (first_refused_is triples checks.places.items checks.jobs.items place c.index.result.now c.index-2.result.now even (omega (arith, even, below)) c.index.ensures c.index-2.ensures first.0 first.1)

pub returns-in_err-found-clause-stops : goal.returns-in_err-found-clause-stops
returns-in_err-found-clause-stops g c =
    let known = g.S.RunsScripts.known c.args.env.now in
    let checks = c.in_ok-checks.checks in
    let all : checks_in checks ≡ checks_from (flags_of c.args.rules) 1 c.args.txs.now c.args.undo.now = c.in_ok-checks.ensures.checks_from ∙ ap (λ (f : Flags). checks_from f 1 c.args.txs.now c.args.undo.now) c.flags_of.ensures in
    let passed = err_from_is_err_and c.from_residual-in_err-found.result c.from_residual-in_err-found.ensures.1 in
    let told = g.S.RunsScripts.told c.in_err-found.field-0.0 in
    rw (passed.1, passed.2) (subst (λ (l : List Check). IfSome told (AreWantedAmong known l)) all
    (told_wanted known checks.places.items checks.jobs.items c.in_ok-checks.ensures.even told
    (subst (λ (l : List Job). IfSome told (AreTheWants (length l) (verdict_at known l))) c.deref-2.ensures.value c.in_err-found.ensures)))
