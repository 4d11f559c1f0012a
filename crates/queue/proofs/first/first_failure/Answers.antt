use Rattle.std.proofs.Common.{◌≡◌, [], List, sym, subst, ◌∙◌, arith}
use Rattle.std.specs.Prelude.{All, None, vec_len}
use Rattle.std.proofs.lemmas.List.{nil_from_length}
use borrow.Author.Tests.{eqb-true}
use Rattle.signatures.specs.Triple.{Triple}
use Rattle.queue.specs.Jobs.{verdict_at}
use Rattle.queue.specs.laws.FirstFailure.{all-wanted}
use Rattle.queue.proofs.Walks.{want-unknown, yes-below}
use Rattle.queue.proofs.first.first_failure.Goals as goal

pub stop-requires-clause-unknown : goal.stop-requires-clause-unknown
stop-requires-clause-unknown g c =
    let known = g.S.KnowsSignatures.known c.args.runs.now.by.now in
    let jobs = c.args.jobs.now in
    let walk = c.in_ok-walk.ensures in
    subst (λ (l : List Triple). All (λ t. known t ≡ None) l) (sym walk.are) (all-wanted (λ t. known t ≡ None) (verdict_at known jobs) c.in_ok-walk.walk.end (λ place t low e. want-unknown known jobs place t e))

pub returns-then-walk-jobs : goal.returns-then-walk-jobs
returns-then-walk-jobs g c =
    let walk = c.in_ok-walk.ensures in
    let none : c.in_ok-walk.walk.wants.items ≡ [] = nil_from_length c.in_ok-walk.walk.wants.items (omega (arith, eqb-true (vec_len c.in_ok-walk.walk.wants) 0 (sym c.if-not-is_empty.ensures), c.in_ok-walk.walk.wants.ok)) in
    (c.if-walk-jobs.true, walk.is_end.refused c.if-walk-jobs.true, yes-below _ c.in_ok-walk.walk.end walk.is_end.before (sym walk.are ∙ none))

pub returns : goal.returns
returns g c place low =
    let walk = c.in_ok-walk.ensures in
    let none : c.in_ok-walk.walk.wants.items ≡ [] = nil_from_length c.in_ok-walk.walk.wants.items (omega (arith, eqb-true (vec_len c.in_ok-walk.walk.wants) 0 (sym c.if-not-is_empty.ensures), c.in_ok-walk.walk.wants.ok)) in
    yes-below _ c.in_ok-walk.walk.end walk.is_end.before (sym walk.are ∙ none) place (omega (arith, low, walk.is_end.inside))
