use Rattle.std.specs.Prelude.{IfSome}
use Rattle.std.proofs.Common.{◌≡◌, ℕ, ◌<◌, ◌≤◌, length, sym, subst, ◌∙◌}
use Rattle.hash.specs.declared.id.Id.{Id}
use Rattle.block.specs.declared.block.Block.{Block}
use Rattle.tree.specs.Branches.{Blocks}
use Rattle.tree.specs.State.{State}
use Rattle.model.specs.Regtest.{regtest}
use Rattle.model.specs.Rules.{Rules}
use Rattle.model.specs.laws.Tries.{count_without_mark}
use Rattle.std.proofs.lemmas.Result.{err_from_is_err_and}
use Rattle.activate.specs.declared.path.TryOutcome.{TryOutcome}
use Rattle.activate.specs.declared.path.TryOutcome.TheVariants.{Fails}
use Rattle.activate.specs.declared.path.FailedTry.{FailedTry}
use Rattle.activate.specs.CoreState.{CoreState}
use Rattle.activate.specs.Wants.{AreJoined}
use Rattle.activate.specs.inside.Paths.{AreWantedOnWay, FailsAt, IsTryOutcome, IsValid, LeadsTo}
use Rattle.activate.specs.inside.Preparation.{HasOtherMarks, IsFailedTry, TriesLead}
use Rattle.activate.proofs.Plans.{fewer-unmarked, tries_more, tries_none}
use Rattle.activate.proofs.PutInPlace.{plan-marks}
use Rattle.activate.proofs.WantsOfBlocks.{wanted_before, wanted_best}
use Rattle.activate.proofs.core_state.Core.settle_marks.Goals as goal

-- tries led from s to t, both with the blocks of a
module _ (r : Rules Block Id) (a : CoreState) (s t : State Block) (other : HasOtherMarks a.state s) (lead : TriesLead r a s t) where
  same : ◌≡◌ {A = Blocks Block} t.blocks a.state.blocks
  same = lead.other.blocks_are ∙ other.blocks_are

  -- what fails over the blocks of a is a failed try of t
  failed_there : (p : ℕ) → p ≤ length t.blocks → {found : TryOutcome} {failed : FailedTry} → IsTryOutcome r a.state.blocks a.active p found → found ≡ Fails failed → IsFailedTry r t a.active p failed
  failed_there p kept {found} {failed} attempt is = record {
    kept = kept;
    fails = subst (λ (u : Blocks Block). FailsAt r u a.active p failed) (sym same) (subst (λ (x : TryOutcome). IsTryOutcome r a.state.blocks a.active p x) is attempt);
    flags = record { seen = lead.can.seen; bad_in_order = lead.can.bad_in_order; seen_in_order = lead.can.seen_in_order };
  }

pub tries-init : goal.tries-init
tries-init g c triples agrees = tries_none (regtest c.args.self.now.params triples) c.args.self.now c.args.overlay (c.requires.can triples agrees)

pub try_block-requires-clause-valid : goal.try_block-requires-clause-valid
try_block-requires-clause-valid g c triples agrees =
    let can = c.requires.can triples agrees in
    subst (λ (u : Blocks Block). IsValid (regtest c.args.self.now.params triples) u c.args.self.now.active) c.requires.other.blocks_are (record { all = can.all; good = can.good })

pub try_block-requires-clause-place : goal.try_block-requires-clause-place
try_block-requires-clause-place g c =
    let triples = g.S.RunsScripts.agreeing c.args.env.now in
    let lead = c.tries.invariant triples (g.met.S.RunsScripts.agrees c.args.env.now) in
    subst (λ (u : Blocks Block). c.best_usable-place.result ≤ length u) (same (regtest c.args.self.now.params triples) c.args.self.now c.args.overlay c.tries.overlay c.requires.other lead) c.best_usable-place.ensures.kept

pub returns-in_err-found-clause-wants : goal.returns-in_err-found-clause-wants
returns-in_err-found-clause-wants g c =
    let triples = g.S.RunsScripts.agreeing c.args.env.now in
    let agrees = g.met.S.RunsScripts.agrees c.args.env.now in
    let known = g.S.RunsScripts.known c.args.env.now in
    let a : CoreState = c.args.self.now in
    let t = c.tries.overlay in
    let p = c.best_usable-place.result in
    let lead = c.tries.invariant triples agrees in
    let passed = err_from_is_err_and c.from_residual.result c.from_residual.ensures.1 in
    rw (passed.1, passed.2) (wanted_before a c.args.overlay t known lead.other c.tries.invariant _
    (wanted_best (record a { state = t }) known p (λ triples agrees. (c.tries.invariant triples agrees).can) c.best_usable-place.ensures _
    (subst (λ (u : Blocks Block). IfSome (g.S.RunsScripts.told c.in_err-found.field-0.0) (AreJoined (AreWantedOnWay a.params u a.active p known))) (sym (same (regtest a.params triples) a c.args.overlay t c.requires.other lead)) c.in_err-found.ensures.wants)))

pub returns-in-Succeeds-clause-prepared : goal.returns-in-Succeeds-clause-prepared
returns-in-Succeeds-clause-prepared g c triples agrees =
    let a : CoreState = c.args.self.now in
    let p = c.best_usable-place.result in
    let r = regtest a.params triples in
    let moves : LeadsTo r a.state.blocks a.active p c.in-Succeeds.found = subst (λ (x : TryOutcome). IsTryOutcome r a.state.blocks a.active p x) c.in-Succeeds.is (c.in_ok-found.ensures.attempt triples agrees) in
    plan-marks r a c.args.overlay c.tries.overlay p c.in-Succeeds.found c.into_marks-marks.result (c.requires.can triples agrees) c.requires.other (c.tries.invariant triples agrees)
    c.best_usable-place.ensures moves c.into_marks-marks.ensures.are c.into_marks-marks.ensures.laid

pub flag_failed_try-requires : goal.flag_failed_try-requires
flag_failed_try-requires g c =
    let triples = g.S.RunsScripts.agreeing c.args.env.now in
    let agrees = g.met.S.RunsScripts.agrees c.args.env.now in
    let a : CoreState = c.args.self.now in
    let p = c.best_usable-place.result in
    let r = regtest a.params triples in
    (r, a.active, p, failed_there r a c.args.overlay c.tries.overlay c.requires.other (c.tries.invariant triples agrees) p c.best_usable-place.ensures.kept (c.in_ok-found.ensures.attempt triples agrees) c.in-Fails.is)

pub tries-smaller : goal.tries-smaller
tries-smaller g c =
    let triples = g.S.RunsScripts.agreeing c.args.env.now in
    let agrees = g.met.S.RunsScripts.agrees c.args.env.now in
    let a : CoreState = c.args.self.now in
    let t = c.tries.overlay in
    let p = c.best_usable-place.result in
    let r = regtest a.params triples in
    let is = failed_there r a c.args.overlay t c.requires.other (c.tries.invariant triples agrees) p c.best_usable-place.ensures.kept (c.in_ok-found.ensures.attempt triples agrees) c.in-Fails.is in
    subst (λ (u : State Block). count_without_mark u < count_without_mark t) (sym (c.flag_failed_try.ensures r a.active p is)) (fewer-unmarked r a c.args.overlay t p c.best_usable-place.ensures c.in-Fails.failed is.fails)

pub tries-preserved : goal.tries-preserved
tries-preserved g c triples agrees =
    let a : CoreState = c.args.self.now in
    let t = c.tries.overlay in
    let p = c.best_usable-place.result in
    let r = regtest a.params triples in
    let lead = c.tries.invariant triples agrees in
    let is = failed_there r a c.args.overlay t c.requires.other lead p c.best_usable-place.ensures.kept (c.in_ok-found.ensures.attempt triples agrees) c.in-Fails.is in
    subst (λ (u : State Block). TriesLead r a c.args.overlay u) (sym (c.flag_failed_try.ensures r a.active p is)) (tries_more r a c.args.overlay t p c.best_usable-place.ensures lead)
