use Rattle.std.specs.Prelude.{IfSome}
use Rattle.std.proofs.Common.{◌≡◌, ℕ, suc, ◌≤◌, ◌∷◌, true, false, length, refl, sym, subst, ◌∙◌}
use Rattle.std.proofs.lemmas.Result.{err_from_is_err_and}
use Rattle.tree.specs.State.{beats, with_block}
use Rattle.model.specs.Regtest.{regtest}
use Rattle.activate.specs.CoreState.{CoreState}
use Rattle.activate.specs.Wants.{AreJoined}
use Rattle.activate.specs.inside.Paths.{AreWantedOnWay, IsTryOutcome, IsValid}
use Rattle.activate.specs.inside.Preparation.{CanTry, core_with_block}
use Rattle.activate.proofs.NewBlock.{alone_new, below_new, best_new, can_new, settled_beside, tried_new}
use Rattle.activate.proofs.WantsOfBlocks.{wanted_best}
use Rattle.activate.proofs.core_state.Core.settle_new.Goals as goal

pub would_be_better-requires-clause-parent : goal.would_be_better-requires-clause-parent
would_be_better-requires-clause-parent g c =
    let triples = g.S.RunsScripts.agreeing c.args.env.now in
    let agrees = g.met.S.RunsScripts.agrees c.args.env.now in
    subst (λ (x : CoreState). c.args.parent ≤ length x.state.blocks) (sym c.self.view_is)
    (below_new triples c.args.self.now (c.requires.follows triples agrees) c.requires.new.0 c.args.submitted.now.block c.args.parent (c.requires.new.1 triples agrees))

pub returns-then-not-would_be_better-clause-settled : goal.returns-then-not-would_be_better-clause-settled
returns-then-not-would_be_better-clause-settled g c triples agrees =
    let a : CoreState = c.args.self.now in
    let b = c.args.submitted.now.block in
    let p = c.args.parent in
    let low : beats (with_block a.state b p) (suc (length a.state.blocks)) a.active ≡ false =
    subst (λ (x : CoreState). beats (with_block x.state b p) (suc (length x.state.blocks)) x.active ≡ false) c.self.view_is (sym (c.would_be_better.ensures b) ∙ c.if-not-would_be_better.true) in
    settled_beside triples a (c.requires.follows triples agrees) c.requires.new.0 b p (c.requires.new.1 triples agrees) low _ refl c.new.ensures refl

pub try_new_block-requires-clause-valid : goal.try_new_block-requires-clause-valid
try_new_block-requires-clause-valid g c triples agrees =
    let follows = c.requires.follows triples agrees in
    let can : CanTry (regtest c.args.self.now.params triples) c.args.self.now = Rattle.activate.proofs.Plans.can-follows (regtest c.args.self.now.params triples) c.args.self.now follows.sound follows.kept follows.active_is in
    subst (λ (x : CoreState). IsValid (regtest x.params triples) x.state.blocks x.active) (sym c.active_branch-active_branch.ensures.core) (record { all = can.all; good = can.good })

pub try_new_block-requires-clause-parent : goal.try_new_block-requires-clause-parent
try_new_block-requires-clause-parent g c =
    let triples = g.S.RunsScripts.agreeing c.args.env.now in
    let agrees = g.met.S.RunsScripts.agrees c.args.env.now in
    subst (λ (x : CoreState). c.args.parent ≤ length x.state.blocks) (sym c.active_branch-active_branch.ensures.core)
    (below_new triples c.args.self.now (c.requires.follows triples agrees) c.requires.new.0 c.args.submitted.now.block c.args.parent (c.requires.new.1 triples agrees))

pub try_new_block-requires-clause-alone : goal.try_new_block-requires-clause-alone
try_new_block-requires-clause-alone g c =
    let triples = g.S.RunsScripts.agreeing c.args.env.now in
    let agrees = g.met.S.RunsScripts.agrees c.args.env.now in
    c.requires.judged.fault ∙ alone_new triples c.args.self.now (c.requires.follows triples agrees) c.requires.new.0 c.args.submitted.now.block c.args.parent (c.requires.new.1 triples agrees)

pub returns-in_err-attempt-clause-wants : goal.returns-in_err-attempt-clause-wants
returns-in_err-attempt-clause-wants g c =
    let triples = g.S.RunsScripts.agreeing c.args.env.now in
    let agrees = g.met.S.RunsScripts.agrees c.args.env.now in
    let a : CoreState = c.args.self.now in
    let b = c.args.submitted.now.block in
    let p = c.args.parent in
    let known = g.S.RunsScripts.known c.args.env.now in
    let better : beats (with_block a.state b p) (suc (length a.state.blocks)) a.active ≡ true =
    subst (λ (x : CoreState). beats (with_block x.state b p) (suc (length x.state.blocks)) x.active ≡ true) c.self.view_is (sym (c.would_be_better.ensures b) ∙ c.if-not-would_be_better.false) in
    let passed = err_from_is_err_and c.from_residual.result c.from_residual.ensures.1 in
    rw (passed.1, passed.2) (wanted_best (core_with_block a b p) known (suc (length a.state.blocks))
    (λ triples agrees. can_new triples a (c.requires.follows triples agrees) c.requires.new.0 b p (c.requires.new.1 triples agrees))
    (best_new triples a (c.requires.follows triples agrees) c.requires.new.0 b p (c.requires.new.1 triples agrees) better) _
    (subst (λ (x : CoreState). IfSome (g.S.RunsScripts.told c.in_err-attempt.field-0.0) (AreJoined (AreWantedOnWay x.params (record { block = b; parent = p } ∷ x.state.blocks) x.active (suc (length x.state.blocks)) known))) c.active_branch-active_branch.ensures.core c.in_err-attempt.ensures.wants))

pub settled_by-requires : goal.settled_by-requires
settled_by-requires g c =
    let triples = g.S.RunsScripts.agreeing c.args.env.now in
    let agrees = g.met.S.RunsScripts.agrees c.args.env.now in
    let a : CoreState = c.args.self.now in
    let b = c.args.submitted.now.block in
    let p = c.args.parent in
    let better : beats (with_block a.state b p) (suc (length a.state.blocks)) a.active ≡ true =
    subst (λ (x : CoreState). beats (with_block x.state b p) (suc (length x.state.blocks)) x.active ≡ true) c.self.view_is (sym (c.would_be_better.ensures b) ∙ c.if-not-would_be_better.false) in (
      regtest a.params triples,
      core_with_block a b p,
      subst (λ (q : ℕ). Rattle.activate.specs.inside.Preparation.IsTried (regtest a.params triples) (core_with_block a b p) q c.in_ok-attempt.attempt) (sym (c.len.ensures.count ∙ Rattle.std.proofs.Common.ap (λ (x : CoreState). suc (length x.state.blocks)) c.self.view_is))
          (tried_new triples a (c.requires.follows triples agrees) c.requires.new.0 b p (c.requires.new.1 triples agrees) better c.in_ok-attempt.attempt
          (subst (λ (x : CoreState). IsTryOutcome (regtest x.params triples) (record { block = b; parent = p } ∷ x.state.blocks) x.active (suc (length x.state.blocks)) c.in_ok-attempt.attempt) c.active_branch-active_branch.ensures.core (c.in_ok-attempt.ensures.attempt triples agrees))),
    )

pub returns-clause-settled : goal.returns-clause-settled
returns-clause-settled g c triples agrees =
    let a : CoreState = c.args.self.now in
    let b = c.args.submitted.now.block in
    let p = c.args.parent in
    let better : beats (with_block a.state b p) (suc (length a.state.blocks)) a.active ≡ true =
    subst (λ (x : CoreState). beats (with_block x.state b p) (suc (length x.state.blocks)) x.active ≡ true) c.self.view_is (sym (c.would_be_better.ensures b) ∙ c.if-not-would_be_better.false) in
    let count = c.len.ensures.count ∙ Rattle.std.proofs.Common.ap (λ (x : CoreState). suc (length x.state.blocks)) c.self.view_is in
    let tried = subst (λ (q : ℕ). Rattle.activate.specs.inside.Preparation.IsTried (regtest a.params triples) (core_with_block a b p) q c.in_ok-attempt.attempt) (sym count)
    (tried_new triples a (c.requires.follows triples agrees) c.requires.new.0 b p (c.requires.new.1 triples agrees) better c.in_ok-attempt.attempt
    (subst (λ (x : CoreState). IsTryOutcome (regtest x.params triples) (record { block = b; parent = p } ∷ x.state.blocks) x.active (suc (length x.state.blocks)) c.in_ok-attempt.attempt) c.active_branch-active_branch.ensures.core (c.in_ok-attempt.ensures.attempt triples agrees))) in
    subst (λ (q : ℕ). Rattle.activate.specs.inside.Preparation.IsSettledBy (regtest a.params triples) (core_with_block a b p) q c.settled_by.result) count
    (c.settled_by.ensures (regtest a.params triples) (core_with_block a b p) tried)
