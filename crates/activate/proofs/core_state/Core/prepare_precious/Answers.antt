use Rattle.std.proofs.Common.{◌≡◌, ℕ, ◌<◌, ◌≤◌, length, Some, None, refl, sym, subst, ◌∙◌, arith}
use Rattle.std.specs.Prelude.{IfSome, if◌then◌else◌}
use Rattle.tree.specs.Branches.{height, place_of}
use Rattle.tree.specs.Names.{names}
use Rattle.tree.specs.State.{with_call, has_no_mark}
use Rattle.tree.specs.Sound.{IsBest}
use Rattle.tree.specs.laws.AddedBlock.{place-bound}
use Rattle.activate.specs.declared.path.TryOutcome.{TryOutcome}
use Rattle.activate.specs.declared.plan.Edit.TheVariants.{Call}
use Rattle.activate.specs.declared.plan.Settled.{Settled}
use Rattle.activate.specs.inside.Paths.{IsTryOutcome}
use Rattle.block.specs.declared.block.Block.{Block}
use Rattle.hash.specs.declared.id.Id.{Id}
use Rattle.signatures.specs.Triple.{Triples}
use Rattle.std.proofs.lemmas.Result.{err_from_is_err_and}
use Rattle.model.specs.Rules.{Rules}
use Rattle.model.specs.declared.reply.MarkReply.TheVariants.{Done, NotFound}
use Rattle.model.specs.declared.reply.Reply.TheVariants as reply
use Rattle.activate.specs.inside.Preparation.{CanTry, IsPreparationFor, IsSettledBy, IsTried}
use Rattle.model.specs.Regtest.{regtest}
use Rattle.model.specs.Settle.{settle}
use Rattle.model.specs.Step.{Precious, step}
use Rattle.activate.specs.CoreState.{CoreState, Follows}
use Rattle.model.specs.laws.Steps.{step_not-found}
use Rattle.activate.proofs.Plans.{can-follows}
use Rattle.activate.proofs.PutInPlace.{best-called, can-called, one-try-called, plan-settled, plan-still}
use Rattle.model.specs.laws.Findings.{prefer_done, prefer_lower}
use Rattle.activate.specs.Wants.{AreWantedToSettle}
use Rattle.activate.proofs.WantsOfBlocks.{wanted_best, wanted_by}
use Rattle.activate.proofs.core_state.Core.prepare_precious.Goals as goal

pub returns-in_default-clause-prepared : goal.returns-in_default-clause-prepared
returns-in_default-clause-prepared g c triples agrees =
    let a : CoreState = c.args.self.now in
    let r = regtest a.params triples in
    let none : place_of names a.state.blocks c.args.id.now ≡ None = subst (λ (x : CoreState). place_of names x.state.blocks c.args.id.now ≡ None) c.self.view_is (sym c.find.ensures ∙ c.in_default.is) in
    plan-still r a (reply.Mark NotFound) c.still.result (step r a.state (Precious c.args.id.now)) (c.requires.follows triples agrees).active_is c.still.ensures (sym (step_not-found r a.state c.args.id.now none).2)

pub height-requires : goal.height-requires
height-requires g c = place-bound names c.self.inside.tree.blocks c.args.id.now c.in-Some.place (sym c.find.ensures ∙ c.in-Some.is)

pub returns-then-height-clause-prepared : goal.returns-then-height-clause-prepared
returns-then-height-clause-prepared g c triples agrees =
    let a : CoreState = c.args.self.now in
    let r = regtest a.params triples in
    let p = c.in-Some.place in
    let found : place_of names a.state.blocks c.args.id.now ≡ Some p = subst (λ (x : CoreState). place_of names x.state.blocks c.args.id.now ≡ Some p) c.self.view_is (sym c.find.ensures ∙ c.in-Some.is) in
    let one = c.height.ensures.value in
    let two = c.height-2.ensures in
    let less = c.if-height.true in
    let inside : height c.self.inside.tree.blocks p < height c.self.inside.tree.blocks c.self.inside.active = omega arith in
    let low : height a.state.blocks p < height a.state.blocks a.active = subst (λ (x : CoreState). height x.state.blocks p < height x.state.blocks x.active) c.self.view_is inside in
    plan-still r a (reply.Mark Done) c.still-then-height.result (step r a.state (Precious c.args.id.now)) (c.requires.follows triples agrees).active_is c.still-then-height.ensures
    (prefer_lower a.params triples a.state c.args.id.now p found (subst (λ (q : ℕ). height a.state.blocks p < height a.state.blocks q) (c.requires.follows triples agrees).active_is low))

-- the block that was found, and it is no lower than the active one
module _ {inside outside : CoreState} (e : inside ≡ outside) (id : Id) {p : ℕ} (found : place_of names inside.state.blocks id ≡ Some p) where
  found_there : place_of names outside.state.blocks id ≡ Some p
  found_there = subst (λ (x : CoreState). place_of names x.state.blocks id ≡ Some p) e found

  kept_there : p ≤ length outside.state.blocks
  kept_there = place-bound names outside.state.blocks id p found_there

  high_there : height inside.state.blocks inside.active ≤ height inside.state.blocks p → height outside.state.blocks outside.active ≤ height outside.state.blocks p
  high_there = subst (λ (x : CoreState). height x.state.blocks x.active ≤ height x.state.blocks p) e

-- the block that is tried then
module _ (triples : Triples) (a : CoreState) (follows : Follows a triples) (p : ℕ) (kept : p ≤ length a.state.blocks) (high : height a.state.blocks a.active ≤ height a.state.blocks p)
    (first : ℕ) (first-is : first ≡ (if has_no_mark a.state p then p else a.active)) where
  abbrev r : Rules Block Id
  r = regtest a.params triples

  abbrev called : CoreState
  called = record a { state = with_call a.state p }

  can : CanTry r called
  can = can-called r a p (can-follows r a follows.sound follows.kept follows.active_is)

  best : IsBest called.state (has_no_mark called.state) (length called.state.blocks) first
  best = best-called r a follows.sound follows.active_is p kept high first first-is

  tried : (attempt : TryOutcome) → IsTryOutcome r a.state.blocks a.active first attempt → IsTried r called first attempt
  tried attempt came = record { can = can; best = best; one_try = one-try-called r a follows.sound follows.active_is p kept high first first-is; came = came }

  plan : (id : Id) → place_of names a.state.blocks id ≡ Some p → (s : Settled) → IsSettledBy r called first s
      → IsPreparationFor r a (step r a.state (Precious id)) (record { reply = reply.Mark Done; edit = Call p; rest = s.rest; changes = s.changes })
  plan id found s by =
      plan-settled r a (record { reply = reply.Mark Done; edit = Call p; rest = s.rest; changes = s.changes }) kept by.settles can.genesis (step r a.state (Precious id)) refl
      (prefer_done a.params triples a.state id p found called.state (settle r called.state) (subst (λ (q : ℕ). height a.state.blocks q ≤ height a.state.blocks p) follows.active_is high) refl refl)

pub best_of_two-first-requires : goal.best_of_two-first-requires
best_of_two-first-requires g c = kept_there c.self.view_is c.args.id.now (sym c.find.ensures ∙ c.in-Some.is)

pub try_block-requires-clause-valid : goal.try_block-requires-clause-valid
try_block-requires-clause-valid g c triples agrees =
    let f = c.requires.follows triples agrees in
    let can = can-follows (regtest c.args.self.now.params triples) c.args.self.now f.sound f.kept f.active_is in
    record { all = can.all; good = can.good }

pub try_block-requires-clause-place : goal.try_block-requires-clause-place
try_block-requires-clause-place g c =
    let triples = g.S.RunsScripts.agreeing c.args.env.now in
    let agrees = g.met.S.RunsScripts.agrees c.args.env.now in
    let a : CoreState = c.args.self.now in
    let found = sym c.find.ensures ∙ c.in-Some.is in
    let one = c.height.ensures.value in
    let two = c.height-2.ensures in
    let less = c.if-height.false in
    let high = high_there c.self.view_is c.args.id.now found (omega arith) in
    (best triples a (c.requires.follows triples agrees) c.in-Some.place (kept_there c.self.view_is c.args.id.now found) high c.best_of_two-first.result c.best_of_two-first.ensures).kept

pub settled_by-settled-requires : goal.settled_by-settled-requires
settled_by-settled-requires g c =
    let triples = g.S.RunsScripts.agreeing c.args.env.now in
    let agrees = g.met.S.RunsScripts.agrees c.args.env.now in
    let a : CoreState = c.args.self.now in
    let found = sym c.find.ensures ∙ c.in-Some.is in
    let one = c.height.ensures.value in
    let two = c.height-2.ensures in
    let less = c.if-height.false in
    let high = high_there c.self.view_is c.args.id.now found (omega arith) in (
      regtest a.params triples,
      called triples a (c.requires.follows triples agrees) c.in-Some.place (kept_there c.self.view_is c.args.id.now found) high c.best_of_two-first.result c.best_of_two-first.ensures,
      tried triples a (c.requires.follows triples agrees) c.in-Some.place (kept_there c.self.view_is c.args.id.now found) high c.best_of_two-first.result c.best_of_two-first.ensures
          c.in_ok-attempt.attempt (c.in_ok-attempt.ensures.attempt triples agrees),
    )

pub returns-clause-prepared : goal.returns-clause-prepared
returns-clause-prepared g c triples agrees =
    let a : CoreState = c.args.self.now in
    let f = c.requires.follows triples agrees in
    let p = c.in-Some.place in
    let found = sym c.find.ensures ∙ c.in-Some.is in
    let kept = kept_there c.self.view_is c.args.id.now found in
    let one = c.height.ensures.value in
    let two = c.height-2.ensures in
    let less = c.if-height.false in
    let high = high_there c.self.view_is c.args.id.now found (omega arith) in
    let first = c.best_of_two-first.result in
    let by = c.settled_by-settled.ensures (regtest a.params triples) (record a { state = with_call a.state p }) (tried triples a f p kept high first c.best_of_two-first.ensures c.in_ok-attempt.attempt (c.in_ok-attempt.ensures.attempt triples agrees)) in
    plan triples a f p kept high first c.best_of_two-first.ensures c.args.id.now (found_there c.self.view_is c.args.id.now found) c.settled_by-settled.result by

pub returns-in_err-attempt-clause-wants : goal.returns-in_err-attempt-clause-wants
returns-in_err-attempt-clause-wants g c =
    let a : CoreState = c.args.self.now in
    let known = g.S.RunsScripts.known c.args.env.now in
    let p = c.in-Some.place in
    let found = sym c.find.ensures ∙ c.in-Some.is in
    let kept = kept_there c.self.view_is c.args.id.now found in
    let one = c.height.ensures.value in
    let two = c.height-2.ensures in
    let less = c.if-height.false in
    let high = high_there c.self.view_is c.args.id.now found (omega arith) in
    let first = c.best_of_two-first.result in
    let triples = g.S.RunsScripts.agreeing c.args.env.now in
    let agrees = g.met.S.RunsScripts.agrees c.args.env.now in
    let passed = err_from_is_err_and c.from_residual.result c.from_residual.ensures.1 in
    let told = g.S.RunsScripts.told c.in_err-attempt.field-0.0 in
    let settle : IfSome told (AreWantedToSettle (record a { state = with_call a.state p }) known) =
    wanted_best (record a { state = with_call a.state p }) known first (λ t agree. can t a (c.requires.follows t agree) p kept high first c.best_of_two-first.ensures)
    (best triples a (c.requires.follows triples agrees) p kept high first c.best_of_two-first.ensures) told c.in_err-attempt.ensures.wants in
    rw (passed.1, passed.2) (wanted_by a (Precious c.args.id.now) known (with_call a.state p) (p, found_there c.self.view_is c.args.id.now found, high, refl) told settle)
