use Rattle.std.proofs.Common.{◌≡◌, ℕ, ◌<◌, ◌≤◌, length, Some, None, refl, sym, ap, subst, ◌∙◌, arith}
use Rattle.tree.specs.Branches.{place_of}
use Rattle.tree.specs.Names.{names}
use Rattle.tree.specs.State.{State, with_mark}
use Rattle.block.specs.declared.block.Block.{Block}
use Rattle.tree.specs.laws.AddedBlock.{place-bound}
use Rattle.activate.specs.declared.plan.Prepared.{Prepared}
use Rattle.model.specs.declared.reply.MarkReply.TheVariants.{Genesis, NotFound}
use Rattle.model.specs.declared.reply.Reply.TheVariants as reply
use Rattle.activate.specs.inside.Preparation.{CanTry, IsPreparationFor}
use Rattle.model.specs.Regtest.{regtest}
use Rattle.model.specs.Settle.{settle}
use Rattle.model.specs.Step.{Invalidate, step}
use Rattle.activate.specs.CoreState.{CoreState}
use Rattle.model.specs.laws.Steps.{step-genesis, step_not-found}
use Rattle.activate.proofs.Plans.{can-follows}
use Rattle.activate.proofs.PutInPlace.{can-marked, if_ok, plan-still}
use Rattle.model.specs.laws.Findings.{invalidate_done}
use Rattle.activate.proofs.WantsOfBlocks.{wanted_from}
use Rattle.activate.proofs.core_state.Core.prepare_invalidate.Goals as goal

pub returns-in-None-clause-prepared : goal.returns-in-None-clause-prepared
returns-in-None-clause-prepared g c triples agrees =
    let a : CoreState = c.args.self.now in
    let r = regtest a.params triples in
    let none : place_of names a.state.blocks c.args.id.now ≡ None = subst (λ (x : CoreState). place_of names x.state.blocks c.args.id.now ≡ None) c.self.view_is (sym c.find.ensures ∙ c.in-None.is) in
    plan-still r a (reply.Mark NotFound) c.still.result (step r a.state (Invalidate c.args.id.now)) (c.requires.follows triples agrees).active_is c.still.ensures (sym (step_not-found r a.state c.args.id.now none).0)

pub returns-in-Some-eq0-clause-prepared : goal.returns-in-Some-eq0-clause-prepared
returns-in-Some-eq0-clause-prepared g c triples agrees =
    let a : CoreState = c.args.self.now in
    let r = regtest a.params triples in
    let zero : place_of names a.state.blocks c.args.id.now ≡ Some 0 = subst (λ (x : CoreState). place_of names x.state.blocks c.args.id.now ≡ Some 0) c.self.view_is (sym c.find.ensures ∙ c.in-Some-eq0.is ∙ ap (λ (p : ℕ). Some p) c.in-Some-eq0.field-0-test) in
    plan-still r a (reply.Mark Genesis) c.still-in-Some-eq0.result (step r a.state (Invalidate c.args.id.now)) (c.requires.follows triples agrees).active_is c.still-in-Some-eq0.ensures (sym (step-genesis r a.state c.args.id.now zero))

pub mark-requires-clause-kept : goal.mark-requires-clause-kept
mark-requires-clause-kept g c =
    subst (λ (s : State Block). c.in-Some.place ≤ length s.blocks) (sym c.in_ok-overlay.ensures) (place-bound names c.self.inside.tree.blocks c.args.id.now c.in-Some.place (sym c.find.ensures ∙ c.in-Some.is))

pub settle_marks-requires-clause-can : goal.settle_marks-requires-clause-can
settle_marks-requires-clause-can g c triples agrees =
    let a : CoreState = c.args.self.now in
    let r = regtest a.params triples in
    let p = c.in-Some.place in
    let n = c.in-Some.place-test in
    let follows = c.requires.follows triples agrees in
    let state : c.mark.new.self ≡ with_mark a.state p = c.mark.ensures ∙ ap (λ (s : State Block). with_mark s p) (c.in_ok-overlay.ensures ∙ ap (λ (x : CoreState). x.state) c.self.view_is) in
    subst (λ (s : State Block). CanTry r (record a { state = s })) (sym state) (can-marked r a p (omega arith) (can-follows r a follows.sound follows.kept follows.active_is))

pub returns-clause-prepared : goal.returns-clause-prepared
returns-clause-prepared g c =
    let a : CoreState = c.args.self.now in
    let m = c.mark.new.self in
    let p = c.in-Some.place in
    let n = c.in-Some.place-test in
    let found : place_of names a.state.blocks c.args.id.now ≡ Some p = subst (λ (x : CoreState). place_of names x.state.blocks c.args.id.now ≡ Some p) c.self.view_is (sym c.find.ensures ∙ c.in-Some.is) in
    let state : m ≡ with_mark a.state p = c.mark.ensures ∙ ap (λ (s : State Block). with_mark s p) (c.in_ok-overlay.ensures ∙ ap (λ (x : CoreState). x.state) c.self.view_is) in
    if_ok c.settle_marks.result
    (λ (prepared : Prepared) x triples agrees.
    let r = regtest a.params triples in
    subst (λ t. IsPreparationFor r a t prepared) (invalidate_done a.params triples a.state c.args.id.now p found m (settle r m) (omega arith) state refl) (x triples agrees))
    c.settle_marks.ensures.prepared

pub returns-clause-wants : goal.returns-clause-wants
returns-clause-wants g c =
    let a : CoreState = c.args.self.now in
    let p = c.in-Some.place in
    let n = c.in-Some.place-test in
    let z : 0 < p = omega arith in
    let found : place_of names a.state.blocks c.args.id.now ≡ Some p = subst (λ (x : CoreState). place_of names x.state.blocks c.args.id.now ≡ Some p) c.self.view_is (sym c.find.ensures ∙ c.in-Some.is) in
    let state : c.mark.new.self ≡ with_mark a.state p = c.mark.ensures ∙ ap (λ (s : State Block). with_mark s p) (c.in_ok-overlay.ensures ∙ ap (λ (x : CoreState). x.state) c.self.view_is) in
    wanted_from a (record a { state = c.mark.new.self }) (Invalidate c.args.id.now) (g.S.RunsScripts.known c.args.env.now) (with_mark a.state p) (ap (λ (s : State Block). record a { state = s }) state) (p, found, z, refl)
    c.settle_marks.result g.S.RunsScripts.told c.settle_marks.ensures.wants
