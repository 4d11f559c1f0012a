use Rattle.std.proofs.Common.{◌≡◌, ℕ, ◌≤◌, length, Some, None, refl, sym, ap, subst, ◌∙◌}
use Rattle.tree.specs.Branches.{place_of}
use Rattle.tree.specs.Names.{names}
use Rattle.tree.specs.State.{State, without_marks}
use Rattle.tree.specs.laws.AddedBlock.{place-bound}
use Rattle.block.specs.declared.block.Block.{Block}
use Rattle.activate.specs.declared.plan.Prepared.{Prepared}
use Rattle.model.specs.declared.reply.MarkReply.TheVariants.{NotFound}
use Rattle.model.specs.declared.reply.Reply.TheVariants as reply
use Rattle.activate.specs.inside.Preparation.{CanTry, HasOtherMarks, IsPreparationFor}
use Rattle.model.specs.Regtest.{regtest}
use Rattle.model.specs.Settle.{settle}
use Rattle.model.specs.Step.{Reconsider, step}
use Rattle.activate.specs.CoreState.{CoreState}
use Rattle.model.specs.laws.Steps.{step_not-found}
use Rattle.activate.proofs.Plans.{can-follows}
use Rattle.activate.proofs.PutInPlace.{can-cleared, if_ok, plan-still}
use Rattle.model.specs.laws.Findings.{reconsider_done}
use Rattle.activate.proofs.WantsOfBlocks.{wanted_from}
use Rattle.activate.proofs.core_state.Core.prepare_reconsider.Goals as goal

pub returns-in_default-clause-prepared : goal.returns-in_default-clause-prepared
returns-in_default-clause-prepared g c triples agrees =
    let a : CoreState = c.args.self.now in
    let r = regtest a.params triples in
    let none : place_of names a.state.blocks c.args.id.now ≡ None = subst (λ (x : CoreState). place_of names x.state.blocks c.args.id.now ≡ None) c.self.view_is (sym c.find.ensures ∙ c.in_default.is) in
    plan-still r a (reply.Mark NotFound) c.still.result (step r a.state (Reconsider c.args.id.now)) (c.requires.follows triples agrees).active_is c.still.ensures (sym (step_not-found r a.state c.args.id.now none).1)

pub clear-requires : goal.clear-requires
clear-requires g c =
    subst (λ (s : State Block). c.in-Some.place ≤ length s.blocks) (sym c.in_ok-overlay.ensures) (place-bound names c.self.inside.tree.blocks c.args.id.now c.in-Some.place (sym c.find.ensures ∙ c.in-Some.is))

other_cleared : (s t : State Block) (p : ℕ) → t ≡ without_marks s p → HasOtherMarks s t
unfolding without_marks
other_cleared s t p e = record { blocks_are = ap (λ (x : State Block). x.blocks) e; precious_is = ap (λ (x : State Block). x.precious) e }

pub settle_marks-requires-clause-other : goal.settle_marks-requires-clause-other
settle_marks-requires-clause-other g c =
    other_cleared c.args.self.now.state c.clear.new.self c.in-Some.place
    (c.in_ok-clear.ensures.ok ∙ ap (λ (s : State Block). without_marks s c.in-Some.place) (c.in_ok-overlay.ensures ∙ ap (λ (x : CoreState). x.state) c.self.view_is))

pub settle_marks-requires-clause-can : goal.settle_marks-requires-clause-can
settle_marks-requires-clause-can g c triples agrees =
    let a : CoreState = c.args.self.now in
    let r = regtest a.params triples in
    let p = c.in-Some.place in
    let follows = c.requires.follows triples agrees in
    let state : c.clear.new.self ≡ without_marks a.state p = c.in_ok-clear.ensures.ok ∙ ap (λ (s : State Block). without_marks s p) (c.in_ok-overlay.ensures ∙ ap (λ (x : CoreState). x.state) c.self.view_is) in
    subst (λ (s : State Block). CanTry r (record a { state = s })) (sym state) (can-cleared r a p (can-follows r a follows.sound follows.kept follows.active_is))

pub returns-clause-prepared : goal.returns-clause-prepared
returns-clause-prepared g c =
    let a : CoreState = c.args.self.now in
    let m = c.clear.new.self in
    let p = c.in-Some.place in
    let found : place_of names a.state.blocks c.args.id.now ≡ Some p = subst (λ (x : CoreState). place_of names x.state.blocks c.args.id.now ≡ Some p) c.self.view_is (sym c.find.ensures ∙ c.in-Some.is) in
    let state : m ≡ without_marks a.state p = c.in_ok-clear.ensures.ok ∙ ap (λ (s : State Block). without_marks s p) (c.in_ok-overlay.ensures ∙ ap (λ (x : CoreState). x.state) c.self.view_is) in
    if_ok c.settle_marks.result
    (λ (prepared : Prepared) x triples agrees.
    let r = regtest a.params triples in
    subst (λ t. IsPreparationFor r a t prepared) (reconsider_done a.params triples a.state c.args.id.now p found m (settle r m) state refl) (x triples agrees))
    c.settle_marks.ensures.prepared

pub returns-clause-wants : goal.returns-clause-wants
returns-clause-wants g c =
    let a : CoreState = c.args.self.now in
    let p = c.in-Some.place in
    let found : place_of names a.state.blocks c.args.id.now ≡ Some p = subst (λ (x : CoreState). place_of names x.state.blocks c.args.id.now ≡ Some p) c.self.view_is (sym c.find.ensures ∙ c.in-Some.is) in
    let state : c.clear.new.self ≡ without_marks a.state p = c.in_ok-clear.ensures.ok ∙ ap (λ (s : State Block). without_marks s p) (c.in_ok-overlay.ensures ∙ ap (λ (x : CoreState). x.state) c.self.view_is) in
    wanted_from a (record a { state = c.clear.new.self }) (Reconsider c.args.id.now) (g.S.RunsScripts.known c.args.env.now) (without_marks a.state p) (ap (λ (s : State Block). record a { state = s }) state) (p, found, refl)
    c.settle_marks.result g.S.RunsScripts.told c.settle_marks.ensures.wants
