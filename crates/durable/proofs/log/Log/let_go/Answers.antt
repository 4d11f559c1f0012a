use Rattle.std.proofs.Common.{◌∙◌, List, ℕ, subst, rules}
use Rattle.durable.specs.KeptSteps.{KeepsBetween}
use Rattle.durable.proofs.FileCalls.{joined}
use Rattle.durable.proofs.Sound.{one_went}
use Rattle.durable.specs.Log.{history}
use Rattle.durable.proofs.log.Log.let_go.Goals as goal

pub returns-in_err-tell-clause-any_moment : goal.returns-in_err-tell-clause-any_moment
returns-in_err-tell-clause-any_moment g c =
    let calls = g.H.Host.calls in
    let i = c.loop-place.invariant in
    joined (history calls c.args.self.now) (calls c.args.self.now.host) (calls c.loop-place.self.host) (calls c.tell.new.self.host) i.any_moment
    (subst (λ (l : List (List ℕ)). KeepsBetween l (calls c.loop-place.self.host) (calls c.tell.new.self.host)) i.same c.tell.ensures.any_moment)

pub returns-then-not-branch-clause-any_moment : goal.returns-then-not-branch-clause-any_moment
returns-then-not-branch-clause-any_moment g c =
    let calls = g.H.Host.calls in
    let i = c.loop-place.invariant in
    joined (history calls c.args.self.now) (calls c.args.self.now.host) (calls c.loop-place.self.host) (calls c.tell.new.self.host) i.any_moment
    (subst (λ (l : List (List ℕ)). KeepsBetween l (calls c.loop-place.self.host) (calls c.tell.new.self.host)) i.same c.tell.ensures.any_moment)

pub loop-place-preserved : goal.loop-place-preserved
loop-place-preserved g c =
    let calls = g.H.Host.calls in
    let i = c.loop-place.invariant in
    record {
      sound = c.tell.ensures.sound;
      same = c.tell.ensures.same ∙ i.same;
      durable = c.tell.ensures.durable ∙ i.durable;
      went = one_went _ _ _ c.args.answers.now c.loop-place.place c.index-answers-place.result _ c.loop-place-test.true c.index-answers-place.is (search rules) i.went c.in_ok-tell.ensures.told;
      any_moment = joined (history calls c.args.self.now) (calls c.args.self.now.host) (calls c.loop-place.self.host) (calls c.tell.new.self.host) i.any_moment
          (subst (λ (l : List (List ℕ)). KeepsBetween l (calls c.loop-place.self.host) (calls c.tell.new.self.host)) i.same c.tell.ensures.any_moment);
    }
