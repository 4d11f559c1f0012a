use Rattle.std.proofs.Common.{ℕ, List, ◌+◌, slice_get, length, eqb, ap, sym, ◌∙◌}
use Rattle.interp.specs.State.{State}
use Rattle.interp.proofs.MultisigStack.{dummy-free, dummy-missing, dummy-there}
use Rattle.interp.proofs.execution.Execution.may_take_dummy.Goals as goal

pub returns-then-not-running : goal.returns-then-not-running
returns-then-not-running c = dummy-free c.args.running.now.flags c.args.self.now c.if-not-running.true

pub returns-in-Some : goal.returns-in-Some
returns-in-Some c =
    let counts : ℕ × ℕ = (c.in-Some.keys, c.in-Some.signatures) in
    let at = sym (ap (λ (s : State). slice_get s.main (counts.0 + counts.1 + 2)) c.self.view_is) ∙ c.at.ensures in
    c.is_empty.ensures ∙ ap (λ (dummy : List ℕ). eqb (length dummy) 0) c.as_slice-dummy.ensures
    ∙ dummy-there c.args.running.now.flags c.args.self.now counts c.at.result.now c.if-not-running.false (sym c.counts.ensures.value ∙ c.in-Some.is) at

pub returns-in-None : goal.returns-in-None
returns-in-None c = dummy-missing c.args.running.now.flags c.args.self.now (sym c.counts.ensures.value ∙ c.in-None.is)
