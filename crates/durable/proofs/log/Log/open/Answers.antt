use Rattle.std.proofs.Common.{◌∙◌, sym, subst, length, List, ap}
use Rattle.durable.specs.Lines.{lines}
use Rattle.durable.specs.Crash.{Event}
use Rattle.durable.specs.KeptSteps.{KeepsBetween}
use Rattle.durable.specs.Log.{file_of}
use Rattle.durable.proofs.CutEnd.{uncut_now, cut_lines}
use Rattle.durable.proofs.log.Log.open.Goals as goal

pub new-requires-clause-count : goal.new-requires-clause-count
new-requires-clause-count g c =
    let u = c.args.uncut.is in
    u.count_is ∙ sym (ap length (cut_lines g.H.Host.calls c.args.uncut.host _ _ _ u c.recover.new.host c.in-Ok.ensures.file))

pub returns-in-Ok-clause-history : goal.returns-in-Ok-clause-history
returns-in-Ok-clause-history g c = c.new.ensures.history ∙ cut_lines g.H.Host.calls c.args.uncut.host _ _ _ c.args.uncut.is c.recover.new.host c.in-Ok.ensures.file

pub returns-in-Ok-clause-any_moment : goal.returns-in-Ok-clause-any_moment
returns-in-Ok-clause-any_moment g c =
    let calls = g.H.Host.calls in
    let all = lines (file_of calls c.args.uncut.host) in
    let now = uncut_now calls c.args.uncut.host _ _ _ c.args.uncut.is in
    subst (λ (l : List Event). KeepsBetween all (calls c.args.uncut.host) l) (ap calls (sym c.new.ensures.host)) (c.recover.ensures.any_moment all now)

pub returns-in-Err-clause-lost : goal.returns-in-Err-clause-lost
returns-in-Err-clause-lost g c =
    let calls = g.H.Host.calls in
    c.recover.ensures.any_moment (lines (file_of calls c.args.uncut.host)) (uncut_now calls c.args.uncut.host _ _ _ c.args.uncut.is)
