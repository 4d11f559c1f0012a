use Rattle.std.proofs.Common.{rules, ◌≡◌, None}
use mathlib.Core.List.{IsPrefix}
use Rattle.signatures.specs.Known.{verdict_in, with_verdict}
use Rattle.node.proofs.Growth.{learnt_more}
use Rattle.node.proofs.learnt.Learnt.add.Goals as goal

pub invariant_of-self : goal.invariant_of-self
invariant_of-self g c =
    let t = c.args.triple.now in
    let before = c.self.inside in
    let none : verdict_in before.found t ≡ None = search rules in
    let goes : IsPrefix before.seen.entries c.args.history.entries = search rules in
    let more : c.learn_kept.new.self ≡ with_verdict before.found t c.args.valid = search rules in
    rw (more) (learnt_more g.J.Naming.origin before.seen c.args.history before.found t c.args.valid c.self.invariant c.requires.book c.requires.legal goes c.requires.known none)
