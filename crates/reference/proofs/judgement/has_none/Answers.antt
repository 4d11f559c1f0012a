use Rattle.std.proofs.Common.{ℕ, ◌+◌, Bool, not, ◌&&◌, drop, sym, ap, ◌∙◌}
use Rattle.std.specs.List.{list_all}
use Rattle.std.proofs.lemmas.List.{at_drop_more, at_drop_all}
use Rattle.reference.specs.inside.Replay.{is_flagged}
use Rattle.reference.proofs.judgement.has_none.Goals as goal

pub loop-index-preserved : goal.loop-index-preserved
loop-index-preserved c =
    let f : ℕ → Bool = λ x. not (is_flagged c.args.flags.now x) in
    let i = c.loop-index.index in
    let e = at_drop_more (list_all f) c.args.places.now i 0 c.loop-index-test.true in
    sym (e ∙ ap (λ b. not b && list_all f (drop (i + 1) c.args.places.now)) c.if-flags-places.false) ∙ c.loop-index.invariant

pub returns-then-flags-places : goal.returns-then-flags-places
returns-then-flags-places c =
    let f : ℕ → Bool = λ x. not (is_flagged c.args.flags.now x) in
    let i = c.loop-index.index in
    let e = at_drop_more (list_all f) c.args.places.now i 0 c.loop-index-test.true in
    sym (e ∙ ap (λ b. not b && list_all f (drop (i + 1) c.args.places.now)) c.if-flags-places.true) ∙ c.loop-index.invariant

pub returns : goal.returns
returns c =
    let f : ℕ → Bool = λ x. not (is_flagged c.args.flags.now x) in
    sym (at_drop_all (list_all f) c.args.places.now c.loop-index.index c.loop-index-test.false) ∙ c.loop-index.invariant
