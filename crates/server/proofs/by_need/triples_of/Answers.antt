use Rattle.std.proofs.Common.{◌==◌, length, take, arith, rules}
use Rattle.std.proofs.lemmas.Iterator.Consumers.{YieldsList-turn, YieldsList-end}
use Rattle.std.proofs.lemmas.Iterator.Splits.{YieldsList-from_slice_split}
use Rattle.std.proofs.lemmas.List.{length_push, take_all}
use Rattle.signatures.specs.Lines.{lines}
use Rattle.signatures.proofs.Tables.{one_more}
use Rattle.server.proofs.Verdicts.{spelled_adds, spelled_skips}
use Rattle.server.proofs.by_need.triples_of.Goals as goal

pub loop-line-preserved : goal.loop-line-preserved
loop-line-preserved c =
    let ls = lines c.args.text.now in
    let all = YieldsList-from_slice_split _ (λ byte. byte == 10) c.args.text.now (cc) (cc) (cc) (λ x b q k. search rules) in
    let at = YieldsList-turn all c.loop-line.yielded _ c.loop-line.yielded_by _ _ c.in-Some.line c.in-Some.is c.next.ensures.steps in
    let long = length_push c.loop-line.yielded c.in-Some.line in
    let skipped = rw c.in_default.is at c.in_ok-triple.ensures in
    rw (one_more ls (length c.loop-line.yielded) _ c.in-Some.line.now at long)
    (spelled_skips (take (length c.loop-line.yielded) ls) c.in-Some.line.now c.loop-line.triples.items c.loop-line.invariant skipped)

pub loop-line-preserved-in-Continue-branch-3 : goal.loop-line-preserved-in-Continue-branch-3
loop-line-preserved-in-Continue-branch-3 c =
    let ls = lines c.args.text.now in
    let all = YieldsList-from_slice_split _ (λ byte. byte == 10) c.args.text.now (cc) (cc) (cc) (λ x b q k. search rules) in
    let at = YieldsList-turn all c.loop-line.yielded _ c.loop-line.yielded_by _ _ c.in-Some.line c.in-Some.is c.next.ensures.steps in
    let long = length_push c.loop-line.yielded c.in-Some.line in
    let spelled = rw c.in-Some-2.is at c.in_ok-triple.ensures in
    rw (one_more ls (length c.loop-line.yielded) _ c.in-Some.line.now at long, c.in_ok-push.ensures.items)
    (spelled_adds (take (length c.loop-line.yielded) ls) c.in-Some.line.now c.loop-line.triples.items c.in-Some-2.triple c.loop-line.invariant spelled)

pub returns : goal.returns
returns c =
    let all = YieldsList-from_slice_split _ (λ byte. byte == 10) c.args.text.now (cc) (cc) (cc) (λ x b q k. search rules) in
    let end = YieldsList-end all c.loop-line.yielded _ c.loop-line.yielded_by _ _ c.in-None.is c.next.ensures.steps in
    let whole = take_all (length c.loop-line.yielded) (lines c.args.text.now) (omega (arith, end.1)) in
    rw whole at c.loop-line.invariant
