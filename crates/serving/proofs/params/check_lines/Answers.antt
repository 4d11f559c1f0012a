use Rattle.std.proofs.Common.{◌≡◌, ◌==◌, ◌+◌, Option, None, Some, inl, inr, length, take, sym, ap, ◌∙◌, rules, arith}
use Rattle.std.specs.Prelude.{ℕ, List, IsTrue, MatchOption}
use Rattle.std.proofs.lemmas.Iterator.Consumers.{YieldsList-turn, YieldsList-end}
use Rattle.std.proofs.lemmas.Iterator.Splits.{YieldsList-from_slice_split}
use Rattle.std.proofs.lemmas.List.{length_push, take_all}
use Rattle.std.proofs.lemmas.List.Elements.{All-push}
use Rattle.std.proofs.lemmas.Result.{err_from_is_err_and}
use Rattle.signatures.specs.Lines.{IsReadable, Spells, is_skipped, lines, words}
use Rattle.signatures.specs.Triple.{Triple}
use Rattle.signatures.proofs.Tables.{fault_from, one_more}
use Rattle.serving.proofs.params.check_lines.Goals as goal

readable_by : (line : List ℕ) (triple : Option Triple) → MatchOption triple (IsTrue (is_skipped (words line))) (Spells (words line)) → IsReadable line
readable_by line None skipped = inl skipped
readable_by line (Some t) spells = inr (t, spells)

pub loop-line-preserved : goal.loop-line-preserved
loop-line-preserved c =
    let ls = lines c.args.text.now in
    let all = YieldsList-from_slice_split _ (λ byte. byte == 10) c.args.text.now (cc) (cc) (cc) (λ x b q k. search rules) in
    let at = YieldsList-turn all c.loop-line.yielded _ c.loop-line.yielded_by _ _ c.in-Some.line c.in-Some.is c.next.ensures.steps in
    let long = length_push c.loop-line.yielded c.in-Some.line in
    record {
      count = ap (λ n. n + 1) c.loop-line.invariant.count ∙ sym long;
      readable = rw (one_more ls (length c.loop-line.yielded) _ c.in-Some.line.now at long)
          (All-push IsReadable (take (length c.loop-line.yielded) ls) c.in-Some.line.now c.loop-line.invariant.readable (readable_by c.in-Some.line.now c.in_ok-read.field-0 c.in_ok-read.ensures.found));
    }

pub loop-line-preserved-in_ok-read : goal.loop-line-preserved-in_ok-read
loop-line-preserved-in_ok-read c =
    let ls = lines c.args.text.now in
    let all = YieldsList-from_slice_split _ (λ byte. byte == 10) c.args.text.now (cc) (cc) (cc) (λ x b q k. search rules) in
    let at = YieldsList-turn all c.loop-line.yielded _ c.loop-line.yielded_by _ _ c.in-Some.line c.in-Some.is c.next.ensures.steps in
    let long = length_push c.loop-line.yielded c.in-Some.line in
    record {
      count = ap (λ n. n + 1) c.loop-line.invariant.count ∙ sym long;
      readable = rw (one_more ls (length c.loop-line.yielded) _ c.in-Some.line.now at long)
          (All-push IsReadable (take (length c.loop-line.yielded) ls) c.in-Some.line.now c.loop-line.invariant.readable (readable_by c.in-Some.line.now c.in_ok-read.field-0 c.in_ok-read.ensures.found));
    }

pub returns-in_err-read-clause-refused : goal.returns-in_err-read-clause-refused
returns-in_err-read-clause-refused c =
    let ls = lines c.args.text.now in
    let all = YieldsList-from_slice_split _ (λ byte. byte == 10) c.args.text.now (cc) (cc) (cc) (λ x b q k. search rules) in
    let at = YieldsList-turn all c.loop-line.yielded _ c.loop-line.yielded_by _ _ c.in-Some.line c.in-Some.is c.next.ensures.steps in
    let fault = err_from_is_err_and c.from_residual.result c.from_residual.ensures.1 in
    rw (fault.1, fault.2) (fault_from ls (length c.loop-line.yielded) (c.loop-line.number + 1) c.in-Some.line.now c.in_err-read.field-0.0 at (ap (λ n. n + 1) c.loop-line.invariant.count) c.loop-line.invariant.readable c.in_err-read.ensures.refused)

pub returns-clause-readable : goal.returns-clause-readable
returns-clause-readable c =
    let all = YieldsList-from_slice_split _ (λ byte. byte == 10) c.args.text.now (cc) (cc) (cc) (λ x b q k. search rules) in
    let end = YieldsList-end all c.loop-line.yielded _ c.loop-line.yielded_by _ _ c.in-None.is c.next.ensures.steps in
    let whole = take_all (length c.loop-line.yielded) (lines c.args.text.now) (omega (arith, end.1)) in
    rw whole at c.loop-line.invariant.readable
