use Rattle.std.proofs.Common.{◌==◌, ◌+◌, length, refl, sym, ap, ◌∙◌, rules, arith}
use Rattle.std.specs.FinSet as set
use Rattle.std.specs.Ordering.{is_lt, eq_by_cmp}
use Rattle.std.proofs.lemmas.Fn.{always_returns_same, dedup_same}
use Rattle.std.proofs.lemmas.List.Kept.{IsStrictlySortedBy-dedup}
use Rattle.std.proofs.lemmas.Iterator.Consumers.{YieldsList-turn, YieldsList-end}
use Rattle.std.proofs.lemmas.Iterator.Splits.{YieldsList-from_slice_split}
use Rattle.std.proofs.lemmas.List.{length_push, take_all}
use Rattle.std.proofs.lemmas.List.Sorted.{ranks_by}
use Rattle.std.proofs.lemmas.Result.{err_from_is_err_and}
use Rattle.signatures.specs.Lines.{lines}
use Rattle.signatures.specs.Triple.{triple_cmp}
use Rattle.signatures.specs.laws.Order.{triple_cmp-total, triple_cmp-exact}
use Rattle.signatures.proofs.Once.{from_list_once}
use Rattle.signatures.proofs.Search.{from_list-IsPermutation}
use Rattle.signatures.proofs.Tables.{table_none, table_skips, table_adds, one_more, fault_from}
use Rattle.signatures.proofs.table.Table.from_lines.Goals as goal

pub loop-line-init : goal.loop-line-init
loop-line-init c = record { count = search rules; table = rw c.new-triples.ensures.items table_none }

pub loop-line-preserved : goal.loop-line-preserved
loop-line-preserved c =
    let ls = lines c.args.text.now in
    let all = YieldsList-from_slice_split _ (λ byte. byte == 10) c.args.text.now (cc) (cc) (cc) (λ x b q k. search rules) in
    let at = YieldsList-turn all c.loop-line.yielded _ c.loop-line.yielded_by _ _ c.in-Some.line c.in-Some.is c.next.ensures.steps in
    let long = length_push c.loop-line.yielded c.in-Some.line in
    let skipped = rw c.in_default.is at c.in_ok-triple.ensures.found in
    record {
      count = ap (λ n. n + 1) c.loop-line.invariant.count ∙ sym long;
      table = rw (one_more ls (length c.loop-line.yielded) _ c.in-Some.line.now at long) (table_skips _ c.in-Some.line.now _ c.loop-line.invariant.table skipped);
    }

pub loop-line-preserved-in-Continue-branch-3 : goal.loop-line-preserved-in-Continue-branch-3
loop-line-preserved-in-Continue-branch-3 c =
    let ls = lines c.args.text.now in
    let all = YieldsList-from_slice_split _ (λ byte. byte == 10) c.args.text.now (cc) (cc) (cc) (λ x b q k. search rules) in
    let at = YieldsList-turn all c.loop-line.yielded _ c.loop-line.yielded_by _ _ c.in-Some.line c.in-Some.is c.next.ensures.steps in
    let long = length_push c.loop-line.yielded c.in-Some.line in
    let spelled = rw c.in-Some-2.is at c.in_ok-triple.ensures.found in
    let added = ap (set.from_list {R = triple_cmp}) c.in_ok-push.ensures.items ∙ set.from_list_push triple_cmp-total triple_cmp-exact c.loop-line.triples.items c.in-Some-2.triple in
    record {
      count = ap (λ n. n + 1) c.loop-line.invariant.count ∙ sym long;
      table = rw (one_more ls (length c.loop-line.yielded) _ c.in-Some.line.now at long, added) (table_adds _ c.in-Some.line.now _ c.in-Some-2.triple c.loop-line.invariant.table spelled);
    }

pub returns-in_err-triple-clause-refused : goal.returns-in_err-triple-clause-refused
returns-in_err-triple-clause-refused c =
    let ls = lines c.args.text.now in
    let all = YieldsList-from_slice_split _ (λ byte. byte == 10) c.args.text.now (cc) (cc) (cc) (λ x b q k. search rules) in
    let at = YieldsList-turn all c.loop-line.yielded _ c.loop-line.yielded_by _ _ c.in-Some.line c.in-Some.is c.next.ensures.steps in
    let fault = err_from_is_err_and c.from_residual.result c.from_residual.ensures.1 in
    rw (fault.1, fault.2) (fault_from ls (length c.loop-line.yielded) (c.loop-line.number + 1) c.in-Some.line.now c.in_err-triple.field-0.0 at (ap (λ n. n + 1) c.loop-line.invariant.count) c.loop-line.invariant.table.readable c.in_err-triple.ensures.refused)

pub invariant_of-result : goal.invariant_of-result
invariant_of-result c =
    let sorted = c.sort_unstable_by.ensures.sorted (λ x y. is_lt (triple_cmp x y)) (ranks_by triple_cmp-total (λ x. x)) (always_returns_same _ _ _ (λ a r f called. search rules)) in
    let once = dedup_same _ (eq_by_cmp triple_cmp) _ (λ x y b f' x' y' k. search rules) _ _ c.dedup_by.ensures.filtered in
    rw once (IsStrictlySortedBy-dedup triple_cmp-total (λ x y. refl) c.sort_unstable_by.new.self.items sorted)

pub returns-clause-found : goal.returns-clause-found
returns-clause-found c =
    let all = YieldsList-from_slice_split _ (λ byte. byte == 10) c.args.text.now (cc) (cc) (cc) (λ x b q k. search rules) in
    let end = YieldsList-end all c.loop-line.yielded _ c.loop-line.yielded_by _ _ c.in-None.is c.next.ensures.steps in
    let whole = take_all (length c.loop-line.yielded) (lines c.args.text.now) (omega (arith, end.1)) in
    let sorted = from_list-IsPermutation triple_cmp-total triple_cmp-exact c.loop-line.triples.items c.sort_unstable_by.new.self.items c.sort_unstable_by.ensures.permutation in
    let once = dedup_same _ (eq_by_cmp triple_cmp) _ (λ x y b f' x' y' k. search rules) _ _ c.dedup_by.ensures.filtered in
    let same = ap (set.from_list {R = triple_cmp}) once ∙ from_list_once triple_cmp-total triple_cmp-exact c.sort_unstable_by.new.self.items in
    rw same (rw (← sorted) (rw whole at c.loop-line.invariant.table))
