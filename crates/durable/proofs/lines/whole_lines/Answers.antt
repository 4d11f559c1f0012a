use Rattle.std.proofs.Common.{◌≡◌, ◌+◌, ◌++◌, ◌∷◌, [], ◌<◌, ◌∙◌, sym, ap, subst, take, drop, length, rules, arith, length-drop, length-append, List, ℕ}
use Rattle.std.proofs.lemmas.List.{drop-drop, take_rest}
use Rattle.durable.specs.Lines.{lines, IsLine}
use Rattle.durable.proofs.Whole.{line_joins, lines_rest}
use Rattle.durable.proofs.lines.whole_lines.Goals as goal

pub returns-clause-count : goal.returns-clause-count
returns-clause-count c =
    let i = c.loop-len.invariant in
    i.count_is ∙ ap length (lines_rest c.loop-len.end c.args.bytes.now i.whole (ap lines (sym i.rest_is) ∙ search rules))

pub loop-len-preserved : goal.loop-len-preserved
loop-len-preserved c =
    let i = c.loop-len.invariant in
    let n = c.loop-len.end in
    let len = c.in-Some.len in
    let file = c.args.bytes.now in
    let e = c.in-Some.ensures in
    let at = subst (λ (l : List ℕ). (len < length l) × IsLine (take len l) × (l ≡ take len l ++ 10 ∷ drop (len + 1) l)) i.rest_is e in
    let joins = line_joins file n len i.whole at.1 at.2 at.0 in
    record {
      rest_is = take_rest c.loop-len.rest.now (len + 1) ∙ ap (λ (l : List ℕ). drop (len + 1) l) i.rest_is ∙ drop-drop (len + 1) n file;
      within = omega (arith, i.within, at.0, length-drop n file);
      whole = joins.0;
      count_is = omega (arith, i.count_is, ap length joins.1, length-append (lines (take n file)) (take len (drop n file) ∷ []));
      few = omega (arith, i.few);
    }
