use Rattle.std.proofs.Common.{drop, sym, ◌∙◌, arith, length-drop}
use Rattle.std.proofs.lemmas.List.{take_rest}
use Rattle.signatures.proofs.Words.{words_none, words_from, words_first}
use Rattle.signatures.proofs.lines.first_word.Goals as goal

pub returns-in_err-line : goal.returns-in_err-line
returns-in_err-line c = rw c.from_residual.ensures (words_none c.args.line.now (sym c.in_err-line.ensures))

pub returns : goal.returns
returns c =
    let line = c.args.line.now in
    let i = c.in_ok-line.field-0 in
    let from = words_from line i (sym c.word_start.ensures ∙ c.in_ok-line.was) in
    let rest = take_rest line i in
    let end = rw (c.word_end.ensures, rest) at c.unwrap_or-end.ensures in
    let word = words_first (drop i line) c.unwrap_or-end.result (omega (arith, length-drop i line, from.0)) from.2 end in
    let split = c.split_at.ensures in
    rw (split.front, split.back, rest) (word.0, from.1 ∙ word.1)
