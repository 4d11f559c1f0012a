use Rattle.std.proofs.Common.{◌∙◌, ap, ℕ, List}
use Rattle.ripemd.specs.Block.{after_block, end_of_block}
use Rattle.ripemd.specs.inside.Lines.{lines_after}
use Rattle.ripemd.specs.declared.block.Lines.{Lines}
use Rattle.ripemd.proofs.Steps.{lines_start}
use Rattle.ripemd.proofs.block.absorb.Goals as goal

pub returns : goal.returns
unfolding after_block
returns c =
    let h = c.args.h in
    let start = c.round.ensures h (lines_start c.words-words.result h) in
    let end = c.round-end.ensures h (c.round-4.ensures h (c.round-3.ensures h (c.round-2.ensures h start))) in
    c.combine.ensures ∙ ap (λ (lines : Lines). end_of_block h lines.left lines.right) end
    ∙ ap (λ (x : List ℕ). end_of_block h (lines_after x h 80).left (lines_after x h 80).right) c.words-words.ensures
