use Rattle.std.proofs.Common.{◌*◌, ℕ, List, inl, inr, sym, ap, ◌∙◌, arith}
use Rattle.std.proofs.lemmas.Bool.{cases_lt}
use Rattle.sha2.specs.Sha256.{compress, word_at}
use Rattle.lanes.specs.inside.Messages.{message_at}
use Rattle.lanes.specs.inside.PaddedBlocks.{block, block_count}
use Rattle.lanes.proofs.PaddedMessage.{all_blocks, no_more, none_yet, one_more}
use Rattle.lanes.proofs.many.hash_values.Goals as goal

pub turns-init : goal.turns-init
turns-init c = λ l lt. c.initial-state.ensures l lt ∙ sym (none_yet (message_at c.args.messages.now l))

pub turns-preserved : goal.turns-preserved
turns-preserved c = λ l lt.
    let m : List ℕ = message_at c.args.messages.now l in
    let i : ℕ = c.turns.i in
    let count = c.requires.counts l lt in
    elim (cases_lt i (block_count m)) [
      | inl has ↦
          c.kept-state.ensures.on l lt (c.running.ensures.on l lt (omega (arith, has, count)))
          ∙ c.compressed-next.ensures l lt (block m i) (λ k kt. c.load.ensures l lt k kt ∙ ap (λ (b : List ℕ). word_at b (4 * k)) (c.blocks-blocks.ensures l lt has))
          ∙ ap (λ (h : List ℕ). compress h (block m i)) (c.turns.invariant l lt) ∙ one_more m i has
      | inr ended ↦ c.kept-state.ensures.off l lt (c.running.ensures.off l lt (omega (arith, ended, count))) ∙ c.turns.invariant l lt ∙ no_more m i ended
    ]

pub returns : goal.returns
returns c = λ l lt.
    let m : List ℕ = message_at c.args.messages.now l in
    c.turns.invariant l lt ∙ all_blocks m c.turns.i (omega (arith, c.turns-test.false, c.most-i-end.ensures l lt, c.requires.counts l lt))
