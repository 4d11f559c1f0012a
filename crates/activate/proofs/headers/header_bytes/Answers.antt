use Rattle.std.specs.Prelude.{MatchOption}
use Rattle.std.proofs.Common.{sym, ap, ◌∙◌}
use Rattle.block.specs.BlockOfBytes.{block_of_bytes}
use Rattle.block.specs.Grammar.{header}
use Rattle.activate.proofs.headers.header_bytes.Goals as goal

pub header_of_block-requires : goal.header_of_block-requires
header_of_block-requires c =
    let there = rw c.in-Some.is at c.bytes.ensures in
    (c.args.block.now, ap block_of_bytes c.as_slice.ensures ∙ there)

pub returns-in-Some : goal.returns-in-Some
returns-in-Some c =
    let there = rw c.in-Some.is at c.bytes.ensures in
    c.header_of_block.ensures c.args.block.now (ap block_of_bytes c.as_slice.ensures ∙ there)

pub returns-in-None : goal.returns-in-None
returns-in-None c =
    let there = rw c.in-None.is at c.bytes.ensures in
    c.genesis_header.ensures ∙ sym (ap (λ b. header.spell b.header) there)
