use Rattle.std.proofs.Common.{◌∙◌, sym, ap, arith}
use Rattle.block.specs.BlockOfBytes.{block_of_bytes}
use Rattle.block.specs.Identity.{id_of}
use Rattle.tree.specs.Branches.{place_of}
use Rattle.tree.specs.Names.{names}
use Rattle.tree.specs.laws.AddedBlock.{place-bound}
use Rattle.server.proofs.Brought.{brought_so, none_there}
use Rattle.server.proofs.blocks.brought_by.Goals as goal

pub returns : goal.returns
returns c =
    let t = c.args.tree.now.blocks in
    let few = c.if-len-ge-MAX_BLOCKS.false in
    let count = c.len.ensures.count in
    let up = sym c.find-2.ensures ∙ c.in-Some.is in (
      brought_so t c.args.entry.now c.in-Ok.block c.of-block.result c.in-Submit.bytes _ c.in-Some.parent
          c.in-Submit.is
          (ap block_of_bytes (sym c.as_slice.ensures) ∙ (rw c.in-Ok.is at c.read.ensures.exact))
          (sym c.may_be_kept.ensures ∙ c.if-not-may_be_kept.false)
          (ap (place_of names t) (sym c.id-id.ensures) ∙ sym c.find.ensures ∙ none_there c.find.result (sym c.is_some.ensures ∙ c.if-is_some.false))
          (omega arith) up c.of-block.ensures,
      record {
        room = omega arith;
        id = c.id-id.ensures ∙ ap (λ b. id_of b.header) (sym c.of-block.ensures);
        parent = place-bound names t c.in-Ok.block.header.prev c.in-Some.parent up;
      },
    )
