-- How real blocks are named.
use Rattle.std.specs.Ordering.{eq_by_cmp}
use Rattle.hash.specs.declared.id.Id.{Id}
use Rattle.hash.specs.Id.{id_cmp}
use Rattle.block.specs.declared.block.Block.{Block}
use Rattle.block.specs.Genesis as block
use Rattle.block.specs.Identity.{id_of}
use Rattle.block.specs.StoredBlock.{genesis_alone}
use Rattle.tree.specs.BlockNames.{Naming}

-- regtest's, without its transaction, which makes no coin; nothing is ever asked of it, so it isn't kept
abbrev pub genesis : Block
genesis = genesis_alone

abbrev pub names : Naming Block Id
names = record {
  same_id = eq_by_cmp id_cmp;
  id_of = λ b. id_of b.header;
  parent_of = λ b. b.header.prev;
  genesis = genesis;
  genesis_id = block.id;
}
