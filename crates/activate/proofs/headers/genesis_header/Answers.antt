use Rattle.std.proofs.Common.{◌∙◌}
use Rattle.block.specs.Genesis as genesis
use Rattle.activate.proofs.FirstBytes.{front_is, front_long, genesis_at_front}
use Rattle.activate.proofs.headers.genesis_header.Goals as goal

pub header_at_front-requires : goal.header_at_front-requires
header_at_front-requires c = front_long genesis.header _ (genesis_at_front _ c.genesis_is_its_parts.ensures.bytes)

pub returns : goal.returns
returns c = c.header_at_front.ensures ∙ front_is genesis.header _ (genesis_at_front _ c.genesis_is_its_parts.ensures.bytes)
