-- The id of a block.
use Rattle.hash.specs.Double.{double_sha}
use Rattle.hash.specs.declared.id.Id.{Id}
use Rattle.block.specs.declared.header.Header.{Header}
use Rattle.block.specs.Grammar.{header}

-- double SHA-256 of the header's spelling alone
abbrev pub id_of : Header → Id
id_of h = record { 0 = double_sha (header.spell h) }
