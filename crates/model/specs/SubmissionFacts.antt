-- What is known of a submission before any chain is asked.
use Rattle.std.specs.Prelude.{◌≡◌, ℕ, List, Option, Some, None}
use Rattle.txn.specs.First.{first_broken}
use Rattle.txn.specs.Identity.{ids_of}
use Rattle.block.specs.BlockOfBytes.{block_of_bytes}
use Rattle.block.specs.Identity.{id_of}
use Rattle.rules.specs.Alone.{alone_rules}
use Rattle.model.specs.declared.submission.SubmittedBlock.{SubmittedBlock}

-- with a block come its id, its transactions' ids, and the first rule that it breaks by itself
pub record IsJudged (b : SubmittedBlock) : Type 0 where
  pub id : b.id ≡ id_of b.block.header
  pub ids : b.ids.items ≡ ids_of b.block.txs
  pub fault : b.fault ≡ first_broken (alone_rules b.block)

-- these bytes spell that block, or none
abbrev pub IsSubmission : List ℕ → Option SubmittedBlock → Type 0
IsSubmission bytes None = block_of_bytes bytes ≡ None
IsSubmission bytes (Some b) = (block_of_bytes bytes ≡ Some b.block) × IsJudged b
