-- The blocks that a history's submissions brought.
use Rattle.std.specs.Prelude.{◌≡◌, ◌<◌, ◌⊎◌, ℕ, suc, Bool, true, false, List, [], ◌∷◌, length, Option, None, Some}
use Rattle.block.specs.declared.block.Block.{Block}
use Rattle.block.specs.BlockOfBytes.{block_of_bytes}
use Rattle.block.specs.Identity.{id_of}
use Rattle.tree.specs.Branches.{Blocks, place_of}
use Rattle.tree.specs.Limits.{max_blocks}
use Rattle.tree.specs.Names.{names}
use Rattle.node.specs.Pass.{Heard}
use Rattle.model.specs.declared.command.Command.TheVariants as command
use Rattle.model.specs.declared.entry.Entry.{Entry}
use Rattle.model.specs.declared.reply.Reply.{Reply}
use Rattle.model.specs.declared.reply.Reply.TheVariants as reply
use Rattle.model.specs.declared.reply.SubmitReply.{SubmitReply}
use Rattle.model.specs.declared.reply.SubmitReply.TheVariants.{Accepted, Inconclusive, Duplicate, DuplicateInvalid, DuplicateInconclusive, Rejected, DecodeFailed, TreeFull}

-- a submission of this reply is kept, as a block that may be on the active branch
abbrev pub is_kept : SubmitReply → Bool
is_kept Accepted = true
is_kept Inconclusive = true
is_kept Duplicate = false
is_kept DuplicateInvalid = false
is_kept DuplicateInconclusive = false
is_kept (Rejected why) = false
is_kept DecodeFailed = false
is_kept TreeFull = false

-- it wasn't refused; nothing is known of an owed reply
abbrev pub may_be_kept : Option Reply → Bool
may_be_kept None = true
may_be_kept (Some (reply.Submit r)) = is_kept r
may_be_kept (Some (reply.Mark r)) = false

-- an entry brings a block to a tree, on the parent at this place: of a submission that may be kept, where its id is new, its
-- parent is there, and there is room
pub record IsBrought (t : Blocks Block) (e : Entry) (b : Block) (parent : ℕ) : Type 0 where
  pub bytes : List ℕ
  pub now : ℕ
  pub command_is : e.command ≡ command.Submit bytes now
  pub block_is : block_of_bytes bytes ≡ Some b
  pub kept : may_be_kept e.reply ≡ true
  pub new : place_of names t (id_of b.header) ≡ None
  pub room : suc (length t) < max_blocks
  pub parent_is : place_of names t b.header.prev ≡ Some parent

abbrev pub BringsNothing : Blocks Block → Entry → Type 0
BringsNothing t e = (b : Block) (parent : ℕ) → ¬ IsBrought t e b parent

-- what an entry makes of a tree
abbrev pub IsTreeAfter : Blocks Block → Entry → Blocks Block → Type 0
IsTreeAfter t e u = ((u ≡ t) × BringsNothing t e)
    ⊎ ((b : Block) × (parent : ℕ) × IsBrought t e b parent × (u ≡ record { block = b; parent = parent } ∷ t))

-- and several, one after the other
abbrev pub AreBrought : Blocks Block → List Entry → Blocks Block → Type 0
AreBrought t [] u = u ≡ t
AreBrought t (e ∷ es) u = (v : Blocks Block) × IsTreeAfter t e v × AreBrought v es u

-- an index of blocks: the beginning of the history that it is of, of how many of its entries, and their blocks
pub record Index : Type 0 where
  pub seen : List Entry
  pub steps : ℕ
  pub blocks : Blocks Block

abbrev pub seen_by : Option Heard → List Entry
seen_by None = []
seen_by (Some note) = note.seen
