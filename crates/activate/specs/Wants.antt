-- What a step wants: all signatures that scripts of one or more of the blocks that it tries ask for. A block above another
-- one that wants is among them: its coins are those of its branch, whatever scripts say.
use Rattle.std.specs.Prelude.{◌≡◌, ℕ, ◌<◌, ◌≤◌, true, false, List, length, Some, All}
use Rattle.std.specs.List.{flat_map}
use Rattle.hash.specs.declared.id.Id.{Id}
use Rattle.block.specs.declared.block.Block.{Block}
use Rattle.block.specs.BlockOfBytes.{block_of_bytes}
use Rattle.signatures.specs.Known.{Known, Under}
use Rattle.signatures.specs.Triple.{Triple}
use Rattle.rules.specs.declared.params.Params.{Params}
use Rattle.connect.specs.Scripts.{AreWantedByBlock}
use Rattle.tree.specs.Branches.{Blocks, block_at, height, on, parent_at, place_of}
use Rattle.tree.specs.Names.{names}
use Rattle.tree.specs.State.{State, with_block, with_call, with_mark, without_marks}
use Rattle.model.specs.Faults.{IsNew}
use Rattle.model.specs.Regtest.{regtest, setting_on}
use Rattle.model.specs.Settle.{on_candidate}
use Rattle.model.specs.Step.{Request, Submit, Invalidate, Reconsider, Precious}
use Rattle.model.specs.declared.command.Command.{Command}
use Rattle.model.specs.declared.command.Command.TheVariants as command
use Rattle.activate.specs.CoreState.{CoreState, branch_blocks, coins_after}

-- the block at a place wants them over the coins of its parent's branch, on which it comes
abbrev pub AreWantedAt : Params → Blocks Block → Known → ℕ → List Triple → Type 0
AreWantedAt params t known p list =
    let parent = parent_at t p in
    AreWantedByBlock (setting_on params (branch_blocks t parent)) (coins_after t parent) (block_at names t p).txs known list

-- a block that is tried does: it is on the branch of a candidate, and not on the active one
pub record AreWantedByTried (c : CoreState) (known : Known) (list : List Triple) : Type 0 where
  pub place : ℕ
  pub kept : place ≤ length c.state.blocks
  pub candidate : Under known (λ triples. on_candidate (regtest c.params triples) c.state place ≡ true)
  pub inactive : on c.state.blocks c.active place ≡ false
  pub wanted : AreWantedAt c.params c.state.blocks known place list

-- several lists one behind the other, at least one, and so is each
pub record AreJoined (Is : List Triple → Type 0) (list : List Triple) : Type 0 where
  pub parts : List (List Triple)
  pub some : 0 < length parts
  pub each : All Is parts
  pub list_is : list ≡ flat_map (λ part. part) parts

-- what blocks that are tried want, one behind the other
abbrev pub AreWantedToSettle : CoreState → Known → List Triple → Type 0
AreWantedToSettle c known list = AreJoined (AreWantedByTried c known) list

-- what a request does to the state before blocks are tried. There is no such state where it tries none
abbrev pub IsToSettle : CoreState → Known → Request Block Id → State Block → Type 0
IsToSettle c known (Submit now b) s =
    (p : ℕ) × Under known (λ triples. IsNew (regtest c.params triples) c.state now b p) × (s ≡ with_block c.state b p)
IsToSettle c known (Invalidate id) s =
    (p : ℕ) × (place_of names c.state.blocks id ≡ Some p) × (0 < p) × (s ≡ with_mark c.state p)
IsToSettle c known (Reconsider id) s = (p : ℕ) × (place_of names c.state.blocks id ≡ Some p) × (s ≡ without_marks c.state p)
IsToSettle c known (Precious id) s =
    (p : ℕ) × (place_of names c.state.blocks id ≡ Some p) × (height c.state.blocks c.active ≤ height c.state.blocks p) × (s ≡ with_call c.state p)

pub record AreWantedBy (c : CoreState) (request : Request Block Id) (known : Known) (list : List Triple) : Type 0 where
  pub state : State Block
  pub to_settle : IsToSettle c known request state
  pub wanted : AreWantedToSettle (record c { state = state }) known list

-- a command's step wants what its request does; bytes that spell no block want nothing
abbrev pub AreWantedByStep : CoreState → Command → Known → List Triple → Type 0
AreWantedByStep c (command.Submit bytes now) known list =
    (b : Block) × (block_of_bytes bytes ≡ Some b) × AreWantedBy c (Submit now b) known list
AreWantedByStep c (command.Invalidate id) known list = AreWantedBy c (Invalidate id) known list
AreWantedByStep c (command.Reconsider id) known list = AreWantedBy c (Reconsider id) known list
AreWantedByStep c (command.Precious id) known list = AreWantedBy c (Precious id) known list
AreWantedByStep c (command.Learn triple valid) known list = ⊥
