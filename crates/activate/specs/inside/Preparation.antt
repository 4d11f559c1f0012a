-- Words for what `Core` prepares for a command, before it puts it in place. No public clause needs them.
use Rattle.std.specs.Prelude.{◌≡◌, ℕ, ◌+◌, ◌-◌, ◌==◌, if◌then◌else◌, ◌≤◌, true, false, List, [], length, map, reverse, ⊤}
use Rattle.hash.specs.declared.id.Id.{Id}
use Rattle.block.specs.declared.block.Block.{Block}
use Rattle.coins.specs.declared.coin.Coin.{Coin}
use Rattle.coins.specs.Changes.{Changes, AreChanges}
use Rattle.tree.specs.Branches.{Blocks, has, height, on}
use Rattle.tree.specs.State.{State, has_no_mark, with_block, with_call}
use Rattle.tree.specs.Nodes.{AreMarks, CanKeep, laid}
use Rattle.tree.specs.Sound.{IsBest}
use Rattle.tree.specs.laws.Sets.{InOrder}
use Rattle.model.specs.declared.command.Command.{Command}
use Rattle.model.specs.declared.command.Command.TheVariants as command
use Rattle.activate.specs.declared.path.ActiveBranch.{ActiveBranch}
use Rattle.activate.specs.declared.path.TryOutcome.{TryOutcome}
use Rattle.activate.specs.declared.plan.Prepared.{Prepared}
use Rattle.activate.specs.declared.plan.Settled.{Settled}
use Rattle.activate.specs.declared.plan.Edit.{Edit}
use Rattle.activate.specs.declared.plan.Edit.TheVariants.{Leave, Keep, Call, Remark}
use Rattle.activate.specs.declared.plan.Completion.{Completion}
use Rattle.activate.specs.declared.plan.Completion.TheVariants.{Nothing, Flag, Activate}
use Rattle.model.specs.declared.reply.Reply.{Reply}
use Rattle.model.specs.declared.reply.SubmitReply.{SubmitReply}
use Rattle.model.specs.declared.reply.SubmitReply.TheVariants.{Inconclusive, Rejected}
use Rattle.activate.specs.declared.path.FailedTry.{FailedTry}
use Rattle.activate.specs.declared.path.BranchPath.{BranchPath}
use Rattle.model.specs.Rules.{Rules}
use Rattle.model.specs.Valid.{branch_connects}
use Rattle.model.specs.Settle.{active, on_candidate, settle}
use Rattle.model.specs.Try.{state_after_try}
use Rattle.model.specs.StateInvariant.{AllKept}
use Rattle.model.specs.Commands.{outcome}
use Rattle.model.specs.Submission.{Outcome, answer_added}
use Rattle.activate.specs.CoreState.{CoreState, coins_of, lesser_of, most_undo}
use Rattle.activate.specs.Lookups.{undo_at}
use Rattle.activate.specs.inside.Paths.{FailsAt, IsTryOutcome, IsPath}

-- the command submits nothing
abbrev pub IsNoSubmission : Command → Type 0
IsNoSubmission (command.Submit bytes now) = ⊥
IsNoSubmission c = ⊤

-- what is always right of the flags between two tries: the active branch is valid and was seen
pub record CanTry (r : Rules Block Id) (c : CoreState) : Type 0 where
  pub genesis : has_no_mark c.state 0 ≡ true
  pub kept : c.active ≤ length c.state.blocks
  pub all : AllKept r c.state.blocks
  pub good : branch_connects r c.state.blocks c.active ≡ true
  pub seen : (x : ℕ) → on c.state.blocks c.active x ≡ true → has c.state.seen x ≡ true
  pub bad_in_order : InOrder (length c.state.blocks) c.state.bad
  pub seen_in_order : InOrder (length c.state.blocks) c.state.seen

-- the flags of s are those between two tries, where the block at a is active
pub record HasFlags (s : State Block) (a : ℕ) : Type 0 where
  pub seen : (x : ℕ) → on s.blocks a x ≡ true → has s.seen x ≡ true
  pub bad_in_order : InOrder (length s.blocks) s.bad
  pub seen_in_order : InOrder (length s.blocks) s.seen

-- a path to a block whose branch is valid
pub record IsValidPath (r : Rules Block Id) (s : State Block) (a p : ℕ) (path : BranchPath) : Type 0 where
  pub kept : p ≤ length s.blocks
  pub leads : IsPath s.blocks a p path
  pub good : branch_connects r s.blocks p ≡ true
  pub flags : HasFlags s a

-- a try of a block that failed
pub record IsFailedTry (r : Rules Block Id) (s : State Block) (a p : ℕ) (failed : FailedTry) : Type 0 where
  pub kept : p ≤ length s.blocks
  pub fails : FailsAt r s.blocks a p failed
  pub flags : HasFlags s a

-- the tree may be flagged by a try of p that failed
pub record CanFlag (r : Rules Block Id) (c : CoreState) (p : ℕ) (failed : FailedTry) : Type 0 where
  pub can : CanTry r c
  pub kept : p ≤ length c.state.blocks
  pub fails : FailsAt r c.state.blocks c.active p failed

-- ---- what a try found, put in place

-- the block at p may become active
pub record CanActivate (r : Rules Block Id) (c : CoreState) (p : ℕ) (path : BranchPath) (undo : List (List (List Coin))) : Type 0 where
  pub can : CanTry r c
  pub kept : p ≤ length c.state.blocks
  pub is_way : IsPath c.state.blocks c.active p path
  pub good : branch_connects r c.state.blocks p ≡ true
  pub undo_is : undo ≡ reverse (map (undo_at c.state.blocks) path.up.items)

abbrev pub CanFinish : Rules Block Id → CoreState → Completion → Type 0
CanFinish r c Nothing = ⊤
CanFinish r c (Flag p failed) = CanFlag r c p failed
CanFinish r c (Activate p path undo) = CanActivate r c p path undo

-- of so many blocks undo is kept after a path was gone: not of those that were taken back, and at most of the highest
abbrev pub undo_after : Blocks Block → ℕ → ℕ → BranchPath → ℕ
undo_after t a kept path = lesser_of most_undo ((kept - (height t a - path.height)) + length path.up.items)

-- the block at p is active, and the path to it was seen
abbrev pub core_after_activation : Rules Block Id → CoreState → ℕ → BranchPath → CoreState
core_after_activation r c p path = record c {
  state = state_after_try r c.state p;
  active = p;
  undo_kept = undo_after c.state.blocks c.active c.undo_kept path;
}

abbrev pub core_after_finish : Rules Block Id → CoreState → Completion → CoreState
core_after_finish r c Nothing = c
core_after_finish r c (Flag p failed) = record c { state = state_after_try r c.state p }
core_after_finish r c (Activate p path undo) = core_after_activation r c p path

-- ---- what changes in the tree before

abbrev pub CanEdit : State Block → Edit → Type 0
CanEdit s Leave = ⊤
CanEdit s (Keep new) = CanKeep s new
CanEdit s (Call p) = p ≤ length s.blocks
CanEdit s (Remark marks) = AreMarks s marks

abbrev pub edited_state : State Block → Edit → State Block
edited_state s Leave = s
edited_state s (Keep new) = with_block s new.block new.parent
edited_state s (Call p) = with_call s p
edited_state s (Remark marks) = laid s marks

abbrev pub edited : CoreState → Edit → CoreState
edited c edit = record c { state = edited_state c.state edit }

-- ---- the whole of it

pub record IsReady (r : Rules Block Id) (c : CoreState) (prepared : Prepared) : Type 0 where
  pub edit : CanEdit c.state prepared.edit
  pub rest : CanFinish r (edited c prepared.edit) prepared.rest

abbrev pub core_after_commit : Rules Block Id → CoreState → Prepared → CoreState
core_after_commit r c prepared = core_after_finish r (edited c prepared.edit) prepared.rest

-- ---- tries

-- t is s with other marks
pub record HasOtherMarks (s t : State Block) : Type 0 where
  pub blocks_are : t.blocks ≡ s.blocks
  pub precious_is : t.precious ≡ s.precious

-- over the active block of c tries led from s to t
pub record TriesLead (r : Rules Block Id) (c : CoreState) (s t : State Block) : Type 0 where
  pub other : HasOtherMarks s t
  pub can : CanTry r (record c { state = t })
  pub settles : settle r t ≡ settle r s
  pub active_is : active r t ≡ active r s
  pub candidates : (x : ℕ) → on_candidate r t x ≡ true → on_candidate r s x ≡ true

-- one try of the block at p settles the state, valid or not; if it isn't valid, the active block stays
pub record IsOneTry (r : Rules Block Id) (c : CoreState) (p : ℕ) : Type 0 where
  pub settles : settle r c.state ≡ state_after_try r c.state p
  pub stays : branch_connects r c.state.blocks p ≡ false → active r c.state ≡ c.active

-- of a try that failed: the last block of the branch is the first that doesn't connect, or isn't
unfoldable pub reply_to_failed_try : FailedTry → SubmitReply
reply_to_failed_try failed = if failed.passed + 1 == length failed.path.up.items then Rejected failed.reason else Inconclusive

-- ---- what a command does

-- it leaves this outcome of the state, and the coins change as it says
pub record IsPreparationFor (r : Rules Block Id) (c : CoreState) (after : Outcome Block) (prepared : Prepared) : Type 0 where
  pub outcome_is : ((core_after_commit r c prepared).state, prepared.reply) ≡ after
  pub active_is : (core_after_commit r c prepared).active ≡ active r (core_after_commit r c prepared).state
  pub changes_are : AreChanges (coins_of c) (coins_of (core_after_commit r c prepared)) prepared.changes
  pub ready : IsReady r c prepared

abbrev pub IsPreparation : Rules Block Id → CoreState → Command → Prepared → Type 0
IsPreparation r c command prepared = IsPreparationFor r c (outcome r c.state command) prepared

-- what is prepared for a command that changes nothing
pub record ChangesNothing (reply : Reply) (prepared : Prepared) : Type 0 where
  pub reply_is : prepared.reply ≡ reply
  pub edit_is : prepared.edit ≡ Leave
  pub rest_is : prepared.rest ≡ Nothing
  pub changes_are : prepared.changes ≡ []

-- this settles the state of c
pub record Settles (r : Rules Block Id) (c : CoreState) (rest : Completion) (changes : Changes) : Type 0 where
  pub state_is : (core_after_finish r c rest).state ≡ settle r c.state
  pub active_is : (core_after_finish r c rest).active ≡ active r c.state
  pub changes_are : AreChanges (coins_of c) (coins_of (core_after_finish r c rest)) changes
  pub ready : CanFinish r c rest

-- a try of the block at p settles the state of c, and this came of it
pub record IsTried (r : Rules Block Id) (c : CoreState) (p : ℕ) (attempt : TryOutcome) : Type 0 where
  pub can : CanTry r c
  pub best : IsBest c.state (has_no_mark c.state) (length c.state.blocks) p
  pub one_try : IsOneTry r c p
  pub came : IsTryOutcome r c.state.blocks c.active p attempt

-- this settles the state of c, and this is the answer to the block at p
pub record IsSettledBy (r : Rules Block Id) (c : CoreState) (p : ℕ) (settled : Settled) : Type 0 where
  pub settles : Settles r c settled.rest settled.changes
  pub said : settled.said ≡ answer_added r (settle r c.state) p

-- with one block more, on p
abbrev pub core_with_block : CoreState → Block → ℕ → CoreState
core_with_block c b p = record c { state = with_block c.state b p }

-- of the active branch, as a try looks at it
abbrev pub core_of : ActiveBranch → CoreState
core_of b = record { params = b.params.now; state = b.tree.now; active = b.active; undo_kept = length b.undo.now.items }
