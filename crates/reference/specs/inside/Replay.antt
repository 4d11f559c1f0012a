-- Words for what the functions of `slow` do inside. No public clause needs them.
use Rattle.std.specs.Prelude.{◌≡◌, ℕ, ◌+◌, ◌-◌, ◌==◌, ◌<◌, ◌≤◌, zero, suc, Bool, true, false, nat_lt, ◌&&◌, ◌||◌, if◌then◌else◌, List, [], ◌∷◌, length, map, take, drop, reverse, slice_index_or, Option, None, Some}
use Rattle.std.specs.List.{filter}
use Rattle.txn.specs.declared.reason.Reason.{Reason}
use Rattle.txn.specs.First.{first_broken}
use Rattle.hash.specs.declared.id.Id.{Id}
use Rattle.block.specs.declared.block.Block.{Block}
use Rattle.block.specs.declared.genesis.TheConstants.{GENESIS_ID}
use Rattle.locks.specs.MedianTime.{median_of}
use Rattle.rules.specs.Alone.{alone_rules}
use Rattle.tree.specs.Branches.{Kept, Blocks, down_from, branch, height, parent_at, block_at, id_at, blocks_at}
use Rattle.tree.specs.State.{State, has_no_mark, rank}
use Rattle.tree.specs.Names.{names, genesis}
use Rattle.tree.specs.Limits.{max_blocks}
use Rattle.reference.specs.declared.kept_block.KeptBlock.{KeptBlock}
use Rattle.reference.specs.declared.branch_replay.Chain.{Chain}
use Rattle.reference.specs.declared.branch_replay.Trial.{Trial}
use Rattle.reference.specs.declared.branch_replay.Trial.TheVariants.{Valid, Fails, Below}
use Rattle.reference.specs.declared.judgement.Judgement.{Judgement}
use Rattle.reference.specs.declared.state.Replayed.{Replayed}
use Rattle.model.specs.declared.reply.SubmitReply.{SubmitReply}
use Rattle.model.specs.declared.reply.SubmitReply.TheVariants.{Inconclusive, Rejected}
use Rattle.model.specs.Rules.{Rules}
use Rattle.model.specs.Valid.{fault_over}
use Rattle.model.specs.Regtest.{regtest}
use Rattle.model.specs.StateInvariant.{AllKept}

abbrev pub chain_rules : Chain → Rules Block Id
chain_rules chain = regtest chain.params.now chain.table.now

-- ---- the blocks that are held

abbrev pub kept_of : KeptBlock → Kept Block
kept_of h = record { block = h.block; parent = h.parent }

-- the first one is genesis
unfoldable pub blocks_of : List KeptBlock → Blocks Block
blocks_of held = reverse (map kept_of (drop 1 held))

-- a block that is held, by its place
pub record IsKeptBlock (t : Blocks Block) (p : ℕ) (h : KeptBlock) : Type 0 where
  pub block : h.block ≡ block_at names t p
  pub id : h.id ≡ id_at names t p
  pub parent : h.parent ≡ parent_at t p

abbrev pub AreKeptBlocks : Blocks Block → List KeptBlock → Type 0
AreKeptBlocks t held = (p : ℕ) (d : KeptBlock) → p < length held → IsKeptBlock t p (slice_index_or held p d)

abbrev pub first_kept : KeptBlock
first_kept = record { block = genesis; id = GENESIS_ID; parent = 0; trial = Valid }

abbrev pub block_in : List KeptBlock → ℕ → Block
block_in held p = (slice_index_or held p first_kept).block

abbrev pub blocks_in : List KeptBlock → List ℕ → List Block
blocks_in held places = map (block_in held) places

-- the places of a branch are those of blocks, all but the last of blocks that have no fault by themselves
pub record AreAlone (held : List KeptBlock) (places : List ℕ) : Type 0 where
  pub kept : (i : ℕ) → i < length places → slice_index_or places i 0 < length held
  pub alone : (i : ℕ) → i + 1 < length places → first_broken (alone_rules (block_in held (slice_index_or places i 0))) ≡ None

-- ---- the replay of a branch, the newest block first

-- of times, the newest first: the median from each on
abbrev pub medians_in : List ℕ → List ℕ
medians_in [] = []
medians_in (x ∷ older) = median_of (take 11 (x ∷ older)) ∷ medians_in older

abbrev pub trial_after : Trial → Option Reason → Trial
trial_after Valid None = Valid
trial_after Valid (Some reason) = Fails reason
trial_after (Fails reason) fault = Below
trial_after Below fault = Below

unfoldable pub trial_on : Rules Block Id → List Block → Trial
trial_on r [] = Valid
trial_on r (b ∷ older) = trial_after (trial_on r older) (fault_over r older b)

abbrev pub is_valid : Trial → Bool
is_valid Valid = true
is_valid (Fails reason) = false
is_valid Below = false

abbrev pub is_first : Trial → Bool
is_first Valid = false
is_first (Fails reason) = true
is_first Below = false

-- the blocks of the branch of a place
abbrev pub blocks_before : Blocks Block → ℕ → List Block
blocks_before t p = blocks_at names t (branch t p)

-- what was found of each block that is held is what the replay of its branch comes to
abbrev pub AreTried : Rules Block Id → Blocks Block → List KeptBlock → Type 0
AreTried r t held = (p : ℕ) (d : KeptBlock) → p < length held
    → (slice_index_or held p d).trial ≡ trial_on r (blocks_before t p)

-- ---- the state

abbrev pub is_flagged : List Bool → ℕ → Bool
is_flagged flags p = slice_index_or flags p false

-- the places with the flag, the newest first
unfoldable pub places_of : List Bool → List ℕ
places_of flags = filter (is_flagged flags) (down_from (length flags - 1))

unfoldable pub state_of_replayed : Replayed → State Block
state_of_replayed old = record {
  blocks = blocks_of old.held.items;
  bad = places_of old.bad.items;
  seen = places_of old.seen.items;
  precious = reverse old.calls.items;
}

-- what is always right
pub record IsRight (r : Rules Block Id) (old : Replayed) : Type 0 where
  pub some : 0 < length old.held.items
  pub room : length old.held.items ≤ max_blocks
  pub held : AreKeptBlocks (blocks_of old.held.items) old.held.items
  pub tried : AreTried r (blocks_of old.held.items) old.held.items
  pub kept : AllKept r (blocks_of old.held.items)
  pub bad : length old.bad.items ≡ length old.held.items
  pub seen : length old.seen.items ≡ length old.held.items
  pub genesis : is_flagged old.bad.items 0 ≡ false

-- ---- what is found of each block

unfoldable pub judgement_at : Rules Block Id → State Block → ℕ → Judgement
judgement_at r s p = record {
  trial = trial_on r (blocks_before s.blocks p);
  usable = has_no_mark s p;
  height = height s.blocks p;
  rank = rank s p;
}

-- the first n blocks are judged
abbrev pub AreJudged : Rules Block Id → State Block → List Judgement → ℕ → Type 0
AreJudged r s judged n = (p : ℕ) (d : Judgement) → p < n → slice_index_or judged p d ≡ judgement_at r s p

pub record AreJudgements (r : Rules Block Id) (s : State Block) (judged : List Judgement) : Type 0 where
  pub same : length judged ≡ suc (length s.blocks)
  pub each : (p : ℕ) (d : Judgement) → p ≤ length s.blocks → slice_index_or judged p d ≡ judgement_at r s p

-- a block without branch and calls
abbrev pub no_judgement : Judgement
no_judgement = record { trial = Below; usable = false; height = 0; rank = 0 }

abbrev pub judgement_in : List Judgement → ℕ → Judgement
judgement_in judged p = slice_index_or judged p no_judgement

-- whether the first of two is better, where they came as these places say
abbrev pub above : Judgement → ℕ → Judgement → ℕ → Bool
above x a y b = nat_lt y.height x.height || ((x.height == y.height) && (nat_lt y.rank x.rank || ((x.rank == y.rank) && nat_lt a b)))

abbrev pub is_near : List Judgement → ℕ → ℕ → Bool
is_near judged a c = (judgement_in judged c).usable && ((c == a) || above (judgement_in judged c) c (judgement_in judged a) a)

-- one of the first n passes
unfoldable pub any_below : (ℕ → Bool) → ℕ → Bool
any_below passes zero = false
any_below passes (suc n) = passes n || any_below passes n

-- the answer to a block that isn't the active one
abbrev pub reply_by_trial : Bool → Trial → SubmitReply
reply_by_trial is_bad Valid = Inconclusive
reply_by_trial is_bad (Fails reason) = if is_bad then Rejected reason else Inconclusive
reply_by_trial is_bad Below = Inconclusive
