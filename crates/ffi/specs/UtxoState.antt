-- Coins that are given, apart from any chainstate, with what is known of signatures.
use Rattle.std.specs.Prelude.{◌≡◌, ℕ, ◌⊎◌, Bool, List, [], Option, None, Some}
use Rattle.std.specs.FinMap as coin_map
use Rattle.std.specs.FinSet as set
use Rattle.txn.specs.declared.outpoint.OutPoint.{OutPoint}
use Rattle.txn.specs.declared.reason.Reason.{Reason}
use Rattle.txn.specs.First.{first_broken}
use Rattle.block.specs.declared.block.Block.{Block}
use Rattle.signatures.specs.Known.{Known, Verdicts, verdict_in, with_verdict}
use Rattle.signatures.specs.Triple.{Triple, Triples}
use Rattle.coins.specs.declared.coin.Coin.{Coin}
use Rattle.coins.specs.Coins.{Coins}
use Rattle.rules.specs.Alone.{alone_rules}
use Rattle.connect.specs.BlockContext.{Setting}
use Rattle.connect.specs.Turns.{effect, undo_of}
use Rattle.connect.specs.Scripts.{IsBefore, IsConnectFault, AreWantedByBlock}
use Rattle.connect.specs.ConnectedBlock.{IsConnected}

-- a block that was connected, and the coins that each of its transactions but the first spent
pub record Connected : Type 0 where
  pub block : Block
  pub spent : List (List Coin)

pub record UtxoState : Type 0 where
  pub coins : Coins
  -- the block that was connected last, where nothing else has changed the coins since
  pub last : Option Connected
  -- what was learnt of signatures
  pub verdicts : Verdicts
  -- the signatures that have to be verified before the block that was asked for last has an answer
  pub wanted : List Triple

abbrev pub new_utxo : UtxoState
new_utxo = record { coins = coin_map.empty; last = None; verdicts = record { valid = set.empty; invalid = set.empty }; wanted = [] }

abbrev pub known_by : UtxoState → Known
known_by u = verdict_in u.verdicts

-- a coin more, in the place of one that is there
abbrev pub with_coin : UtxoState → OutPoint → Coin → UtxoState
with_coin u at coin = record u { coins = coin_map.insert u.coins at coin; last = None }

-- ---- a block

-- the first rule that a block breaks by itself, or else over these coins, its scripts last
abbrev pub IsBlockFault : Setting → Coins → Block → Triples → Option Reason → Type 0
IsBlockFault s m block triples found =
    IsBefore (first_broken (alone_rules block)) (IsConnectFault s m block.txs triples) found

-- where it breaks none, its transactions are applied, and it can be taken back; else nothing changes
abbrev pub left_by : Setting → UtxoState → Block → Option Reason → UtxoState
left_by s u block None = record u {
  coins = effect s.height u.coins block.txs;
  last = Some (record { block = block; spent = undo_of s.height u.coins block.txs });
  wanted = [];
}
left_by s u block (Some reason) = record u { wanted = [] }

-- signatures have to be verified first: all that its scripts ask for. It breaks no other rule
pub record IsWanting (s : Setting) (before after : UtxoState) (block : Block) : Type 0 where
  pub wanted : List Triple
  pub after_is : after ≡ record before { wanted = wanted }
  pub alone : first_broken (alone_rules block) ≡ None
  pub asked : AreWantedByBlock s before.coins block.txs (known_by before) wanted

-- there is no answer: signatures are wanted, or there was no memory
abbrev pub IsNoAnswer : Setting → UtxoState → UtxoState → Block → ℕ → Type 0
IsNoAnswer s before after block code = ((code ≡ 31) × IsWanting s before after block) ⊎ ((code ≡ 1) × (after ≡ before))

-- The block that was connected last is taken back: the coins are those to which it was connected. Where there is none that
-- is reported; or there was no memory.
abbrev pub IsTakenBack : UtxoState → Option Connected → UtxoState → ℕ → Type 0
IsTakenBack before None after code = (code ≡ 4) × (after ≡ before)
IsTakenBack before (Some c) after code =
    ((code ≡ 0) × ((s : Setting) (m : Coins) → IsConnected s m c.block before.coins c.spent → after ≡ record before { coins = m; last = None }))
    ⊎ ((code ≡ 1) × (after ≡ before))

-- ---- a verdict more

-- Where none was known it is learnt, or there was no memory. One that is known stays: it is answered whether it is the same.
abbrev pub IsLearnt : UtxoState → UtxoState → Triple → Bool → Option Bool → ℕ → Type 0
IsLearnt before after t valid None code =
    ((code ≡ 0) × (after ≡ record before { verdicts = with_verdict before.verdicts t valid })) ⊎ ((code ≡ 1) × (after ≡ before))
IsLearnt before after t valid (Some known) code =
    ((code ≡ 0) × (known ≡ valid) × (after ≡ before)) ⊎ ((code ≡ 30) × (known ≡ valid → ⊥) × (after ≡ before))
