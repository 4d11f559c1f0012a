-- Regtest's chain: what it asks of its blocks, and what they do to the coins.
use Rattle.std.specs.Prelude.{ℕ, ◌*◌, pos, ◌≤ℤ◌, IfSome, List, [], ◌∷◌, length, reverse}
use Rattle.std.specs.FinMap as coin_map
use Rattle.hash.specs.declared.id.Id.{Id}
use Rattle.txn.specs.declared.outpoint.OutPoint.{OutPoint}
use Rattle.txn.specs.First.{first_broken}
use Rattle.block.specs.declared.block.Block.{Block}
use Rattle.signatures.specs.Triple.{Triples}
use Rattle.coins.specs.Coins.{Coins}
use Rattle.rules.specs.declared.params.Params.{Params}
use Rattle.rules.specs.Params.{at}
use Rattle.rules.specs.Alone.{alone_rules}
use Rattle.rules.specs.Context.{context_rules}
use Rattle.connect.specs.BlockContext.{Setting}
use Rattle.connect.specs.Turns.{effect}
use Rattle.connect.specs.computed.Scripts.{connect_fault}
use Rattle.tree.specs.MedianTime.{median_time_past}
use Rattle.tree.specs.Names.{names}
use Rattle.model.specs.Rules.{Rules}
use Rattle.model.specs.Replay.{Ledger, replay}

-- the median time past of each block of a branch, the newest block first (`GetMedianTimePast`)
abbrev pub medians_of : List Block → List ℕ
medians_of [] = []
medians_of (b ∷ older) = median_time_past (b ∷ older) ∷ medians_of older

-- the place of a block that comes on a branch: it is as high as the branch is long
abbrev pub setting_on : Params → List Block → Setting
setting_on params branch = record {
  height = length branch;
  cutoff = median_time_past branch;
  medians = reverse (medians_of branch);
  rules = at params (length branch);
}

-- the coins that blocks leave (`UpdateCoins`)
abbrev pub ledger : Ledger Block Coins
ledger = record { empty = coin_map.empty; after = λ coins b height. effect height coins b.txs }

-- no coin is worth less than nothing
abbrev pub AreNotNegative : Coins → Type 0
AreNotNegative coins = (outpoint : OutPoint) → IfSome (coin_map.get coins outpoint) (λ coin. pos 0 ≤ℤ coin.value)

-- the sum of all subsidies at most: 15,000 bitcoin, without the 50 of height 0
abbrev pub most_satoshis : ℕ
most_satoshis = 14950 * 100000000

-- under these heights of soft forks and these valid signatures (`CheckBlock`, `ConnectBlock`)
abbrev pub regtest : Params → Triples → Rules Block Id
regtest params triples = record {
  names = names;
  alone_fault = λ b. first_broken (alone_rules b);
  context_fault = λ branch now b.
      first_broken (context_rules (at params (length branch)) b (length branch) (median_time_past branch) now);
  connect_fault = λ branch b. connect_fault (setting_on params branch) (replay ledger branch) b.txs triples;
}
