-- What is reported about a block by the rules.
use Rattle.std.specs.Prelude.{◌≡◌, ℕ, ◌≤◌, ◌<◌, ◌⊎◌, List, length}
use Rattle.txn.specs.First.{first_broken}
use Rattle.txn.specs.Identity.{ids_of}
use Rattle.block.specs.declared.block.Block.{Block}
use Rattle.block.specs.Identity.{id_of}
use Rattle.block.specs.Merkle.{root, twin}
use Rattle.block.specs.Sizes.{size_of}
use Rattle.block.specs.Target.{meets_target}
use Rattle.locks.specs.MedianTime.{median_of}
use Rattle.rules.specs.Alone.{alone_rules}
use Rattle.ffi.specs.declared.shown.ShownBlock.{ShownBlock}
use Rattle.ffi.specs.Refusals.{bit, broken_number}
use Rattle.ffi.specs.Transactions.{counted}

pub record ShowsBlock (b : Block) (shown : ShownBlock) : Type 0 where
  pub id : shown.id.bytes ≡ (id_of b.header).0
  pub parent : shown.parent.bytes ≡ b.header.prev.0
  pub root_is : shown.root.bytes ≡ b.header.root.0
  pub merkle : shown.merkle.bytes ≡ (root (ids_of b.txs)).0
  pub size : shown.size ≡ counted (size_of b)
  pub transactions : shown.transactions ≡ length b.txs
  pub version : shown.version ≡ b.header.version
  pub time : shown.time ≡ b.header.time
  pub bits : shown.bits ≡ b.header.bits
  pub nonce : shown.nonce ≡ b.header.nonce
  pub twin_is : shown.twin ≡ bit (twin (ids_of b.txs))
  pub target : shown.target ≡ bit (meets_target (id_of b.header))
  pub reason : shown.reason ≡ broken_number (first_broken (alone_rules b))

-- the median of 1 to 11 times; for none, or for more, nothing is reported
abbrev pub IsMedianTold : List ℕ → ℕ → ℕ → ℕ → Type 0
IsMedianTold times before middle result =
    ((1 ≤ length times) × (length times ≤ 11) × (result ≡ 0) × (middle ≡ median_of times))
    ⊎ (((length times ≡ 0) ⊎ (11 < length times)) × (result ≡ 25) × (middle ≡ before))
