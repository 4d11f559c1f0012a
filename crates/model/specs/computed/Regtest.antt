-- Regtest's genesis block, where the blocks above it stand, and what is wrong with a block by its place.
use Rattle.std.specs.Prelude.{◌≡◌, ℕ, List, [], ◌∷◌, Option, None, Some, pos, true, false, refl}
use Rattle.txn.specs.declared.reason.Reason.{Reason}
use Rattle.txn.specs.declared.reason.Reason.TheVariants.{TimeTooOld, TimeTooNew, CoinbaseHeight, NonFinal}
use Rattle.txn.specs.Tx.{Tx}
use Rattle.txn.specs.Coinbase.{null}
use Rattle.block.specs.declared.block.Block.{Block}
use Rattle.block.specs.Genesis as block
use Rattle.locks.specs.Finality.{is_final}
use Rattle.locks.specs.MedianTime.{is_middle, median_of}
use Rattle.std.specs.FinSet.{empty}
use Rattle.rules.specs.declared.params.Params.{Params}
use Rattle.rules.specs.Params as rules
use Rattle.rules.specs.Context.{height_push}
use Rattle.tree.specs.MedianTime.{median_time_past}
use Rattle.tree.specs.Names.{names}
use Rattle.model.specs.Regtest.{setting_on, regtest}

-- the first block has the header and the id of Bitcoin Core's
pub header_of_genesis : names.genesis.header ≡ block.header
header_of_genesis = refl

pub id_of_genesis : names.genesis_id ≡ block.id
id_of_genesis = refl

-- genesis has the time 1296688602
abbrev genesis : Block
genesis = names.genesis

-- with this header but for its time, and these transactions
abbrev block_of_time : ℕ → List Tx → Block
block_of_time time txs = record { header = record block.header { version = pos 4; time = time }; txs = txs }

-- ---- where a block stands

pub on_genesis :
    setting_on rules.regtest (genesis ∷ [])
    ≡ record {
      height = 1;
      cutoff = 1296688602;
      medians = 1296688602 ∷ [];
      rules = record { bip34 = true; bip65 = true; bip66 = true; csv = true; nulldummy = false };
    }
unfolding median_time_past median_of is_middle
on_genesis = refl

-- of two times the later one is in the middle; the times needn't rise
pub on_two_more :
    setting_on (rules.of_heights 2 3 4 5) (block_of_time 1296688800 [] ∷ block_of_time 1296689000 [] ∷ genesis ∷ [])
    ≡ record {
      height = 3;
      cutoff = 1296688800;
      medians = 1296688602 ∷ 1296689000 ∷ 1296688800 ∷ [];
      rules = record { bip34 = true; bip65 = true; bip66 = false; csv = false; nulldummy = false };
    }
unfolding median_time_past median_of is_middle
on_two_more = refl

-- ---- what is wrong by the place of a block on genesis, where all soft forks but perhaps BIP 113 are in force

abbrev fault_at : Params → ℕ → Block → Option Reason
fault_at params now b = (regtest params empty).context_fault (genesis ∷ []) now b

abbrev with_csv_from : ℕ → Params
with_csv_from height = rules.of_heights 1 1 1 height

-- a coinbase that pushes height 1, and may stand in no block before this time
abbrev locked_until : ℕ → Tx
locked_until time = record {
  version = pos 1;
  inputs = record { prev = null; script = 0x51 ∷ []; sequence = 0 } ∷ [];
  outputs = [];
  lock_time = time;
  witnesses = [];
}

pub time_of_the_median : fault_at (with_csv_from 1) 1296688602 (block_of_time 1296688602 []) ≡ Some TimeTooOld
unfolding median_time_past median_of is_middle
time_of_the_median = refl

pub two_hours_and_a_second_ahead : fault_at (with_csv_from 1) 1296688602 (block_of_time 1296695803 []) ≡ Some TimeTooNew
unfolding median_time_past median_of is_middle
two_hours_and_a_second_ahead = refl

pub no_height_in_the_coinbase : fault_at (with_csv_from 1) 1296688602 (block_of_time 1296695802 []) ≡ Some CoinbaseHeight
unfolding median_time_past median_of is_middle height_push
no_height_in_the_coinbase = refl

-- with BIP 113 the lock time has to lie below the median, and else below the block's own time
pub locked_until_the_median : fault_at (with_csv_from 1) 1296688602 (block_of_time 1296688603 (locked_until 1296688602 ∷ [])) ≡ Some NonFinal
unfolding median_time_past median_of is_middle is_final
locked_until_the_median = refl

pub locked_until_the_median_before_bip113 : fault_at (with_csv_from 2) 1296688602 (block_of_time 1296688603 (locked_until 1296688602 ∷ [])) ≡ None
unfolding median_time_past median_of is_middle is_final height_push
locked_until_the_median_before_bip113 = refl
