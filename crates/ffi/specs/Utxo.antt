-- What is reported about a set of coins: of blocks that are connected to it, and of transactions.
--     22 the transaction has more inputs and outputs than fit into a block    25 a median that the block asks for isn't given
use Rattle.std.specs.Prelude.{◌≡◌, ℕ, ◌+◌, ◌<◌, ◌⊎◌, not, ◌==◌, Bool, true, false, ℤ, pos, negsuc, int_lt, if◌then◌else◌, List, ◌++◌, length, Option, None, Some}
use Rattle.txn.specs.declared.outpoint.OutPoint.{OutPoint}
use Rattle.txn.specs.declared.reason.Reason.{Reason}
use Rattle.txn.specs.Tx.{Tx}
use Rattle.txn.specs.Check.{tx_rules}
use Rattle.txn.specs.First.{first_broken}
use Rattle.txn.specs.Reason.{number_of}
use Rattle.block.specs.declared.block.Block.{Block}
use Rattle.signatures.specs.Known.{Under}
use Rattle.signatures.specs.Triple.{Triple}
use Rattle.coins.specs.declared.coin.Coin.{Coin}
use Rattle.coins.specs.Coins.{Coins}
use Rattle.coins.specs.Next.{IsNext}
use Rattle.rules.specs.Params.{at}
use Rattle.connect.specs.BlockContext.{Setting}
use Rattle.connect.specs.Turns.{turn}
use Rattle.connect.specs.Faults.{fee, input_rules}
use Rattle.ffi.specs.declared.answers.ShownCoin.{ShownCoin}
use Rattle.ffi.specs.declared.shown.BlockSetting.{BlockSetting}
use Rattle.ffi.specs.declared.shown.BrokenRule.{BrokenRule}
use Rattle.ffi.specs.declared.shown.InputsTold.{InputsTold}
use Rattle.ffi.specs.Answers.{Listed, IsNextShown, params_of}
use Rattle.ffi.specs.Codes.{input_of_reason, transaction_of_reason}
use Rattle.ffi.specs.Medians.{lacks_medians, with_cutoff}
use Rattle.ffi.specs.Refusals.{broken_number}
use Rattle.ffi.specs.UtxoState.{Connected, IsBlockFault, IsLearnt, IsNoAnswer, IsTakenBack, UtxoState, known_by, left_by, new_utxo, with_coin}

-- ---- what C says

abbrev pub coin_of : ShownCoin → List ℕ → Coin
coin_of row script = record { value = row.value; script = script; height = row.height; coinbase = not (row.coinbase == 0) }

abbrev pub setting_of : BlockSetting → Setting
setting_of s = record {
  height = s.height;
  cutoff = s.cutoff;
  medians = with_cutoff s.medians.now s.height s.cutoff;
  rules = at (params_of s.heights) s.height;
}

-- ---- changes

-- A slot that is full stays so. Into another one a set without coins comes, or there was no memory.
abbrev pub IsUtxoOpened : Option UtxoState → Option UtxoState → ℕ → Type 0
IsUtxoOpened (Some u) after result = (result ≡ 6) × (after ≡ Some u)
IsUtxoOpened None after result = ((result ≡ 0) × (after ≡ Some new_utxo)) ⊎ ((result ≡ 1) × (after ≡ None))

-- what becomes of the set in a slot; where there is none nothing does
abbrev pub Becomes : Option UtxoState → Option UtxoState → (UtxoState → UtxoState → Type 0) → Type 0 → ℕ → Type 0
Becomes None after told kept result = (result ≡ 2) × (after ≡ None) × kept
Becomes (Some u) after told kept result = (next : UtxoState) × (after ≡ Some next) × told u next

-- a coin is put in, or there was no memory
abbrev pub IsPut : OutPoint → Coin → UtxoState → UtxoState → ℕ → Type 0
IsPut at coin before after result = ((result ≡ 0) × (after ≡ with_coin before at coin)) ⊎ ((result ≡ 1) × (after ≡ before))

-- ---- a block

-- the first rule that is broken, with the transaction and the input whose script isn't accepted; all else is 0
abbrev pub fault_row : Option Reason → BrokenRule
fault_row None = record { transaction = 0; input = 0; reason = 0 }
fault_row (Some reason) = record { transaction = transaction_of_reason reason; input = input_of_reason reason; reason = number_of reason }

-- under each set of valid signatures that agrees with what is known
pub record IsFaultFound (s : Setting) (before after : UtxoState) (block : Block) (told : BrokenRule) : Type 0 where
  pub found : Option Reason
  pub fault : Under (known_by before) (λ triples. IsBlockFault s before.coins block triples found)
  pub after_is : after ≡ left_by s before block found
  pub told_is : told ≡ fault_row found

-- it is reported, or there is no answer, and what is reported stays
abbrev pub IsFaultTold : Setting → Block → BrokenRule → BrokenRule → ℕ → UtxoState → UtxoState → Type 0
IsFaultTold s block told_before told result before after =
    ((result ≡ 0) × IsFaultFound s before after block told)
    ⊎ (IsNoAnswer s before after block result × (told ≡ told_before))

-- Where a median that it asks for isn't given nothing else is looked at. Memory may always run out.
abbrev pub IsConnectTold : Setting → Block → BrokenRule → BrokenRule → ℕ → UtxoState → UtxoState → Type 0
IsConnectTold s block told_before told result before after =
    ((lacks_medians s before.coins block ≡ true) × (result ≡ 25) × (after ≡ before) × (told ≡ told_before))
    ⊎ (((lacks_medians s before.coins block ≡ false) × IsFaultTold s block told_before told result before after)
    ⊎ ((result ≡ 1) × (after ≡ before) × (told ≡ told_before)))

-- ---- a transaction

-- the number of satoshis that is nearest among those of 64 bits
abbrev pub nearest : ℤ → ℤ
nearest n =
    if int_lt (pos 9223372036854775807) n then pos 9223372036854775807
    else (if int_lt n (negsuc 9223372036854775807) then negsuc 9223372036854775807 else n)

-- the first rule that a transaction breaks by itself, or by its inputs (`CheckTransaction`, `CheckTxInputs`)
abbrev pub tx_fault : Setting → Coins → Tx → Option Reason
tx_fault s m tx = first_broken (tx_rules tx ++ input_rules s (turn tx m 0))

-- its fee where it breaks none
abbrev pub inputs_row : Option Reason → ℤ → InputsTold
inputs_row None given = record { fee = nearest given; reason = 0 }
inputs_row (Some reason) given = record { fee = pos 0; reason = number_of reason }

-- in a block of this height
abbrev pub AreInputsTold : Coins → Tx → ℕ → InputsTold → InputsTold → ℕ → Type 0
AreInputsTold m tx height before told result =
    ((result ≡ 0) × ((s : Setting) → s.height ≡ height → told ≡ inputs_row (tx_fault s m tx) (fee (turn tx m 0))))
    ⊎ ((result ≡ 22) × (1000000 < length tx.inputs + length tx.outputs) × (told ≡ before))
    ⊎ ((result ≡ 1) × (told ≡ before))

-- ---- reads

-- the coin at the least outpoint above another
abbrev pub IsNextIn : Coins → Option OutPoint → Listed → Listed → ℕ → Type 0
IsNextIn m above before after result = (next : Option (OutPoint × Coin)) × IsNext m above next × IsNextShown next before after result

-- what the block that was connected last spent, where there is one
abbrev pub spent_last : Option Connected → Option (List (List Coin))
spent_last None = None
spent_last (Some c) = Some c.spent
