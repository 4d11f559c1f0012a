-- Regtest's coins: a block that connects raises their total by at most its subsidy.
use Rattle.std.specs.Prelude.{◌≡◌, refl, List, Option, Some, None}
use Rattle.std.specs.Option.{option_or}
use Rattle.txn.specs.Tx.{Tx}
use Rattle.txn.specs.declared.reason.Reason.{Reason}
use Rattle.txn.specs.First.{first_broken}
use Rattle.block.specs.Reward.{subsidy_of}
use Rattle.signatures.specs.Triple.{Triples}
use Rattle.coins.specs.Coins.{Coins, total}
use Rattle.coins.specs.laws.Totals.{total-empty}
use Rattle.rules.specs.declared.params.Params.{Params}
use Rattle.connect.specs.BlockContext.{Setting}
use Rattle.connect.specs.Faults.{connect_rules}
use Rattle.connect.specs.computed.Scripts.{connect_fault}
use Rattle.connect.specs.laws.Total.{block_total}
use Rattle.model.specs.Total.{IsBounded}
use Rattle.model.specs.Regtest.{setting_on, ledger, regtest}

no_first : (broken refused : Option Reason) → option_or broken refused ≡ None → broken ≡ None
no_first None refused h = refl
no_first (Some reason) refused h = cc

pub rules_kept : (s : Setting) (m : Coins) (txs : List Tx) (triples : Triples) → connect_fault s m txs triples ≡ None → first_broken (connect_rules s m txs) ≡ None
unfolding connect_fault
rules_kept s m txs triples h = no_first (first_broken (connect_rules s m txs)) _ h

pub bounded : (params : Params) (triples : Triples) → IsBounded (regtest params triples) ledger total subsidy_of
bounded params triples = record {
  opens = total-empty;
  raises = λ older b some alone over. block_total (setting_on params older) _ b alone (rules_kept (setting_on params older) _ b.txs triples over);
}
