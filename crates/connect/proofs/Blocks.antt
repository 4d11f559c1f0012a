-- One transaction of a block after another.
use Rattle.std.proofs.Common.{◌≡◌, Bool, true, false, cond, List, [], ◌∷◌, ◌++◌, map, drop, Some, None, pos, ◌+ℤ◌, sym, ap, subst, ◌∙◌}
use Rattle.std.specs.Prelude.{int_lt}
use Rattle.std.specs.Option.{option_or}
use Rattle.std.specs.List.{flat_map, list_any}
use Rattle.txn.specs.Tx.{Tx}
use Rattle.txn.specs.declared.reason.Reason.TheVariants.{OverwritesCoin, CoinbaseAmount}
use Rattle.txn.specs.First.{Rules, first_broken}
use Rattle.txn.specs.laws.First.{first_of_both}
use Rattle.block.specs.Reward.{subsidy_of}
use Rattle.coins.specs.Coins.{Coins}
use Rattle.connect.specs.declared.block_fault.BlockFault.{BlockFault}
use Rattle.connect.specs.declared.block_fault.BlockFault.TheVariants.{Broken, Memory}
use Rattle.connect.specs.BlockContext.{Setting}
use Rattle.connect.specs.Turns.{Turn, turn, turns, spent_in, undo_of, left_by, full_count}
use Rattle.connect.specs.Faults.{overwrites, fees, reward_of, turn_rules, connect_rules}
use Rattle.connect.specs.inside.Turns.{IsReason}
use Rattle.connect.specs.laws.Broken.{skip, stop}
pub use Rattle.connect.specs.laws.Turns.{turns_none, turns_next, effect_none, effect_next}

-- rules of which the first ones aren't broken
pub past : (xs ys : Rules) → first_broken xs ≡ None → first_broken (xs ++ ys) ≡ first_broken ys
past xs ys h = first_of_both xs ys ∙ ap (λ o. option_or o (first_broken ys)) h

-- what ends with the first of some rules ends with it among more
pub still_first : (xs ys : Rules) (why : BlockFault) → IsReason (first_broken xs) why → IsReason (first_broken (xs ++ ys)) why
still_first xs ys (Broken reason) h = first_of_both xs ys ∙ ap (λ o. option_or o (first_broken ys)) h
still_first xs ys Memory h = tt

-- ---- a block

module _ (s : Setting) (m : Coins) (txs : List Tx) where
  abbrev clash : Bool
  clash = list_any (overwrites m) txs

  abbrev each : Rules
  each = flat_map (turn_rules s) (turns s.height m 0 txs)

  abbrev overpaid : Bool
  overpaid = int_lt (pos (subsidy_of s.height) +ℤ fees (drop 1 (turns s.height m 0 txs))) (reward_of txs)

  abbrev last : Rules
  last = (overpaid, CoinbaseAmount) ∷ []

  pub at_clash : list_any (overwrites m) txs ≡ true → first_broken (connect_rules s m txs) ≡ Some OverwritesCoin
  unfolding connect_rules
  at_clash e = stop clash OverwritesCoin (each ++ last) e

  pub at_turn : (why : BlockFault) → list_any (overwrites m) txs ≡ false → IsReason (first_broken (flat_map (turn_rules s) (turns s.height m 0 txs))) why → IsReason (first_broken (connect_rules s m txs)) why
  unfolding connect_rules
  at_turn why e h = subst (λ o. IsReason o why) (sym (skip clash OverwritesCoin (each ++ last) e)) (still_first each last why h)

  pub after_turns : list_any (overwrites m) txs ≡ false → first_broken (flat_map (turn_rules s) (turns s.height m 0 txs)) ≡ None
      → first_broken (connect_rules s m txs) ≡ cond (int_lt (pos (subsidy_of s.height) +ℤ fees (drop 1 (turns s.height m 0 txs))) (reward_of txs)) (Some CoinbaseAmount) None
  unfolding connect_rules
  after_turns e h = skip clash OverwritesCoin (each ++ last) e ∙ past each last h

-- ---- of a block that begins with its coinbase

abbrev pub coinbase_turn : Coins → Tx → Turn
coinbase_turn m x = turn x m 0

abbrev pub later_turns : Setting → Coins → Tx → List Tx → List Turn
later_turns s m x rest = turns s.height (left_by s.height (coinbase_turn m x)) (full_count (coinbase_turn m x)) rest

pub each_is : (s : Setting) (m : Coins) (x : Tx) (rest : List Tx) → flat_map (turn_rules s) (turns s.height m 0 (x ∷ rest)) ≡ turn_rules s (coinbase_turn m x) ++ flat_map (turn_rules s) (later_turns s m x rest)
each_is s m x rest = ap (flat_map (turn_rules s)) (turns_next s.height m 0 x rest)

pub later_is : (s : Setting) (m : Coins) (x : Tx) (rest : List Tx) → drop 1 (turns s.height m 0 (x ∷ rest)) ≡ later_turns s m x rest
later_is s m x rest = ap (drop 1) (turns_next s.height m 0 x rest)

pub undo_is : (s : Setting) (m : Coins) (x : Tx) (rest : List Tx) → undo_of s.height m (x ∷ rest) ≡ map spent_in (later_turns s m x rest)
unfolding undo_of
undo_is s m x rest = ap (map spent_in) (later_is s m x rest)
