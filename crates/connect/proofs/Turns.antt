-- What the tests of a transaction in its turn say.
use Rattle.std.proofs.Common.{◌≡◌, ℕ, ◌+◌, ◌-◌, ◌^◌, ◌≤◌, ◌<◌, min, Bool, true, false, not, nat_lt, ◌&&◌, ℤ, List, [], ◌∷◌, ◌++◌, length, map, Option, Some, None, refl, sym, ap, ap₂, ◌∙◌, arith}
use Rattle.std.specs.Prelude.{int_lt, is_some}
use Rattle.std.specs.FinMap as coin_map
use Rattle.std.specs.Option.{option_to_list}
use Rattle.std.specs.List.{list_any, list_all}
use Rattle.std.proofs.lemmas.Bool.{lt-ltb, le-ltb}
use Rattle.txn.specs.declared.outpoint.OutPoint.{OutPoint}
use Rattle.txn.specs.Tx.{Tx}
use Rattle.txn.specs.Check.{is_coinbase, total}
use Rattle.locks.specs.Relative.{are_met}
use Rattle.coins.specs.declared.coin.Coin.{Coin}
use Rattle.coins.specs.Coins.{Coins, sum_of_values}
use Rattle.undo.specs.Effect.{spends, coins_at}
use Rattle.rules.specs.Alone.{max_block_sigops, tx_sigops}
use Rattle.connect.specs.BlockContext.{Setting}
use Rattle.connect.specs.Turns.{Turn, turn, spent_in}
use Rattle.connect.specs.Faults.{has_coin, is_immature, lock_start, spends_immature, pays_too_much, is_locked}
use Rattle.connect.specs.laws.Broken.{UpToCoins}

-- a count that stops at the highest number, and isn't above the most that a block may have
pub exact_count : (n x r p : ℕ) → n ≤ max_block_sigops → r ≡ min x (2 ^ 128 - 1) → p ≡ min (n + r) (2 ^ 128 - 1) → p ≤ max_block_sigops → p ≡ n + x
exact_count n x r p few a b h = omega arith

pub few_counted : (n x r p : ℕ) → n ≤ max_block_sigops → r ≡ min x (2 ^ 128 - 1) → p ≡ min (n + r) (2 ^ 128 - 1) → p ≤ max_block_sigops → nat_lt max_block_sigops (n + x) ≡ false
few_counted n x r p few a b h = ap (λ y. nat_lt max_block_sigops y) (sym (exact_count n x r p few a b h)) ∙ le-ltb max_block_sigops p h

pub many_counted : (n x r p : ℕ) → n ≤ max_block_sigops → r ≡ min x (2 ^ 128 - 1) → p ≡ min (n + r) (2 ^ 128 - 1) → max_block_sigops < p → nat_lt max_block_sigops (n + x) ≡ true
many_counted n x r p few a b h = lt-ltb max_block_sigops (n + x) (omega arith)

-- ---- what the tests say, one after the other

-- as many coins are found as are looked for
both_there : (a b : Bool) → (a && b) ≡ true → (a ≡ true) × (b ≡ true)
both_there true b h = (refl, h)
both_there false b h = cc

one_there : (o : Option Coin) (cs : List Coin) → is_some o ≡ true → length (option_to_list o ++ cs) ≡ length cs + 1
one_there None cs h = cc
one_there (Some c) cs h = omega arith

pub as_many : (m : Coins) (ps : List OutPoint) → list_all (has_coin m) ps ≡ true → length (coins_at m ps) ≡ length ps
as_many m [] h = refl
as_many m (p ∷ ps) h =
    let two = both_there (has_coin m p) (list_all (has_coin m) ps) h in
    omega (arith, one_there (coin_map.get m p) (coins_at m ps) two.0, as_many m ps two.1)

module _ (s : Setting) (tx : Tx) (m : Coins) (n : ℕ) (few : n ≤ max_block_sigops) where
  abbrev here : Turn
  here = turn tx m n

  pub up_to_coins : (r p : ℕ) → r ≡ min (tx_sigops tx) (2 ^ 128 - 1) → p ≡ min (n + r) (2 ^ 128 - 1) → p ≤ max_block_sigops
      → (all : Bool) → all ≡ list_all (has_coin m) (spends tx) → all ≡ true → UpToCoins s here
  up_to_coins r p a b h all e f = record { plain = few_counted n (tx_sigops tx) r p few a b h; there = ap not (sym e ∙ f) }

  pub early_is : (coins : List Coin) (b : Bool) → coins ≡ spent_in here → b ≡ list_any (is_immature s.height) coins → spends_immature s here ≡ b
  early_is coins b e h = ap (list_any (is_immature s.height)) (sym e) ∙ sym h

  pub amount_is : (x y : ℤ) (b : Bool) → x ≡ sum_of_values (spent_in here) → y ≡ total tx.outputs → b ≡ (not (is_coinbase tx) && int_lt x y) → pays_too_much here ≡ b
  amount_is x y b e f h = sym (h ∙ ap₂ (λ u v. not (is_coinbase tx) && int_lt u v) e f)

  pub locked_is : (coins : List Coin) (b : Bool) → coins ≡ spent_in here
      → b ≡ (s.rules.csv && not (are_met tx (map (lock_start s.medians) coins) s.height s.cutoff)) → is_locked s here ≡ b
  locked_is coins b e h = sym (h ∙ ap (λ cs. s.rules.csv && not (are_met tx (map (lock_start s.medians) cs) s.height s.cutoff)) e)
