-- A block raises the total of the coins by at most its subsidy.
use Rattle.std.proofs.Common.{◌≡◌, ℕ, ◌+◌, ◌≤◌, Bool, true, false, cond, List, [], ◌∷◌, ◌++◌, ◌==◌, ◌&&◌, not, length, map, drop, Option, Some, None, IsSome, refl, sym, ap, ap₂, arith}
use Rattle.std.specs.Prelude.{ℤ, pos, ◌+ℤ◌, ◌-ℤ◌, ◌≤ℤ◌, int_lt}
use Rattle.std.specs.Option.{option_to_list}
use Rattle.std.specs.List.{AllByRecursion, IsDistinct, flat_map, list_any, fold}
use Rattle.std.specs.FinMap as coin_map
use Rattle.std.proofs.lemmas.Int.{ints}
use Rattle.hash.specs.declared.id.Id.{Id}
use Rattle.txn.specs.declared.outpoint.OutPoint.{OutPoint}
use Rattle.txn.specs.declared.output.TxOut.{TxOut}
use Rattle.txn.specs.Tx.{Tx}
use Rattle.txn.specs.declared.input.TxIn.{TxIn}
use Rattle.txn.specs.declared.reason.Reason.TheVariants.{NoInputs, NoOutputs, OutputNegative, OutputTooLarge, OutputSumTooLarge, DuplicateInputs, CoinbaseLength, NullPrevout, OverwritesCoin, CoinbaseAmount}
use Rattle.txn.specs.First.{Rules, first_broken}
use Rattle.txn.specs.Check.{max_money, has_twice, prevs, is_coinbase, is_null, fits_coinbase, first_script, output_rules, tx_rules, total as paid}
use Rattle.block.specs.declared.block.Block.{Block}
use Rattle.block.specs.Reward.{subsidy_of}
use Rattle.rules.specs.Alone.{begins_with_coinbase, alone_rules}
use Rattle.txn.specs.Identity.{id_of}
use Rattle.script.specs.Kinds.{is_unspendable}
use Rattle.coins.specs.declared.coin.Coin.{Coin}
use Rattle.coins.specs.Coins.{Coins, same, sum_of_values, total}
use Rattle.coins.specs.laws.Totals.{total-insert, total-remove}
use Rattle.undo.specs.Effect.{outpoint_at, spends, spendable, coin_of, makes, without, with_coins, after, coins_at, spent_coins}
use Rattle.undo.specs.laws.Reversal.{AreCoins, AreNew}
use Rattle.undo.specs.laws.Effects.{other_kept, coins_next, new_next}
use Rattle.undo.specs.laws.RoundTrip.{are_coins, are_new}
use Rattle.connect.specs.BlockContext.{Setting}
use Rattle.connect.specs.Turns.{Turn, turn, turns, effect, left_by, full_count}
use Rattle.connect.specs.Faults.{fee, fees, overwrites, reward_of, turn_rules, connect_rules}
use Rattle.connect.specs.laws.Alone.{both_clear, lawful_block}
use Rattle.connect.specs.laws.Application.{all_apply, each_clear}
use Rattle.connect.specs.laws.Broken.{head_clear, tail_clear}
use Rattle.connect.specs.laws.Turns.{CanTurn, can_next, turns_none, turns_next, effect_none, effect_next}

-- ---- coins that are taken

still_at : (m : Coins) (p : OutPoint) (ps : List OutPoint) → AllByRecursion (λ y. same p y ≡ false) ps → coins_at m ps ≡ coins_at (coin_map.remove m p) ps
still_at m p [] d = refl
still_at m p (q ∷ ps) d = ap₂ (λ (o : Option Coin) cs. option_to_list o ++ cs) (sym (other_kept m p q d.0)) (still_at m p ps d.1)

there : (o : Option Coin) → IsSome o → (c : Coin) × (o ≡ Some c)
there (Some c) h = (c, refl)
there None h = cc

total_without : (m : Coins) (ps : List OutPoint) → AreCoins m ps → total (without m ps) ≡ total m -ℤ sum_of_values (coins_at m ps)
unfolding IsDistinct
total_without m [] h = omega (arith, ints)
total_without m (p ∷ ps) h =
    let c = there (coin_map.get m p) h.coins.0 in
    let coins : sum_of_values (coins_at m (p ∷ ps)) ≡ c.0.value +ℤ sum_of_values (coins_at (coin_map.remove m p) ps) =
    ap₂ (λ (o : Option Coin) (cs : List Coin). sum_of_values (option_to_list o ++ cs)) c.1 (still_at m p ps h.once.0) in
    omega (arith, ints, total_without (coin_map.remove m p) ps (coins_next m p ps h), total-remove m p c.0 c.1, coins)

-- ---- coins that are made

abbrev values_of : List (OutPoint × Coin) → ℤ
values_of es = sum_of_values (map (λ e. e.1) es)

total_with : (m : Coins) (es : List (OutPoint × Coin)) → AreNew m es → total (with_coins m es) ≡ total m +ℤ values_of es
total_with m [] h = omega (arith, ints)
total_with m (e ∷ es) h =
    omega (arith, ints, total_with (coin_map.insert m e.0 e.1) es (new_next m e.0 e.1 es h), total-insert m e.0 e.1 h.new.0)

paid_from : (a : ℤ) (os : List TxOut) → fold (λ sum (o : TxOut). sum +ℤ o.value) a os ≡ a +ℤ paid os
paid_from a [] = omega (arith, ints)
paid_from a (o ∷ os) = omega (arith, ints, paid_from (a +ℤ o.value) os, paid_from (pos 0 +ℤ o.value) os)

paid_next : (o : TxOut) (os : List TxOut) → paid (o ∷ os) ≡ o.value +ℤ paid os
paid_next o os = omega (arith, ints, paid_from (pos 0 +ℤ o.value) os)

abbrev pub IsPaid : TxOut → Type 0
IsPaid o = pos 0 ≤ℤ o.value

made_at_most : (height : ℕ) (b : Bool) (id : Id) (k : ℕ) (os : List TxOut) → AllByRecursion IsPaid os → values_of (map (λ o. (o.0, coin_of height b o.1)) (spendable id k os)) ≤ℤ paid os
made_at_most height b id k [] h = omega (arith, ints)
made_at_most height b id k (o ∷ os) h = at (is_unspendable o.script) (made_at_most height b id (k + 1) os h.1)
  where
    at : (u : Bool) → values_of (map (λ o. (o.0, coin_of height b o.1)) (spendable id (k + 1) os)) ≤ℤ paid os
        → values_of (map (λ o. (o.0, coin_of height b o.1)) (cond u [] ((outpoint_at id k, o) ∷ []) ++ spendable id (k + 1) os)) ≤ℤ paid (o ∷ os)
    at true r = omega (arith, ints, h.0, paid_next o os)
    at false r = omega (arith, ints, paid_next o os)

-- ---- a transaction and those after it

pub total_turn : (h : ℕ) (t : Turn) → CanTurn t → AllByRecursion IsPaid t.tx.outputs → total (left_by h t) ≤ℤ (total t.coins -ℤ fee t)
unfolding after spent_coins
total_turn h t can paid_all =
    let m = t.coins in
    let id = id_of t.tx in
    omega (
      arith,
      ints,
      total_with (without m (spends t.tx)) (makes t.tx id h) (are_new m t.tx id h can),
      total_without m (spends t.tx) (are_coins m t.tx id can),
      made_at_most h (is_coinbase t.tx) id 0 t.tx.outputs paid_all,
    )

fees_from : (a : ℤ) (ts : List Turn) → fold (λ sum t. sum +ℤ fee t) a ts ≡ a +ℤ fees ts
fees_from a [] = omega (arith, ints)
fees_from a (t ∷ ts) = omega (arith, ints, fees_from (a +ℤ fee t) ts, fees_from (pos 0 +ℤ fee t) ts)

fees_next : (t : Turn) (ts : List Turn) → fees (t ∷ ts) ≡ fee t +ℤ fees ts
fees_next t ts = omega (arith, ints, fees_from (pos 0 +ℤ fee t) ts)

pub total_turns : (h : ℕ) (m : Coins) (n : ℕ) (txs : List Tx) → AllByRecursion CanTurn (turns h m n txs) → AllByRecursion (λ (tx : Tx). AllByRecursion IsPaid tx.outputs) txs
    → total (effect h m txs) ≤ℤ (total m -ℤ fees (turns h m n txs))
total_turns h m n [] can p = omega (arith, ints, ap (λ (x : Coins). total x) (effect_none h m), ap fees (turns_none h m n))
total_turns h m n (tx ∷ txs) can p =
    let t = turn tx m n in
    let two = can_next h m n tx txs can in
    let later = turns h (left_by h t) (full_count t) txs in
    omega (
      arith,
      ints,
      total_turn h t two.0 p.0,
      total_turns h (left_by h t) (full_count t) txs two.1 p.1,
      fees_next t later,
      ap (λ (x : Coins). total x) (effect_next h m tx txs),
      ap fees (turns_next h m n tx txs),
    )

-- ---- a block

not_below : (before os : List TxOut) → first_broken (output_rules before os) ≡ None → AllByRecursion IsPaid os
not_below before [] h = tt
not_below before (o ∷ os) h =
    let rest = output_rules (before ++ o ∷ []) os in
    let sums : Rules = (int_lt max_money (paid (before ++ o ∷ [])), OutputSumTooLarge) ∷ rest in
    let large : Rules = (int_lt max_money o.value, OutputTooLarge) ∷ sums in
    let negative = head_clear (int_lt o.value (pos 0)) OutputNegative large h in
    (omega (arith, ints, negative), not_below (before ++ o ∷ []) os (tail_clear (int_lt max_money (paid (before ++ o ∷ []))) OutputSumTooLarge rest (tail_clear (int_lt max_money o.value) OutputTooLarge sums (tail_clear (int_lt o.value (pos 0)) OutputNegative large h))))

each_paid : (t : Tx) → first_broken (tx_rules t) ≡ None → AllByRecursion IsPaid t.outputs
unfolding tx_rules
each_paid t h =
    let last : Rules = (has_twice (prevs t.inputs), DuplicateInputs) ∷ (is_coinbase t && not (fits_coinbase (first_script t.inputs)), CoinbaseLength) ∷ (not (is_coinbase t) && list_any (λ (i : TxIn). is_null i.prev) t.inputs, NullPrevout) ∷ [] in
    let outputs : Rules = output_rules [] t.outputs ++ last in
    not_below [] t.outputs (both_clear (output_rules [] t.outputs) last (tail_clear (length t.outputs == 0) NoOutputs outputs (tail_clear (length t.inputs == 0) NoInputs ((length t.outputs == 0, NoOutputs) ∷ outputs) h))).0

pub all_paid : (txs : List Tx) → AllByRecursion (λ t. first_broken (tx_rules t) ≡ None) txs → AllByRecursion (λ (t : Tx). AllByRecursion IsPaid t.outputs) txs
all_paid [] h = tt
all_paid (t ∷ txs) h = (each_paid t h.0, all_paid txs h.1)

coinbase_fee : (x : Tx) (m : Coins) → is_coinbase x ≡ true → fee (turn x m 0) ≡ pos 0 -ℤ paid x.outputs
unfolding spent_coins
coinbase_fee x m h = ap (λ b. sum_of_values (coins_at m (cond b [] (prevs x.inputs))) -ℤ paid x.outputs) h

not_overpaid : (s : Setting) (m : Coins) (txs : List Tx) → first_broken (connect_rules s m txs) ≡ None → int_lt (pos (subsidy_of s.height) +ℤ fees (drop 1 (turns s.height m 0 txs))) (reward_of txs) ≡ false
unfolding connect_rules
not_overpaid s m txs h =
    let each : Rules = flat_map (turn_rules s) (turns s.height m 0 txs) in
    let over = int_lt (pos (subsidy_of s.height) +ℤ fees (drop 1 (turns s.height m 0 txs))) (reward_of txs) in
    let last : Rules = (over, CoinbaseAmount) ∷ [] in
    head_clear over CoinbaseAmount [] (both_clear each last (tail_clear (list_any (overwrites m) txs) OverwritesCoin (each ++ last) h)).1

by_subsidy : (s : Setting) (m : Coins) (txs : List Tx) → 1 ≤ length txs → begins_with_coinbase txs ≡ true → AllByRecursion CanTurn (turns s.height m 0 txs)
    → AllByRecursion (λ (t : Tx). AllByRecursion IsPaid t.outputs) txs → int_lt (pos (subsidy_of s.height) +ℤ fees (drop 1 (turns s.height m 0 txs))) (reward_of txs) ≡ false
    → total (effect s.height m txs) ≤ℤ (total m +ℤ pos (subsidy_of s.height))
by_subsidy s m [] some first can paid_all over = absurd (omega arith)
by_subsidy s m (x ∷ rest) some first can paid_all over =
    let h = s.height in
    let t = turn x m 0 in
    let later = turns h (left_by h t) (full_count t) rest in
    let all = turns_next h m 0 x rest in
    omega (arith, ints, over, ap (λ (l : List Turn). fees (drop 1 l)) all, ap fees all, fees_next t later, coinbase_fee x m first, total_turns h m 0 (x ∷ rest) can paid_all)

-- the coins after a block are worth at most those before it and its subsidy
pub block_total : (s : Setting) (m : Coins) (b : Block) → first_broken (alone_rules b) ≡ None → first_broken (connect_rules s m b.txs) ≡ None → total (effect s.height m b.txs) ≤ℤ (total m +ℤ pos (subsidy_of s.height))
block_total s m b alone over =
    let block = lawful_block b alone in
    by_subsidy s m b.txs block.some block.first (all_apply s s.height m 0 b.txs block.lawful (each_clear s m b.txs over)) (all_paid b.txs block.rules) (not_overpaid s m b.txs over)
