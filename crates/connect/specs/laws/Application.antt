-- A transaction that breaks no rule in its turn can be applied.
use Rattle.std.proofs.Common.{◌≡◌, ℕ, zero, suc, ◌+◌, ◌<◌, ◌≤◌, Bool, true, false, not, ◌&&◌, ◌||◌, List, [], ◌∷◌, ◌++◌, length, map, drop, pos, ◌+ℤ◌, Option, Some, None, IsSome, refl, sym, ap, subst, ◌∙◌, ⊎_elim, arith}
use Rattle.std.specs.Prelude.{is_some, int_lt}
use Rattle.std.specs.List.{list_all, list_any, flat_map, range_with_len, AllByRecursion}
use Rattle.std.proofs.lemmas.Bool.{cases_order}
use Rattle.std.specs.FinMap as coin_map
use Rattle.txn.specs.declared.outpoint.OutPoint.{OutPoint}
use Rattle.txn.specs.Tx.{Tx}
use Rattle.txn.specs.declared.reason.Reason.TheVariants.{OverwritesCoin, CoinbaseAmount}
use Rattle.txn.specs.First.{Rules, first_broken}
use Rattle.block.specs.declared.block.Block.{Block}
use Rattle.block.specs.Reward.{subsidy_of}
use Rattle.rules.specs.Alone.{begins_with_coinbase}
use Rattle.txn.specs.Identity.{id_of}
use Rattle.coins.specs.declared.coin.Coin.{Coin}
use Rattle.coins.specs.Coins.{Coins}
use Rattle.undo.specs.Effect.{outpoint_at, spends, IsApplicable}
use Rattle.connect.specs.BlockContext.{Setting}
use Rattle.connect.specs.Turns.{Turn, turn, turns, effect, undo_of, spent_in, left_by, full_count}
use Rattle.connect.specs.Faults.{has_coin, overwrites, fees, reward_of, turn_rules, connect_rules}
use Rattle.connect.specs.ConnectedBlock.{IsConnected}
use Rattle.connect.specs.inside.AppliedTransactions.{IsBlockApplied}
use Rattle.connect.specs.inside.Turns.{IsLawful}
use Rattle.connect.specs.laws.Alone.{both_clear, lawful_block}
use Rattle.connect.specs.laws.Broken.{cleared, tail_clear}
use Rattle.connect.specs.laws.Turns.{CanTurn, can_next, turns_none, turns_next, effect_next}

-- ---- coins that are there, and outpoints that are new

none_of : {A : Type 0} (o : Option A) → is_some o ≡ false → o ≡ None
none_of (Some x) h = cc
none_of None h = refl

both : (a b : Bool) → (a && b) ≡ true → (a ≡ true) × (b ≡ true)
both true b h = (refl, h)
both false b h = cc

neither : (a b : Bool) → (a || b) ≡ false → (a ≡ false) × (b ≡ false)
neither true b h = cc
neither false b h = (refl, h)

all_there : (m : Coins) (ps : List OutPoint) → list_all (has_coin m) ps ≡ true → AllByRecursion (λ p. IsSome (coin_map.get m p)) ps
all_there m [] h = tt
all_there m (p ∷ ps) h =
    let two = both (has_coin m p) (list_all (has_coin m) ps) h in
    (two.0, all_there m ps two.1)

none_among : (m : Coins) (f : ℕ → OutPoint) (k n i : ℕ) → list_any (has_coin m) (map f (range_with_len k n)) ≡ false → k ≤ i → i < k + n → coin_map.get m (f i) ≡ None
none_among m f k zero i h low high = absurd (omega arith)
none_among m f k (suc n) i h low high =
    let two = neither (has_coin m (f k)) (list_any (has_coin m) (map f (range_with_len (k + 1) n))) h in
    ⊎_elim (λ (e : k ≡ i). ap (λ x. coin_map.get m (f x)) (sym e) ∙ none_of (coin_map.get m (f k)) two.0)
    (λ other. ⊎_elim (λ (lt : k < i). none_among m f (k + 1) n i two.1 (omega arith) (omega arith)) (λ (gt : i < k). absurd (omega arith)) other) (cases_order k i)

there_if : (b : Bool) → not b ≡ false → b ≡ true
there_if true h = refl
there_if false h = cc

pub is_there : (s : Setting) (t : Turn) → first_broken (turn_rules s t) ≡ None → list_all (has_coin t.coins) (spends t.tx) ≡ true
is_there s t h = there_if (list_all (has_coin t.coins) (spends t.tx)) (cleared s t h).count.locks.amount.age.coins.there

pub applies : (s : Setting) (t : Turn) → IsLawful t.tx → first_broken (turn_rules s t) ≡ None → IsApplicable t.coins t.tx (id_of t.tx)
unfolding overwrites
applies s t lawful h = record {
  coins = all_there t.coins (spends t.tx) (is_there s t h);
  once = lawful.once;
  new = λ index below. none_among t.coins (outpoint_at (id_of t.tx)) 0 (length t.tx.outputs) index (cleared s t h).new (omega arith) (omega (arith, below));
  numbered = omega (arith, lawful.outputs);
}

-- and so can those of a block, one after the other
pub all_apply : (s : Setting) (h : ℕ) (m : Coins) (n : ℕ) (txs : List Tx) → AllByRecursion IsLawful txs → first_broken (flat_map (turn_rules s) (turns h m n txs)) ≡ None → AllByRecursion CanTurn (turns h m n txs)
all_apply s h m n [] lawful e = subst (λ (l : List Turn). AllByRecursion CanTurn l) (sym (turns_none h m n)) tt
all_apply s h m n (tx ∷ txs) lawful e =
    let t = turn tx m n in
    let later = turns h (left_by h t) (full_count t) txs in
    let two = both_clear (turn_rules s t) (flat_map (turn_rules s) later) (sym (ap (λ (l : List Turn). first_broken (flat_map (turn_rules s) l)) (turns_next h m n tx txs)) ∙ e) in
    subst (λ (l : List Turn). AllByRecursion CanTurn l) (sym (turns_next h m n tx txs)) (applies s t lawful.0 two.0, all_apply s h (left_by h t) (full_count t) txs lawful.1 two.1)

pub each_clear : (s : Setting) (m : Coins) (txs : List Tx) → first_broken (connect_rules s m txs) ≡ None → first_broken (flat_map (turn_rules s) (turns s.height m 0 txs)) ≡ None
unfolding connect_rules
each_clear s m txs h =
    let last : Rules = (int_lt (pos (subsidy_of s.height) +ℤ fees (drop 1 (turns s.height m 0 txs))) (reward_of txs), CoinbaseAmount) ∷ [] in
    (both_clear (flat_map (turn_rules s) (turns s.height m 0 txs)) last (tail_clear (list_any (overwrites m) txs) OverwritesCoin (flat_map (turn_rules s) (turns s.height m 0 txs) ++ last) h)).0

applied_parts : (h : ℕ) (m n : Coins) (taken : List (List Coin)) (txs : List Tx) → 1 ≤ length txs → begins_with_coinbase txs ≡ true → AllByRecursion CanTurn (turns h m 0 txs)
    → n ≡ effect h m txs → taken ≡ undo_of h m txs → IsBlockApplied h m txs n taken
unfolding undo_of
applied_parts h m n taken [] some first can e u = absurd (omega arith)
applied_parts h m n taken (x ∷ rest) some first can e u =
    let two = can_next h m 0 x rest can in
    let t = turn x m 0 in
    record {
      coinbase = x;
      others = rest;
      parts = refl;
      first = first;
      applicable = two.0;
      applied = record { counted = full_count t; each = two.1; after = e ∙ effect_next h m x rest; spent = u ∙ ap (λ (l : List Turn). map spent_in (drop 1 l)) (turns_next h m 0 x rest) };
    }

-- a block that was connected was applied, transaction by transaction
pub block_applied : (s : Setting) (m : Coins) (b : Block) (n : Coins) (taken : List (List Coin)) → IsConnected s m b n taken → IsBlockApplied s.height m b.txs n taken
block_applied s m b n taken h =
    let block = lawful_block b h.alone in
    applied_parts s.height m n taken b.txs block.some block.first (all_apply s s.height m 0 b.txs block.lawful (each_clear s m b.txs h.over_coins)) h.after h.spent
