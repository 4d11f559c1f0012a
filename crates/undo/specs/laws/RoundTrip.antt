-- A transaction that is taken back leaves what was before.
use Rattle.std.proofs.Common.{◌≡◌, ℕ, zero, suc, get_or, ◌+◌, ◌<◌, ◌≤◌, Bool, true, false, cond, List, [], ◌∷◌, ◌++◌, length, map, Option, Some, None, IsSome, refl, sym, ap, subst, ◌∙◌, arith}
use Rattle.std.specs.Prelude.{is_some, ◌||◌}
use Rattle.std.specs.Option.{option_or, option_to_list}
use Rattle.std.specs.List.{list_any, AllByRecursion, IsDistinct, zip}
use Rattle.std.specs.Map.{keys_of}
use Rattle.std.specs.FinMap as coin_map
use Rattle.hash.specs.declared.id.Id.{Id}
use Rattle.txn.specs.declared.outpoint.OutPoint.{OutPoint}
use Rattle.txn.specs.declared.output.TxOut.{TxOut}
use Rattle.txn.specs.Tx.{Tx}
use Rattle.txn.specs.Check.{is_coinbase}
use Rattle.script.specs.Kinds.{is_unspendable}
use Rattle.coins.specs.declared.coin.Coin.{Coin}
use Rattle.coins.specs.Coins.{Coins, same}
use Rattle.coins.specs.laws.Lookups.{same_coins, same-true, same-self, same-sym, entry_for}
use Rattle.undo.specs.Effect.{spends, outpoint_at, spendable, coin_of, makes, without, with_coins, after, coins_at, spent_coins, IsApplicable, IsApplied}
use Rattle.undo.specs.laws.Reversal.{coins_before, IsRevertible, AreCoins, AreNew}
use Rattle.undo.specs.laws.Effects.{get-without, get-with_coins, all_from, all_at, found_key}

-- ---- the outpoints of outputs

index_of : OutPoint → ℕ
index_of p = p.index

other_place : (b : Bool) (id : Id) (j k : ℕ) → j < k → same (outpoint_at id j) (outpoint_at id k) ≡ b → b ≡ false
unfolding index_of
other_place true id j k l h = let e : j ≡ k = ap index_of (same-true (outpoint_at id j) (outpoint_at id k) h) in absurd (omega arith)
other_place false id j k l h = refl

-- each stands at the place of an output from this one on
abbrev From : Id → ℕ → ℕ → OutPoint → Type 0
From id k n q = (j : ℕ) × (k ≤ j) × (j < k + n) × (q ≡ outpoint_at id j)

from_more : (id : Id) (k n : ℕ) (q : OutPoint) → From id (k + 1) n q → From id k (n + 1) q
from_more id k n q f = (f.0, omega arith, omega arith, f.3)

later : (P : OutPoint → Type 0) (id : Id) (k : ℕ) (os : List TxOut) → ((q : OutPoint) → From id k (length os) q → P q) → AllByRecursion P (keys_of (spendable id k os))
later P id k [] h = tt
later P id k (o ∷ os) h = at (is_unspendable o.script) (later P id (k + 1) os (λ q f. h q (let g = from_more id k (length os) q f in (g.0, g.1, omega arith, g.3))))
  where
    at : (b : Bool) → AllByRecursion P (keys_of (spendable id (k + 1) os)) → AllByRecursion P (keys_of (cond b [] ((outpoint_at id k, o) ∷ []) ++ spendable id (k + 1) os))
    at true r = r
    at false r = (h (outpoint_at id k) (k, omega arith, omega arith, refl), r)

pub once_spendable : (id : Id) (k : ℕ) (os : List TxOut) → IsDistinct same (keys_of (spendable id k os))
unfolding IsDistinct
once_spendable id k [] = tt
once_spendable id k (o ∷ os) = at (is_unspendable o.script) (once_spendable id (k + 1) os)
  where
    at : (b : Bool) → IsDistinct same (keys_of (spendable id (k + 1) os)) → IsDistinct same (keys_of (cond b [] ((outpoint_at id k, o) ∷ []) ++ spendable id (k + 1) os))
    at true r = r
    at false r = (later (λ q. same (outpoint_at id k) q ≡ false) id (k + 1) os (λ q f. ap (same (outpoint_at id k)) f.3 ∙ other_place (same (outpoint_at id k) (outpoint_at id f.0)) id k f.0 (omega arith) refl), r)

-- what is made stands at the same outpoints
pub keys-made : (f : TxOut → Coin) (es : List (OutPoint × TxOut)) → keys_of (map (λ o. (o.0, f o.1)) es) ≡ keys_of es
keys-made f [] = refl
keys-made f (e ∷ es) = ap (λ ks. e.0 ∷ ks) (keys-made f es)

all_keys : {V : Type 0} (P : OutPoint → Type 0) (es : List (OutPoint × V)) → AllByRecursion P (keys_of es) → AllByRecursion (λ e. P e.0) es
all_keys P [] a = tt
all_keys P (e ∷ es) a = (a.0, all_keys P es a.1)

-- ---- what a transaction that can be applied spends and makes

pub are_coins : (m : Coins) (tx : Tx) (id : Id) → IsApplicable m tx id → AreCoins m (spends tx)
are_coins m tx id h = record { coins = h.coins; once = h.once }

none_at : (m : Coins) (tx : Tx) (id : Id) → IsApplicable m tx id → AllByRecursion (λ q. coin_map.get m q ≡ None) (keys_of (spendable id 0 tx.outputs))
none_at m tx id h = later (λ q. coin_map.get m q ≡ None) id 0 tx.outputs (λ q f. ap (coin_map.get m) f.3 ∙ h.new f.0 (omega (arith, f.2)))

no_coin : (b : Bool) (o : Option Coin) → o ≡ None → cond b None o ≡ None
no_coin true o h = refl
no_coin false o h = h

pub once-makes : (tx : Tx) (id : Id) (height : ℕ) → IsDistinct same (keys_of (makes tx id height))
once-makes tx id height = subst (IsDistinct same) (sym (keys-made (coin_of height (is_coinbase tx)) (spendable id 0 tx.outputs))) (once_spendable id 0 tx.outputs)

pub are_new : (m : Coins) (tx : Tx) (id : Id) (height : ℕ) → IsApplicable m tx id → AreNew (without m (spends tx)) (makes tx id height)
are_new m tx id height h = record {
  new = all_keys (λ q. coin_map.get (without m (spends tx)) q ≡ None) (makes tx id height)
      (subst (AllByRecursion (λ q. coin_map.get (without m (spends tx)) q ≡ None)) (sym (keys-made (coin_of height (is_coinbase tx)) (spendable id 0 tx.outputs)))
      (all_from (λ q. coin_map.get (without m (spends tx)) q ≡ None) (keys_of (spendable id 0 tx.outputs))
      (λ q t. get-without m (spends tx) q ∙ no_coin (list_any (same q) (spends tx)) (coin_map.get m q) (all_at (λ x. coin_map.get m x ≡ None) (keys_of (spendable id 0 tx.outputs)) (none_at m tx id h) q t))));
  once = once-makes tx id height;
}

-- ---- taken back

strip : (b : Bool) (o r : Option Coin) → b ≡ is_some o → cond b None (option_or o r) ≡ cond b None r
strip true o r h = refl
strip false None r h = refl
strip false (Some c) r h = cc

-- taking away what was made leaves what was before
unmade_here : (b d : Bool) (o : Option Coin) → (b ≡ true → o ≡ None) → cond b None (cond d None o) ≡ cond d None o
unmade_here true d o h = sym (no_coin d o (h refl))
unmade_here false d o h = refl

unmade : (m : Coins) (ps ks : List OutPoint) (es : List (OutPoint × Coin)) → keys_of es ≡ ks → IsDistinct same (keys_of es)
    → AllByRecursion (λ q. coin_map.get m q ≡ None) ks → without (with_coins (without m ps) es) ks ≡ without m ps
unmade m ps ks es keys once none = same_coins _ _ (λ q.
    get-without (with_coins (without m ps) es) ks q
    ∙ ap (cond (list_any (same q) ks) None) (get-with_coins (without m ps) es q once)
    ∙ strip (list_any (same q) ks) (entry_for es q) (coin_map.get (without m ps) q) (ap (list_any (same q)) (sym keys) ∙ found_key es q)
    ∙ ap (cond (list_any (same q) ks) None) (get-without m ps q)
    ∙ unmade_here (list_any (same q) ks) (list_any (same q) ps) (coin_map.get m q) (all_at (λ x. coin_map.get m x ≡ None) ks none q)
    ∙ sym (get-without m ps q))

-- and each coin that was spent comes back to its outpoint
one_coin : (m : Coins) (o : Option Coin) → IsSome o → (c : Coin) × (o ≡ Some c)
one_coin m None h = cc
one_coin m (Some c) h = (c, refl)

keys-zip : (m : Coins) (ps : List OutPoint) → AllByRecursion (λ q. IsSome (coin_map.get m q)) ps → keys_of (zip ps (coins_at m ps)) ≡ ps
keys-zip m [] a = refl
keys-zip m (p ∷ ps) a =
    let c = one_coin m (coin_map.get m p) a.0 in
    ap (λ (o : Option Coin). keys_of (zip (p ∷ ps) (option_to_list o ++ coins_at m ps))) c.1 ∙ ap (λ qs. p ∷ qs) (keys-zip m ps a.1)

back_here : (b d : Bool) (m : Coins) (p q : OutPoint) (c : Coin) → same q p ≡ b → coin_map.get m p ≡ Some c → cond b (Some c) (cond d (coin_map.get m q) None) ≡ cond (b || d) (coin_map.get m q) None
back_here true d m p q c h e = sym (ap (coin_map.get m) (same-true q p h) ∙ e)
back_here false d m p q c h e = refl

found-zip : (m : Coins) (ps : List OutPoint) (q : OutPoint) → AllByRecursion (λ x. IsSome (coin_map.get m x)) ps → entry_for (zip ps (coins_at m ps)) q ≡ cond (list_any (same q) ps) (coin_map.get m q) None
found-zip m [] q a = refl
found-zip m (p ∷ ps) q a =
    let c = one_coin m (coin_map.get m p) a.0 in
    ap (λ (o : Option Coin). entry_for (zip (p ∷ ps) (option_to_list o ++ coins_at m ps)) q) c.1
    ∙ ap (cond (same q p) (Some c.0)) (found-zip m ps q a.1)
    ∙ back_here (same q p) (list_any (same q) ps) m p q c.0 refl c.1

whole_here : (b : Bool) (o : Option Coin) → option_or (cond b o None) (cond b None o) ≡ o
whole_here true None = refl
whole_here true (Some c) = refl
whole_here false o = refl

returned : (m : Coins) (ps : List OutPoint) → AllByRecursion (λ q. IsSome (coin_map.get m q)) ps → IsDistinct same ps → with_coins (without m ps) (zip ps (coins_at m ps)) ≡ m
returned m ps a d = same_coins _ _ (λ q.
    get-with_coins (without m ps) (zip ps (coins_at m ps)) q (subst (IsDistinct same) (sym (keys-zip m ps a)) d)
    ∙ ap (λ (o : Option Coin). option_or o (coin_map.get (without m ps) q)) (found-zip m ps q a)
    ∙ ap (option_or (cond (list_any (same q) ps) (coin_map.get m q) None)) (get-without m ps q)
    ∙ whole_here (list_any (same q) ps) (coin_map.get m q))

pub length-coins_at : (m : Coins) (ps : List OutPoint) → AllByRecursion (λ q. IsSome (coin_map.get m q)) ps → length (coins_at m ps) ≡ length ps
length-coins_at m [] a = refl
length-coins_at m (p ∷ ps) a =
    let c = one_coin m (coin_map.get m p) a.0 in
    ap (λ (o : Option Coin). length (option_to_list o ++ coins_at m ps)) c.1 ∙ ap suc (length-coins_at m ps a.1)

-- reverting what was applied leaves the coins of before
pub reverted_after : (m : Coins) (tx : Tx) (id : Id) (height : ℕ) → IsApplicable m tx id → coins_before (after m tx id height) tx id (spent_coins m tx) ≡ m
unfolding coins_before after spent_coins
reverted_after m tx id height h =
    ap (λ (x : Coins). with_coins x (zip (spends tx) (coins_at m (spends tx))))
    (unmade m (spends tx) (keys_of (spendable id 0 tx.outputs)) (makes tx id height) (keys-made (coin_of height (is_coinbase tx)) (spendable id 0 tx.outputs)) (once-makes tx id height) (none_at m tx id h))
    ∙ returned m (spends tx) h.coins h.once

there_here : (b : Bool) (o r : Option Coin) → b ≡ is_some o → b ≡ true → IsSome (option_or o r)
there_here b None r h t = let x : true ≡ false = sym t ∙ h in cc
there_here b (Some c) r h t = refl

pub revertible_after : (m : Coins) (tx : Tx) (id : Id) (height : ℕ) → IsApplicable m tx id → IsRevertible (after m tx id height) tx id (spent_coins m tx)
unfolding after spent_coins
revertible_after m tx id height h =
    let ps = spends tx in
    let ks = keys_of (spendable id 0 tx.outputs) in
    let es = makes tx id height in
    let keys : keys_of es ≡ ks = keys-made (coin_of height (is_coinbase tx)) (spendable id 0 tx.outputs) in
    let once = once-makes tx id height in
    let before : without (with_coins (without m ps) es) ks ≡ without m ps = unmade m ps ks es keys once (none_at m tx id h) in
    record {
      outputs = record {
        coins = all_from (λ q. IsSome (coin_map.get (with_coins (without m ps) es) q)) ks
            (λ q t. subst IsSome (sym (get-with_coins (without m ps) es q once)) (there_here (list_any (same q) ks) (entry_for es q) (coin_map.get (without m ps) q) (ap (list_any (same q)) (sym keys) ∙ found_key es q) t));
        once = once_spendable id 0 tx.outputs;
      };
      inputs = record {
        new = all_keys (λ q. coin_map.get (without (with_coins (without m ps) es) ks) q ≡ None) (zip ps (coins_at m ps))
            (subst (AllByRecursion (λ q. coin_map.get (without (with_coins (without m ps) es) ks) q ≡ None)) (sym (keys-zip m ps h.coins))
            (all_from (λ q. coin_map.get (without (with_coins (without m ps) es) ks) q ≡ None) ps
            (λ q t. ap (λ (x : Coins). coin_map.get x q) before ∙ get-without m ps q ∙ ap (λ b. cond b None (coin_map.get m q)) t)));
        once = subst (IsDistinct same) (sym (keys-zip m ps h.coins)) h.once;
      };
      alike = length-coins_at m ps h.coins;
      numbered = h.numbered;
    }

pub revertible : (m : Coins) (tx : Tx) (id : Id) (height : ℕ) (n : Coins) (cs : List Coin) → IsApplied m tx id height n cs → IsRevertible n tx id cs
revertible m tx id height n cs h =
    subst (λ (x : List Coin). IsRevertible n tx id x) (sym h.spent)
    (subst (λ (x : Coins). IsRevertible x tx id (spent_coins m tx)) (sym h.after) (revertible_after m tx id height h.applicable))

pub reverted_is : (m : Coins) (tx : Tx) (id : Id) (height : ℕ) (n : Coins) (cs : List Coin) → IsApplied m tx id height n cs → coins_before n tx id cs ≡ m
reverted_is m tx id height n cs h =
    ap (λ (x : Coins). coins_before x tx id cs) h.after
    ∙ ap (λ (x : List Coin). coins_before (after m tx id height) tx id x) h.spent
    ∙ reverted_after m tx id height h.applicable

-- ---- what stands at each outpoint after a transaction

apart_from : {V : Type 0} (q : OutPoint) (es : List (OutPoint × V)) → AllByRecursion (λ y. same q y ≡ false) (keys_of es) → entry_for es q ≡ None
apart_from q [] a = refl
apart_from q (e ∷ es) a = ap (λ b. cond b (Some e.1) (entry_for es q)) a.0 ∙ apart_from q es a.1

abbrev with_first : (TxOut → Coin) → Bool → OutPoint → TxOut → List (OutPoint × TxOut) → List (OutPoint × Coin)
with_first f b p o es = map (λ x. (x.0, f x.1)) (cond b [] ((p, o) ∷ []) ++ es)

found_first : (f : TxOut → Coin) (b : Bool) (p : OutPoint) (o : TxOut) (es : List (OutPoint × TxOut)) → entry_for (map (λ x. (x.0, f x.1)) es) p ≡ None
    → entry_for (with_first f b p o es) p ≡ cond b None (Some (f o))
found_first f true p o es h = h
found_first f false p o es h = ap (λ b. cond b (Some (f o)) (entry_for (map (λ x. (x.0, f x.1)) es) p)) (same-self p)

found_next : (f : TxOut → Coin) (b : Bool) (p q : OutPoint) (o : TxOut) (es : List (OutPoint × TxOut)) → same q p ≡ false
    → entry_for (with_first f b p o es) q ≡ entry_for (map (λ x. (x.0, f x.1)) es) q
found_next f true p q o es h = refl
found_next f false p q o es h = ap (λ b. cond b (Some (f o)) (entry_for (map (λ x. (x.0, f x.1)) es) q)) h

other_way : (id : Id) (j k : ℕ) → j < k → same (outpoint_at id k) (outpoint_at id j) ≡ false
other_way id j k l = same-sym (outpoint_at id k) (outpoint_at id j) ∙ other_place (same (outpoint_at id j) (outpoint_at id k)) id j k l refl

none_later : (f : TxOut → Coin) (id : Id) (k : ℕ) (os : List TxOut) → entry_for (map (λ x. (x.0, f x.1)) (spendable id (k + 1) os)) (outpoint_at id k) ≡ None
none_later f id k os = apart_from (outpoint_at id k) (map (λ x. (x.0, f x.1)) (spendable id (k + 1) os))
    (subst (AllByRecursion (λ y. same (outpoint_at id k) y ≡ false)) (sym (keys-made f (spendable id (k + 1) os)))
    (later (λ y. same (outpoint_at id k) y ≡ false) id (k + 1) os (λ q g. ap (same (outpoint_at id k)) g.3 ∙ other_place (same (outpoint_at id k) (outpoint_at id g.0)) id k g.0 (omega (arith, g.1)) refl)))

found-makes : (f : TxOut → Coin) (id : Id) (k : ℕ) (os : List TxOut) (i : ℕ) (d : TxOut) → i < length os
    → entry_for (map (λ x. (x.0, f x.1)) (spendable id k os)) (outpoint_at id (k + i)) ≡ cond (is_unspendable (get_or os i d).script) None (Some (f (get_or os i d)))
found-makes f id k [] i d h = absurd (omega arith)
found-makes f id k (o ∷ os) zero d h =
    ap (λ j. entry_for (with_first f (is_unspendable o.script) (outpoint_at id k) o (spendable id (k + 1) os)) (outpoint_at id j)) (omega arith)
    ∙ found_first f (is_unspendable o.script) (outpoint_at id k) o (spendable id (k + 1) os) (none_later f id k os)
found-makes f id k (o ∷ os) (suc i) d h =
    found_next f (is_unspendable o.script) (outpoint_at id k) (outpoint_at id (k + suc i)) o (spendable id (k + 1) os) (other_way id k (k + suc i) (omega arith))
    ∙ ap (λ j. entry_for (map (λ x. (x.0, f x.1)) (spendable id (k + 1) os)) (outpoint_at id j)) (omega arith)
    ∙ found-makes f id (k + 1) os i d (omega arith)

pub get-after : (m : Coins) (tx : Tx) (id : Id) (height : ℕ) (q : OutPoint) → coin_map.get (after m tx id height) q ≡ option_or (entry_for (makes tx id height) q) (cond (list_any (same q) (spends tx)) None (coin_map.get m q))
unfolding after
get-after m tx id height q =
    get-with_coins (without m (spends tx)) (makes tx id height) q (once-makes tx id height)
    ∙ ap (option_or (entry_for (makes tx id height) q)) (get-without m (spends tx) q)

output_here : (b d : Bool) (c : Coin) (o : Option Coin) → o ≡ None → option_or (cond b None (Some c)) (cond d None o) ≡ cond b None (Some c)
output_here true d c o h = no_coin d o h
output_here false d c o h = refl

-- at the place of an output its coin, if it can be one
pub output-after : (m : Coins) (tx : Tx) (id : Id) (height : ℕ) → IsApplicable m tx id → (i : ℕ) (d : TxOut) → i < length tx.outputs
    → coin_map.get (after m tx id height) (outpoint_at id i) ≡ cond (is_unspendable (get_or tx.outputs i d).script) None (Some (coin_of height (is_coinbase tx) (get_or tx.outputs i d)))
output-after m tx id height h i d l =
    let f = coin_of height (is_coinbase tx) in
    get-after m tx id height (outpoint_at id i)
    ∙ ap (λ (o : Option Coin). option_or o (cond (list_any (same (outpoint_at id i)) (spends tx)) None (coin_map.get m (outpoint_at id i))))
    (ap (λ j. entry_for (makes tx id height) (outpoint_at id j)) (omega arith) ∙ found-makes f id 0 tx.outputs i d l)
    ∙ output_here (is_unspendable (get_or tx.outputs i d).script) (list_any (same (outpoint_at id i)) (spends tx)) (f (get_or tx.outputs i d)) (coin_map.get m (outpoint_at id i)) (h.new i l)

none_made : (m : Coins) (tx : Tx) (id : Id) (height : ℕ) → IsApplicable m tx id → (q : OutPoint) → IsSome (coin_map.get m q) → entry_for (makes tx id height) q ≡ None
none_made m tx id height h q some = at (entry_for (makes tx id height) q) refl
  where
    at : (o : Option Coin) → entry_for (makes tx id height) q ≡ o → o ≡ None
    at None e = refl
    at (Some c) e =
        let ks = keys_of (spendable id 0 tx.outputs) in
        let key : list_any (same q) ks ≡ true = ap (list_any (same q)) (sym (keys-made (coin_of height (is_coinbase tx)) (spendable id 0 tx.outputs))) ∙ found_key (makes tx id height) q ∙ ap (λ o. is_some o) e in
        let none : coin_map.get m q ≡ None = all_at (λ x. coin_map.get m x ≡ None) ks (none_at m tx id h) q key in
        let clash : true ≡ false = sym some ∙ ap (λ o. is_some o) none in cc

-- what it spends is gone
pub gone-after : (m : Coins) (tx : Tx) (id : Id) (height : ℕ) → IsApplicable m tx id → AllByRecursion (λ q. coin_map.get (after m tx id height) q ≡ None) (spends tx)
gone-after m tx id height h = all_from (λ q. coin_map.get (after m tx id height) q ≡ None) (spends tx) (λ q t.
    get-after m tx id height q
    ∙ ap (λ (o : Option Coin). option_or o (cond (list_any (same q) (spends tx)) None (coin_map.get m q))) (none_made m tx id height h q (all_at (λ x. IsSome (coin_map.get m x)) (spends tx) h.coins q t))
    ∙ ap (λ b. cond b None (coin_map.get m q)) t)

not_a_place : (id : Id) (os : List TxOut) (q : OutPoint) → ((i : ℕ) → i < length os → ¬ (q ≡ outpoint_at id i)) → AllByRecursion (λ y. same q y ≡ false) (keys_of (spendable id 0 os))
not_a_place id os q h = later (λ y. same q y ≡ false) id 0 os (λ y f. at (same q y) y f refl)
  where
    at : (b : Bool) (y : OutPoint) → From id 0 (length os) y → same q y ≡ b → b ≡ false
    at true y f e = absurd (h f.0 (omega (arith, f.2)) (same-true q y e ∙ f.3))
    at false y f e = refl

-- and all else stays
pub stays-after : (m : Coins) (tx : Tx) (id : Id) (height : ℕ) (q : OutPoint) → list_any (same q) (spends tx) ≡ false → ((i : ℕ) → i < length tx.outputs → ¬ (q ≡ outpoint_at id i))
    → coin_map.get (after m tx id height) q ≡ coin_map.get m q
stays-after m tx id height q t h =
    get-after m tx id height q
    ∙ ap (λ (o : Option Coin). option_or o (cond (list_any (same q) (spends tx)) None (coin_map.get m q)))
    (apart_from q (makes tx id height) (subst (AllByRecursion (λ y. same q y ≡ false)) (sym (keys-made (coin_of height (is_coinbase tx)) (spendable id 0 tx.outputs))) (not_a_place id tx.outputs q h)))
    ∙ ap (λ b. cond b None (coin_map.get m q)) t
