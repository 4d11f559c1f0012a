-- Taking transactions back.
use Rattle.std.proofs.Common.{◌≡◌, ℕ, zero, suc, ◌-◌, ◌<◌, List, [], ◌∷◌, length, get_or, map, take, drop, true, cond, Result, Ok, Err, IfOk, OnOk, sym, ap, subst, ◌∙◌, arith}
use Rattle.hash.specs.declared.id.Id.{Id}
use Rattle.txn.specs.Tx.{Tx}
use Rattle.txn.specs.Check.{is_coinbase, prevs}
use Rattle.txn.specs.Identity.{id_of, ids_of}
use Rattle.coins.specs.declared.coin.Coin.{Coin}
use Rattle.coins.specs.Coins.{Coins}
use Rattle.undo.specs.Effect.{after, coins_at, spent_coins, IsApplied}
use Rattle.connect.specs.Turns.{Turn, turn, turns, effect, spent_in, left_by, full_count}
use Rattle.connect.specs.inside.AppliedTransactions.{AreApplied, IsBlockApplied}
use Rattle.connect.proofs.Steps.{tail_of}
use Rattle.connect.specs.laws.Turns.{turns_none, turns_next, applied_at}

id_in : (txs : List Tx) (i : ℕ) (x : Tx) (d : Id) → i < length txs → x ≡ get_or txs i x → get_or (ids_of txs) i d ≡ id_of x
id_in [] i x d h e = absurd (omega arith)
id_in (t ∷ txs) zero x d h e = ap (λ (y : Tx). id_of y) (sym e)
id_in (t ∷ txs) (suc i) x d h e = id_in txs i x d (omega arith) e

pub id_at : (txs : List Tx) (ids : List Id) (i : ℕ) (x : Tx) (d : Id) → ids ≡ ids_of txs → i < length txs → x ≡ get_or txs i x → get_or ids i d ≡ id_of x
id_at txs ids i x d same h e = ap (λ (l : List Id). get_or l i d) same ∙ id_in txs i x d h e

length_turns : (h : ℕ) (m : Coins) (n : ℕ) (txs : List Tx) → length (map spent_in (turns h m n txs)) ≡ length txs
length_turns h m n [] = ap (λ (l : List Turn). length (map spent_in l)) (turns_none h m n)
length_turns h m n (t ∷ txs) =
    ap (λ (l : List Turn). length (map spent_in l)) (turns_next h m n t txs) ∙ ap (λ k. suc k) (length_turns h (left_by h (turn t m n)) (full_count (turn t m n)) txs)

pub one_each : (h : ℕ) (m : Coins) (txs : List Tx) (n : Coins) (undo : List (List Coin)) → AreApplied h m txs n undo → length undo ≡ length txs
one_each h m txs n undo a = ap length a.spent ∙ length_turns h m a.counted txs

-- the transaction at a place was applied to the coins that those before it left
pub back_at : (h : ℕ) (m : Coins) (txs : List Tx) (n : Coins) (undo : List (List Coin)) → AreApplied h m txs n undo → (ids : List Id) → ids ≡ ids_of txs
    → (i rest : ℕ) (x : Tx) (y : List Coin) (d : Id) (k : Coins) → i < length txs → rest ≡ suc i → x ≡ get_or txs i x → y ≡ get_or undo i y → k ≡ effect h m (take rest txs)
    → IsApplied (effect h m (take i txs)) x (get_or ids i d) h k y
back_at h m txs n undo a ids same i rest x y d k below r ex ey e =
    subst (λ (z : Id). IsApplied (effect h m (take i txs)) x z h k y) (sym (id_at txs ids i x d same below ex))
    (subst (λ (l : Coins). IsApplied (effect h m (take i txs)) x (id_of x) h l y) (sym (e ∙ ap (λ j. effect h m (take j txs)) r))
    (applied_at h m a.counted txs i x y below ex (ey ∙ ap (λ (l : List (List Coin)). get_or l i y) a.spent) a.each))

-- ---- a block

pub others_back : (h : ℕ) (m : Coins) (txs : List Tx) (n : Coins) (undo slice : List (List Coin)) → (b : IsBlockApplied h m txs n undo) → slice ≡ undo
    → AreApplied h (after m b.coinbase (id_of b.coinbase) h) (take (length txs - 1) (drop 1 txs)) n slice
others_back h m txs n undo slice b e =
    let coins = after m b.coinbase (id_of b.coinbase) h in
    subst (λ (l : List Tx). AreApplied h coins l n slice) (sym (tail_of txs ∙ ap (drop 1) b.parts)) (subst (λ (l : List (List Coin)). AreApplied h coins b.others n l) (sym e) b.applied)

coinbase_spent : (m : Coins) (x : Tx) → is_coinbase x ≡ true → spent_coins m x ≡ []
unfolding spent_coins
coinbase_spent m x h = ap (λ b. coins_at m (cond b [] (prevs x.inputs))) h

pub first_back : (h : ℕ) (m : Coins) (txs : List Tx) (n : Coins) (undo : List (List Coin)) → (b : IsBlockApplied h m txs n undo) → (ids : List Id) → ids ≡ ids_of txs
    → (x : Tx) (d : Id) (k : Coins) (taken : List Coin) → x ≡ get_or txs 0 x → k ≡ after m b.coinbase (id_of b.coinbase) h → taken ≡ [] → IsApplied m x (get_or ids 0 d) h k taken
first_back h m txs n undo b ids same x d k taken ex e none =
    let here : IsApplied m b.coinbase (id_of b.coinbase) h k taken = record { applicable = b.applicable; after = e; spent = none ∙ sym (coinbase_spent m b.coinbase b.first) } in
    let first : x ≡ b.coinbase = ex ∙ ap (λ (l : List Tx). get_or l 0 x) b.parts in
    let id : get_or ids 0 d ≡ id_of x = id_at txs ids 0 x d same (omega (arith, ap length b.parts)) ex in
    subst (λ (z : Id). IsApplied m x z h k taken) (sym id) (subst (λ (y : Tx). IsApplied m y (id_of y) h k taken) (sym first) here)

pub if_ok : {T E : Type 0} {P Q : T → Type 0} (r : Result T E) → IfOk r P → ((x : T) → P x → Q x) → IfOk r Q
if_ok (Ok x) h f = f x h
if_ok (Err x) h f = tt

pub on_ok : {T E : Type 0} {P Q : Type 0} (r : Result T E) → OnOk r P → (P → Q) → OnOk r Q
on_ok (Ok x) h f = f h
on_ok (Err x) h f = tt
