-- The transactions of a block, first and then the others.
use Rattle.std.proofs.Common.{◌≡◌, ℕ, zero, suc, ◌<◌, List, [], ◌∷◌, length, get_or, map, take, refl, sym, ap, subst, ◌∙◌, arith}
use Rattle.std.specs.List.{AllByRecursion}
use Rattle.txn.specs.Tx.{Tx}
use Rattle.txn.specs.Identity.{id_of}
use Rattle.coins.specs.declared.coin.Coin.{Coin}
use Rattle.coins.specs.Coins.{Coins}
use Rattle.undo.specs.Effect.{after, spent_coins, IsApplicable, IsApplied}
use Rattle.connect.specs.Turns.{Turn, turn, turns, effect, spent_in, left_by, full_count}

pub turns_none : (h : ℕ) (m : Coins) (n : ℕ) → turns h m n [] ≡ []
unfolding turns
turns_none h m n = refl

pub turns_next : (h : ℕ) (m : Coins) (n : ℕ) (tx : Tx) (txs : List Tx) → turns h m n (tx ∷ txs) ≡ turn tx m n ∷ turns h (left_by h (turn tx m n)) (full_count (turn tx m n)) txs
unfolding turns
turns_next h m n tx txs = refl

pub effect_none : (h : ℕ) (m : Coins) → effect h m [] ≡ m
unfolding effect
effect_none h m = refl

pub effect_next : (h : ℕ) (m : Coins) (tx : Tx) (txs : List Tx) → effect h m (tx ∷ txs) ≡ effect h (after m tx (id_of tx) h) txs
unfolding effect
effect_next h m tx txs = refl

-- what a turn's transaction needs, to be applied
abbrev pub CanTurn : Turn → Type 0
CanTurn t = IsApplicable t.coins t.tx (id_of t.tx)

pub can_next : (h : ℕ) (m : Coins) (n : ℕ) (tx : Tx) (txs : List Tx) → AllByRecursion CanTurn (turns h m n (tx ∷ txs)) → CanTurn (turn tx m n) × AllByRecursion CanTurn (turns h (left_by h (turn tx m n)) (full_count (turn tx m n)) txs)
can_next h m n tx txs c = subst (λ (l : List Turn). AllByRecursion CanTurn l) (turns_next h m n tx txs) c

-- each transaction leads from the coins that those before it left to those that they and it leave
pub applied_at : (h : ℕ) (m : Coins) (n : ℕ) (txs : List Tx) (i : ℕ) (x : Tx) (y : List Coin) → i < length txs → x ≡ get_or txs i x
    → y ≡ get_or (map spent_in (turns h m n txs)) i y → AllByRecursion CanTurn (turns h m n txs)
    → IsApplied (effect h m (take i txs)) x (id_of x) h (effect h m (take (suc i) txs)) y
applied_at h m n [] i x y below ex ey can = absurd (omega arith)
applied_at h m n (t ∷ txs) zero x y below ex ey can =
    let here : IsApplied m t (id_of t) h (effect h m (t ∷ [])) (spent_coins m t) = record { applicable = (can_next h m n t txs can).0; after = effect_next h m t [] ∙ effect_none h (after m t (id_of t) h); spent = refl } in
    let taken : y ≡ spent_coins m t = ey ∙ ap (λ (l : List Turn). get_or (map spent_in l) 0 y) (turns_next h m n t txs) in
    let start : m ≡ effect h m [] = sym (effect_none h m) in
    subst (λ (k : Coins). IsApplied k x (id_of x) h (effect h m (t ∷ [])) y) start
    (subst (λ (l : List Coin). IsApplied m x (id_of x) h (effect h m (t ∷ [])) l) (sym taken)
    (subst (λ (z : Tx). IsApplied m z (id_of z) h (effect h m (t ∷ [])) (spent_coins m t)) (sym ex) here))
applied_at h m n (t ∷ txs) (suc i) x y below ex ey can =
    let k = turn t m n in
    let rest = (can_next h m n t txs can).1 in
    let later = applied_at h (left_by h k) (full_count k) txs i x y (omega arith) ex (ey ∙ ap (λ (l : List Turn). get_or (map spent_in l) (suc i) y) (turns_next h m n t txs)) rest in
    subst (λ (l : Coins). IsApplied l x (id_of x) h (effect h m (t ∷ take (suc i) txs)) y) (sym (effect_next h m t (take i txs)))
    (subst (λ (l : Coins). IsApplied (effect h (left_by h k) (take i txs)) x (id_of x) h l y) (sym (effect_next h m t (take (suc i) txs))) later)
