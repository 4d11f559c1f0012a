-- Coins of one map and of many, while they are brought over.
use Rattle.std.proofs.Common.{◌≡◌, ◌<◌, Bool, true, false, cond, List, [], ◌∷◌, ◌++◌, length, Option, Some, None, refl, sym, ap, subst, ◌∙◌, arith}
use Rattle.std.specs.Prelude.{IfSome, IsSome, is_some, slice_get}
use Rattle.std.specs.FinMap as map
use Rattle.std.specs.FinMap.{from_entries, get-empty, get-from_entries, get-insert, get-remove}
use Rattle.txn.specs.declared.outpoint.OutPoint.{OutPoint}
use Rattle.coins.specs.Coins.{Coin, Coins, few_and_many, outpoint_cmp, same}
use Rattle.coins.specs.laws.Lookups.{entry_for, get-entries, same_coins, same-sym, same-true, total_order}
use Rattle.coins.specs.inside.Changes.{Changed}

abbrev Entries : Type 0
Entries = List (OutPoint × Coin)

-- what is found in the first of two places, or else in the second
abbrev pub first : Option Coin → Option Coin → Option Coin
first (Some c) o = Some c
first None o = o

found_here : (b : Bool) (c : Coin) (o p r : Option Coin) → r ≡ first o p → cond b (Some c) r ≡ first (cond b (Some c) o) p
found_here true c o p r h = refl
found_here false c o p r h = h

found_append : (es fs : Entries) (q : OutPoint) → entry_for (es ++ fs) q ≡ first (entry_for es q) (entry_for fs q)
found_append [] fs q = refl
found_append (e ∷ es) fs q = found_here (same q e.0) e.1 (entry_for es q) (entry_for fs q) (entry_for (es ++ fs) q) (found_append es fs q)

found_entry : (m : Coins) (q : OutPoint) → entry_for (map.entries m) q ≡ map.get m q
found_entry m q = sym (get-entries (map.entries m) q) ∙ get-from_entries total_order (map.entries m) q ∙ sym (map.get-entries m q)

pub got : (es : Entries) (m : Coins) (q : OutPoint) → map.get (few_and_many es (Some m)) q ≡ first (map.get m q) (entry_for es q)
got es m q = get-entries (map.entries m ++ es) q ∙ found_append (map.entries m) es q ∙ ap (λ o. first o (entry_for es q)) (found_entry m q)

-- many maps without a coin
pub opened : (es : Entries) (m : Coins) → m ≡ map.empty → few_and_many es (Some m) ≡ from_entries es
opened es m h = same_coins _ _ (λ q.
    got es m q
    ∙ ap (λ o. first o (entry_for es q)) (ap (λ (n : Coins). map.get n q) h ∙ get-empty outpoint_cmp q)
    ∙ sym (get-entries es q))

at_key : (es fs : Entries) (k : OutPoint) (w : Option Coin) (q : OutPoint) → Changed es fs k w → entry_for fs q ≡ cond (same q k) w (entry_for es q)
at_key es fs k w q h = h.at q ∙ ap (λ b. cond b w (entry_for es q)) (same-sym k q)

both : (es fs : Entries) (m n : Coins) (q : OutPoint) (a b : Option Coin) → map.get n q ≡ a → entry_for fs q ≡ b → map.get (few_and_many fs (Some n)) q ≡ first a b
both es fs m n q a b h k = got fs n q ∙ (λ i. first (h i) (k i))

-- a coin comes into the many, or goes from all
put_here : (b : Bool) (c : Coin) (m e : Option Coin) → first (cond b (Some c) m) (cond b None e) ≡ cond b (Some c) (first m e)
put_here true c m e = refl
put_here false c m e = refl

pub put_many : (es fs : Entries) (m n : Coins) (k : OutPoint) (c : Coin) → Changed es fs k None → n ≡ map.insert m k c → few_and_many fs (Some n) ≡ map.insert (few_and_many es (Some m)) k c
put_many es fs m n k c h is = same_coins _ _ (λ q.
    both es fs m n q _ _ (ap (λ (x : Coins). map.get x q) is ∙ get-insert total_order m k c q) (at_key es fs k None q h)
    ∙ put_here (same q k) c (map.get m q) (entry_for es q)
    ∙ ap (cond (same q k) (Some c)) (sym (got es m q))
    ∙ sym (get-insert total_order (few_and_many es (Some m)) k c q))

gone_here : (b : Bool) (m e : Option Coin) → first (cond b None m) (cond b None e) ≡ cond b None (first m e)
gone_here true m e = refl
gone_here false m e = refl

pub gone_many : (es fs : Entries) (m n : Coins) (k : OutPoint) → Changed es fs k None → n ≡ map.remove m k → few_and_many fs (Some n) ≡ map.remove (few_and_many es (Some m)) k
gone_many es fs m n k h is = same_coins _ _ (λ q.
    both es fs m n q _ _ (ap (λ (x : Coins). map.get x q) is ∙ get-remove total_order m k q) (at_key es fs k None q h)
    ∙ gone_here (same q k) (map.get m q) (entry_for es q)
    ∙ ap (cond (same q k) None) (sym (got es m q))
    ∙ sym (get-remove total_order (few_and_many es (Some m)) k q))

-- a coin comes in place of another of the many
over_here : (b : Bool) (c : Coin) (m e : Option Coin) → first (cond b (Some c) m) e ≡ cond b (Some c) (first m e)
over_here true c m e = refl
over_here false c m e = refl

pub over_many : (es : Entries) (m n : Coins) (k : OutPoint) (c : Coin) → n ≡ map.insert m k c → few_and_many es (Some n) ≡ map.insert (few_and_many es (Some m)) k c
over_many es m n k c is = same_coins _ _ (λ q.
    both es es m n q _ _ (ap (λ (x : Coins). map.get x q) is ∙ get-insert total_order m k c q) refl
    ∙ over_here (same q k) c (map.get m q) (entry_for es q)
    ∙ ap (cond (same q k) (Some c)) (sym (got es m q))
    ∙ sym (get-insert total_order (few_and_many es (Some m)) k c q))

-- what holds at an outpoint holds wherever it is the same
tied : (b : Bool) (P : OutPoint → Type 0) (k q : OutPoint) → same k q ≡ b → P k → b ≡ true → P q
tied true P k q h p t = rw (sym (same-true k q h)) p
tied false P k q h p t = cc

-- a coin comes in place of another of the one map
few_here : (b : Bool) (c : Coin) (m e : Option Coin) → (b ≡ true → m ≡ None) → first m (cond b (Some c) e) ≡ cond b (Some c) (first m e)
few_here true c m e h = ap (λ o. first o (Some c)) (h refl)
few_here false c m e h = refl

pub over_few : (es fs : Entries) (m : Coins) (k : OutPoint) (c : Coin) → Changed es fs k (Some c) → map.get m k ≡ None → few_and_many fs (Some m) ≡ map.insert (few_and_many es (Some m)) k c
over_few es fs m k c h none = same_coins _ _ (λ q.
    both es fs m m q _ _ refl (at_key es fs k (Some c) q h)
    ∙ few_here (same q k) c (map.get m q) (entry_for es q) (λ t. tied (same k q) (λ x. map.get m x ≡ None) k q refl none (same-sym k q ∙ t))
    ∙ ap (cond (same q k) (Some c)) (sym (got es m q))
    ∙ sym (get-insert total_order (few_and_many es (Some m)) k c q))

-- a coin of the one map is brought over
brought_here : (b : Bool) (c : Coin) (m e : Option Coin) → (b ≡ true → m ≡ None) → (b ≡ true → e ≡ Some c) → first (cond b (Some c) m) (cond b None e) ≡ first m e
brought_here true c m e none some = sym (some refl) ∙ ap (λ o. first o e) (sym (none refl))
brought_here false c m e none some = refl

pub brought : (es fs : Entries) (m n : Coins) (k : OutPoint) (c : Coin) → Changed es fs k None → n ≡ map.insert m k c → map.get m k ≡ None → entry_for es k ≡ Some c → few_and_many fs (Some n) ≡ few_and_many es (Some m)
brought es fs m n k c h is none some = same_coins _ _ (λ q.
    both es fs m n q _ _ (ap (λ (x : Coins). map.get x q) is ∙ get-insert total_order m k c q) (at_key es fs k None q h)
    ∙ brought_here (same q k) c (map.get m q) (entry_for es q)
    (λ t. tied (same k q) (λ x. map.get m x ≡ None) k q refl none (same-sym k q ∙ t))
    (λ t. tied (same k q) (λ x. entry_for es x ≡ Some c) k q refl some (same-sym k q ∙ t))
    ∙ sym (got es m q))

-- one that is there already is left out
there_here : (b : Bool) (m e : Option Coin) → (b ≡ true → is_some m ≡ true) → first m (cond b None e) ≡ first m e
there_here b (Some c) e h = refl
there_here true None e h = let no : false ≡ true = h refl in cc
there_here false None e h = refl

pub there : (es fs : Entries) (m : Coins) (k : OutPoint) → Changed es fs k None → is_some (map.get m k) ≡ true → few_and_many fs (Some m) ≡ few_and_many es (Some m)
there es fs m k h some = same_coins _ _ (λ q.
    both es fs m m q _ _ refl (at_key es fs k None q h)
    ∙ there_here (same q k) (map.get m q) (entry_for es q) (λ t. tied (same k q) (λ x. is_some (map.get m x) ≡ true) k q refl some (same-sym k q ∙ t))
    ∙ sym (got es m q))

-- the entry that goes from the front
pub popped : (es fs : Entries) (r : Option (OutPoint × Coin)) (k : OutPoint) (c : Coin) → (0 < length es → IsSome r) → IfSome r (λ p. es ≡ p ∷ fs)
    → IfSome r (λ p. (q : OutPoint) → entry_for fs q ≡ cond (same p.0 q) None (entry_for es q)) → slice_get es 0 ≡ Some (k, c) → Changed es fs k None
popped [] fs r k c some all write h = cc
popped (e ∷ es) fs None k c some all write h = let no = some (omega arith) in cc
popped (e ∷ es) fs (Some p) k c some all write h =
    let here : p ≡ (k, c) = cc (all, h) in
    let key : p.0 ≡ k = ap (λ (x : OutPoint × Coin). x.0) here in
    subst (λ (x : OutPoint). Changed (e ∷ es) fs x None) key (record { at = write })

pub on_some : {A : Type 0} {P Q : A → Type 0} (r : Option A) → IfSome r P → ((x : A) → P x → Q x) → IfSome r Q
on_some None h f = h
on_some (Some x) h f = f x h
