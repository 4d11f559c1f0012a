-- What stands at an outpoint after some were taken away or added.
use Rattle.std.proofs.Common.{◌≡◌, Bool, true, false, cond, List, [], ◌∷◌, Option, Some, None, IsSome, refl, sym, ap, subst, ◌∙◌}
use Rattle.std.specs.Prelude.{is_some, ◌||◌}
use Rattle.std.specs.Option.{option_or}
use Rattle.std.specs.List.{list_any, AllByRecursion, IsDistinct}
use Rattle.std.specs.Map.{keys_of}
use Rattle.std.specs.FinMap as coin_map
use Rattle.std.specs.FinMap.{get-insert, get-remove}
use Rattle.txn.specs.declared.outpoint.OutPoint.{OutPoint}
use Rattle.coins.specs.declared.coin.Coin.{Coin}
use Rattle.coins.specs.Coins.{Coins, same}
use Rattle.coins.specs.laws.Lookups.{total_order, same-true, same-self, same-sym, entry_for}
use Rattle.undo.specs.Effect.{without, with_coins}
use Rattle.undo.specs.laws.Reversal.{AreCoins, AreNew}

gone : (a b : Bool) (o : Option Coin) → cond b None (cond a None o) ≡ cond (a || b) None o
gone true true o = refl
gone true false o = refl
gone false true o = refl
gone false false o = refl

pub get-without : (m : Coins) (ps : List OutPoint) (q : OutPoint) → coin_map.get (without m ps) q ≡ cond (list_any (same q) ps) None (coin_map.get m q)
get-without m [] q = refl
get-without m (p ∷ ps) q =
    get-without (coin_map.remove m p) ps q
    ∙ ap (cond (list_any (same q) ps) None) (get-remove total_order m p q)
    ∙ gone (same q p) (list_any (same q) ps) (coin_map.get m q)

apart : {V : Type 0} (k : OutPoint) (es : List (OutPoint × V)) → AllByRecursion (λ y. same k y ≡ false) (keys_of es) → entry_for es k ≡ None
apart k [] a = refl
apart k (e ∷ es) a = ap (λ b. cond b (Some e.1) (entry_for es k)) a.0 ∙ apart k es a.1

put_here : (b : Bool) (k q : OutPoint) (c : Coin) (es : List (OutPoint × Coin)) (o : Option Coin) → same q k ≡ b → entry_for es k ≡ None
    → option_or (entry_for es q) (cond b (Some c) o) ≡ option_or (cond b (Some c) (entry_for es q)) o
put_here true k q c es o h none = ap (λ x. option_or x (Some c)) (ap (entry_for es) (same-true q k h) ∙ none)
put_here false k q c es o h none = refl

pub get-with_coins : (m : Coins) (es : List (OutPoint × Coin)) (q : OutPoint) → IsDistinct same (keys_of es) → coin_map.get (with_coins m es) q ≡ option_or (entry_for es q) (coin_map.get m q)
unfolding IsDistinct
get-with_coins m [] q d = refl
get-with_coins m (e ∷ es) q d =
    get-with_coins (coin_map.insert m e.0 e.1) es q d.1
    ∙ ap (option_or (entry_for es q)) (get-insert total_order m e.0 e.1 q)
    ∙ put_here (same q e.0) e.0 q e.1 es (coin_map.get m q) refl (apart e.0 es d.0)

-- ---- one after the other

other : (b : Bool) (m : Coins) (p q : OutPoint) → same p q ≡ b → b ≡ false → coin_map.get (coin_map.remove m p) q ≡ coin_map.get m q
other b m p q h f = get-remove total_order m p q ∙ ap (λ x. cond x None (coin_map.get m q)) (same-sym q p ∙ h ∙ f)

pub other_kept : (m : Coins) (p q : OutPoint) → same p q ≡ false → coin_map.get (coin_map.remove m p) q ≡ coin_map.get m q
other_kept m p q h = other false m p q h refl

pub other_stays : (m : Coins) (p : OutPoint) (c : Coin) (q : OutPoint) → same p q ≡ false → coin_map.get (coin_map.insert m p c) q ≡ coin_map.get m q
other_stays m p c q h = get-insert total_order m p c q ∙ ap (λ x. cond x (Some c) (coin_map.get m q)) (same-sym q p ∙ h)

still_coins : (m : Coins) (p : OutPoint) (ps : List OutPoint) → AllByRecursion (λ y. same p y ≡ false) ps → AllByRecursion (λ q. IsSome (coin_map.get m q)) ps → AllByRecursion (λ q. IsSome (coin_map.get (coin_map.remove m p) q)) ps
still_coins m p [] d a = tt
still_coins m p (q ∷ ps) d a = (subst IsSome (sym (other_kept m p q d.0)) a.0, still_coins m p ps d.1 a.1)

pub coins_next : (m : Coins) (p : OutPoint) (ps : List OutPoint) → AreCoins m (p ∷ ps) → AreCoins (coin_map.remove m p) ps
unfolding IsDistinct
coins_next m p ps h = record { coins = still_coins m p ps h.once.0 h.coins.1; once = h.once.1 }

still_new : (m : Coins) (p : OutPoint) (c : Coin) (es : List (OutPoint × Coin)) → AllByRecursion (λ y. same p y ≡ false) (keys_of es) → AllByRecursion (λ e. coin_map.get m e.0 ≡ None) es → AllByRecursion (λ e. coin_map.get (coin_map.insert m p c) e.0 ≡ None) es
still_new m p c [] d a = tt
still_new m p c (e ∷ es) d a = (other_stays m p c e.0 d.0 ∙ a.0, still_new m p c es d.1 a.1)

pub new_next : (m : Coins) (p : OutPoint) (c : Coin) (es : List (OutPoint × Coin)) → AreNew m ((p, c) ∷ es) → AreNew (coin_map.insert m p c) es
unfolding IsDistinct
new_next m p c es h = record { new = still_new m p c es h.once.0 h.new.1; once = h.once.1 }

-- ---- of each by itself

pub all_from : (P : OutPoint → Type 0) (ps : List OutPoint) → ((q : OutPoint) → list_any (same q) ps ≡ true → P q) → AllByRecursion P ps
all_from P [] h = tt
all_from P (p ∷ ps) h = (h p (or_left (same p p) (list_any (same p) ps) (same-self p)), all_from P ps (λ q t. h q (or_right (same q p) (list_any (same q) ps) t)))
  where
    or_left : (a b : Bool) → a ≡ true → a || b ≡ true
    or_left true b h = refl
    or_left false b h = cc

    or_right : (a b : Bool) → b ≡ true → a || b ≡ true
    or_right true b h = refl
    or_right false b h = h

one_of : (a b : Bool) (P : Type 0) → (a ≡ true → P) → (b ≡ true → P) → a || b ≡ true → P
one_of true b P f g h = f refl
one_of false b P f g h = g h

pub all_at : (P : OutPoint → Type 0) (ps : List OutPoint) → AllByRecursion P ps → (q : OutPoint) → list_any (same q) ps ≡ true → P q
all_at P [] a q h = cc
all_at P (p ∷ ps) a q h = one_of (same q p) (list_any (same q) ps) (P q) (λ t. subst P (sym (same-true q p t)) a.0) (all_at P ps a.1 q) h

pub found_key : {V : Type 0} (es : List (OutPoint × V)) (q : OutPoint) → list_any (same q) (keys_of es) ≡ is_some (entry_for es q)
found_key [] q = refl
found_key (e ∷ es) q = at (same q e.0) (found_key es q)
  where
    at : (b : Bool) → list_any (same q) (keys_of es) ≡ is_some (entry_for es q) → (b || list_any (same q) (keys_of es)) ≡ is_some (cond b (Some e.1) (entry_for es q))
    at true h = refl
    at false h = h
