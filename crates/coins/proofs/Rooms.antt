-- Changes laid over coins.
use Rattle.std.proofs.Common.{◌≡◌, Bool, true, false, cond, List, [], ◌∷◌, ◌++◌, Option, Some, None, Result, Ok, Err, IsOk, OnOk, refl, sym, ap, subst, ◌∙◌}
use Rattle.std.specs.Prelude.{is_some, reverse}
use Rattle.std.specs.List.{AllByRecursion, IsDistinct}
use Rattle.std.proofs.lemmas.List.{reverse-append}
use Rattle.std.specs.Map.{keys_of}
use Rattle.std.specs.FinMap as map
use Rattle.std.specs.FinMap.{get-insert}
use Rattle.txn.specs.declared.outpoint.OutPoint.{OutPoint}
use Rattle.coins.specs.declared.coin.Coin.{Coin}
use Rattle.coins.specs.Coins.{Coins, outpoint_cmp, same, put}
use Rattle.coins.specs.laws.Lookups.{total_order, same_coins, same-true, same-self, same-sym, get-put, entry_for}
use Rattle.coins.specs.Changes.{Changes, after_changes}
use Rattle.coins.specs.inside.Changes.{Changed, comers, goers, Undoes}
use Rattle.coins.specs.laws.Changes.{get-laid, written_at}
use Rattle.coins.specs.laws.Lookups.{get-entries}
use Rattle.std.specs.FinMap.{from_entries}

-- a write at a place that none of the rest has can come first
apart : (k : OutPoint) (ws : Changes) → AllByRecursion (λ y. same k y ≡ false) (keys_of ws) → entry_for ws k ≡ None
apart k [] a = refl
apart k (e ∷ ws) a = ap (λ b. cond b (Some e.1) (entry_for ws k)) a.0 ∙ apart k ws a.1

swap_here : (b : Bool) (k q : OutPoint) (m : Coins) (w : Option Coin) (ws : Changes) → same q k ≡ b → entry_for ws k ≡ None → written_at (entry_for ws q) (cond b w (map.get m q)) ≡ cond b w (written_at (entry_for ws q) (map.get m q))
swap_here true k q m w ws h n = ap (λ o. written_at o w) (ap (entry_for ws) (same-true q k h) ∙ n)
swap_here false k q m w ws h n = refl

pub laid_first : (m : Coins) (k : OutPoint) (w : Option Coin) (ws : Changes) → IsDistinct same (keys_of ((k, w) ∷ ws)) → after_changes (put m k w) ws ≡ after_changes m ((k, w) ∷ ws)
unfolding IsDistinct after_changes
laid_first m k w ws d = same_coins _ _ (λ q.
    get-laid (put m k w) ws q
    ∙ ap (written_at (entry_for ws q)) (get-put m k w q)
    ∙ swap_here (same q k) k q m w ws refl (apart k ws d.0)
    ∙ sym (get-put (after_changes m ws) k w q ∙ ap (cond (same q k) w) (get-laid m ws q)))

pub rest_distinct : (k : OutPoint) (w : Option Coin) (ws : Changes) → IsDistinct same (keys_of ((k, w) ∷ ws)) → IsDistinct same (keys_of ws)
unfolding IsDistinct
rest_distinct k w ws d = d.1

-- the coins of entries after a write
pub changed_put : (es fs : List (OutPoint × Coin)) (k : OutPoint) (w : Option Coin) → Changed es fs k w → from_entries {R = outpoint_cmp} fs ≡ put (from_entries es) k w
changed_put es fs k w h = same_coins _ _ (λ q.
    get-entries fs q ∙ h.at q
    ∙ ap (λ b. cond b w (entry_for es q)) (same-sym k q)
    ∙ sym (get-put (from_entries es) k w q ∙ ap (cond (same q k) w) (get-entries es q)))

-- a coin that was put in is there
pub insert_there : (n : Coins) (k : OutPoint) (c : Coin) → is_some (map.get (map.insert n k c) k) ≡ true
insert_there n k c = ap (λ o. is_some o) (get-insert total_order n k c k ∙ ap (λ b. cond b (Some c) (map.get n k)) (same-self k))

pub laid_nothing : (m : Coins) → after_changes m [] ≡ m
unfolding after_changes
laid_nothing m = refl

pub none_from : {A : Type 0} (o : Option A) → is_some o ≡ false → o ≡ None
none_from None h = refl
none_from (Some x) h = cc

pub given_ok : {A E P : Type 0} (r : Result A E) → IsOk r → OnOk r P → P
given_ok (Ok x) is h = h
given_ok (Err e) is h = cc

-- the changes that bring a coin, and those that take one away, each by themselves
comers_all : (P : OutPoint → Type 0) (cs : Changes) → AllByRecursion P (keys_of cs) → AllByRecursion P (keys_of (comers cs))
comers_all P [] a = tt
comers_all P ((k, Some c) ∷ cs) a = (a.0, comers_all P cs a.1)
comers_all P ((k, None) ∷ cs) a = comers_all P cs a.1

goers_all : (P : OutPoint → Type 0) (cs : Changes) → AllByRecursion P (keys_of cs) → AllByRecursion P (keys_of (goers cs))
goers_all P [] a = tt
goers_all P ((k, Some c) ∷ cs) a = goers_all P cs a.1
goers_all P ((k, None) ∷ cs) a = (a.0, goers_all P cs a.1)

pub comers_distinct : (cs : Changes) → IsDistinct same (keys_of cs) → IsDistinct same (keys_of (comers cs))
unfolding IsDistinct
comers_distinct [] d = tt
comers_distinct ((k, Some c) ∷ cs) d = (comers_all (λ y. same k y ≡ false) cs d.0, comers_distinct cs d.1)
comers_distinct ((k, None) ∷ cs) d = comers_distinct cs d.1

pub goers_distinct : (cs : Changes) → IsDistinct same (keys_of cs) → IsDistinct same (keys_of (goers cs))
unfolding IsDistinct
goers_distinct [] d = tt
goers_distinct ((k, Some c) ∷ cs) d = goers_distinct cs d.1
goers_distinct ((k, None) ∷ cs) d = (goers_all (λ y. same k y ≡ false) cs d.0, goers_distinct cs d.1)

before_goers : (k : OutPoint) (w : Option Coin) (cs : Changes) → IsDistinct same (keys_of ((k, w) ∷ cs)) → IsDistinct same (keys_of ((k, w) ∷ goers cs))
unfolding IsDistinct
before_goers k w cs d = (goers_all (λ y. same k y ≡ false) cs d.0, goers_distinct cs d.1)

-- first what comes, and then what goes
pub laid_in_two : (m : Coins) (cs : Changes) → IsDistinct same (keys_of cs) → after_changes (after_changes m (comers cs)) (goers cs) ≡ after_changes m cs
unfolding after_changes
laid_in_two m [] d = refl
laid_in_two m ((k, Some c) ∷ cs) d =
    laid_first (after_changes m (comers cs)) k (Some c) (goers cs) (before_goers k (Some c) cs d)
    ∙ ap (λ (n : Coins). put n k (Some c)) (laid_in_two m cs (rest_distinct k (Some c) cs d))
laid_in_two m ((k, None) ∷ cs) d = ap (λ (n : Coins). put n k None) (laid_in_two m cs (rest_distinct k None cs d))

-- what was there before a write, put back
undone_here : (b : Bool) (w : Option Coin) (c : Coin) (n : Option Coin) → (b ≡ true → n ≡ w) → cond b w (cond b (Some c) n) ≡ n
undone_here true w c n h = sym (h refl)
undone_here false w c n h = refl

undone_tied : (b : Bool) (n : Coins) (k q : OutPoint) → same q k ≡ b → b ≡ true → map.get n q ≡ map.get n k
undone_tied true n k q h t = ap (map.get n) (same-true q k h)
undone_tied false n k q h t = cc

pub undone : (n : Coins) (k : OutPoint) (c : Coin) → put (map.insert n k c) k (map.get n k) ≡ n
undone n k c = same_coins _ _ (λ q.
    get-put (map.insert n k c) k (map.get n k) q
    ∙ ap (cond (same q k) (map.get n k)) (get-insert total_order n k c q)
    ∙ undone_here (same q k) (map.get n k) c (map.get n q) (undone_tied (same q k) n k q refl))

pub undoes_more : (m n : Coins) (xs : Changes) (k : OutPoint) (c : Coin) → Undoes m n (reverse xs) → Undoes m (map.insert n k c) (reverse (xs ++ (k, map.get n k) ∷ []))
undoes_more m n xs k c u =
    subst (Undoes m (map.insert n k c)) (sym (reverse-append xs ((k, map.get n k) ∷ [])))
    (insert_there n k c, subst (λ (x : Coins). Undoes m x (reverse xs)) (sym (undone n k c)) u)

-- the last one noted
pub undoes_last : (m n : Coins) (xs ys : Changes) (c : OutPoint × Option Coin) → ys ≡ xs ++ c ∷ [] → Undoes m n (reverse ys) → (is_some (map.get n c.0) ≡ true) × Undoes m (put n c.0 c.1) (reverse xs)
undoes_last m n xs ys c is u = subst (Undoes m n) (ap (λ (l : Changes). reverse l) is ∙ reverse-append xs (c ∷ [])) u
