-- What is looked up in many maps.
use Rattle.std.proofs.Common.{◌≡◌, ℕ, zero, suc, ◌+◌, ◌<◌, ◌⊎◌, inl, inr, Bool, true, false, cond, List, [], ◌∷◌, ◌++◌, length, Option, Some, None, Result, Ok, Err, OnErr, refl, sym, ap, subst, ◌∙◌, arith}
use Rattle.std.specs.Prelude.{is_some, get_or, slice_set}
use Rattle.std.specs.BTreeMap.{BTreeMap}
use Rattle.std.specs.FinMap as map
use Rattle.std.proofs.lemmas.Bool.{cases_eq}
use Rattle.std.proofs.lemmas.Nat.{mod_below}
use Rattle.std.proofs.lemmas.List.{get_or-set_same, get_or-set_other, length-set}
use Rattle.txn.specs.declared.outpoint.OutPoint.{OutPoint}
use Rattle.coins.specs.Coins.{Coin, Coins, same, put}
use Rattle.coins.specs.inside.Shards.{Maps, place, gathered, together, HaveTheirOwn, AreShards, IsOfBytes, AreOfBytes}
use Rattle.coins.specs.laws.Lookups.{same_coins, same-true, same-sym, get-put, get-entries, entry_for}

abbrev Entries : Type 0
Entries = List (OutPoint × Coin)

abbrev Map : Type 0
Map = BTreeMap OutPoint Coin

-- an outpoint of another place isn't found
not_here : (o : Option Coin) (p : Type 0) → (is_some o ≡ true → p) → ¬ p → o ≡ None
not_here None p h apart = refl
not_here (Some c) p h apart = absurd (apart (h refl))

abbrev or_else : Option Coin → Option Coin → Option Coin
or_else None o = o
or_else (Some c) o = Some c

or_here : (b : Bool) (c : Coin) (o p : Option Coin) → cond b (Some c) (or_else o p) ≡ or_else (cond b (Some c) o) p
or_here true c o p = refl
or_here false c o p = refl

or_none : (o : Option Coin) → or_else o None ≡ o
or_none None = refl
or_none (Some c) = refl

found_in_two : (es fs : Entries) (q : OutPoint) → entry_for (es ++ fs) q ≡ or_else (entry_for es q) (entry_for fs q)
found_in_two [] fs q = refl
found_in_two (e ∷ es) fs q = ap (cond (same q e.0) (Some e.1)) (found_in_two es fs q) ∙ or_here (same q e.0) e.1 (entry_for es q) (entry_for fs q)

-- behind its place nothing of an outpoint is found
none_behind : (i : ℕ) (ms : Maps) (q : OutPoint) → HaveTheirOwn i ms → place q < i → entry_for (gathered ms) q ≡ None
none_behind i [] q own before = refl
none_behind i (m ∷ ms) q own before =
    found_in_two m.entries (gathered ms) q
    ∙ ap (λ o. or_else o (entry_for (gathered ms) q)) (not_here (entry_for m.entries q) (place q ≡ i) (own.0 q) (λ e. omega (arith, e, before)))
    ∙ none_behind (i + 1) ms q own.1 (omega (arith, before))

-- what is found is what the map of its place has
found_at : (i n : ℕ) (ms : Maps) (q : OutPoint) (d : Map) → HaveTheirOwn i ms → place q ≡ i + n → n < length ms → entry_for (gathered ms) q ≡ entry_for (get_or ms n d).entries q
found_at i n [] q d own e below = absurd (omega (arith, below))
found_at i zero (m ∷ ms) q d own e below =
    found_in_two m.entries (gathered ms) q
    ∙ ap (or_else (entry_for m.entries q)) (none_behind (i + 1) ms q own.1 (omega (arith, e)))
    ∙ or_none (entry_for m.entries q)
found_at i (suc n) (m ∷ ms) q d own e below =
    found_in_two m.entries (gathered ms) q
    ∙ ap (λ o. or_else o (entry_for (gathered ms) q)) (not_here (entry_for m.entries q) (place q ≡ i) (own.0 q) (λ f. omega (arith, e, f)))
    ∙ found_at (i + 1) n ms q d own.1 (omega (arith, e)) (omega (arith, below))

pub place_below : (q : OutPoint) → place q < 8192
place_below q = mod_below _ 8192 (omega arith)

pub found : (ms : Maps) (q : OutPoint) (d : Map) → AreShards ms → map.get (together ms) q ≡ entry_for (get_or ms (place q) d).entries q
found ms q d are = get-entries (gathered ms) q ∙ found_at 0 (place q) ms q d are.own (omega arith) (subst (λ n. place q < n) (sym are.count) (place_below q))

-- a map in the place of one
own_set : (i n : ℕ) (ms : Maps) (m : Map) → HaveTheirOwn i ms → ((q : OutPoint) → is_some (entry_for m.entries q) ≡ true → place q ≡ i + n) → HaveTheirOwn i (slice_set ms n m)
own_set i n [] m own here = tt
own_set i zero (x ∷ ms) m own here = ((λ q h. here q h ∙ omega arith), own.1)
own_set i (suc n) (x ∷ ms) m own here = (own.0, own_set (i + 1) n ms m own.1 (λ q h. here q h ∙ omega arith))

pub own_at : (i n : ℕ) (ms : Maps) (d : Map) → HaveTheirOwn i ms → n < length ms → (q : OutPoint) → is_some (entry_for (get_or ms n d).entries q) ≡ true → place q ≡ i + n
own_at i n [] d own below q h = absurd (omega (arith, below))
own_at i zero (m ∷ ms) d own below q h = own.0 q h ∙ omega arith
own_at i (suc n) (m ∷ ms) d own below q h = own_at (i + 1) n ms d own.1 (omega (arith, below)) q h ∙ omega arith

-- a map after a write at an outpoint
abbrev pub IsWritten : Map → Map → OutPoint → Option Coin → Type 0
IsWritten m n k w = (q : OutPoint) → entry_for n.entries q ≡ cond (same k q) w (entry_for m.entries q)

own_written : (b : Bool) (k q : OutPoint) (w o : Option Coin) (i : ℕ) → same k q ≡ b → place k ≡ i → (is_some o ≡ true → place q ≡ i) → is_some (cond b w o) ≡ true → place q ≡ i
own_written true k q w o i h here old s = ap place (sym (same-true k q h)) ∙ here
own_written false k q w o i h here old s = old s

pub shards_written : (ms : Maps) (m n : Map) (k : OutPoint) (w : Option Coin) → AreShards ms → m ≡ get_or ms (place k) m → IsWritten m n k w → AreShards (slice_set ms (place k) n)
shards_written ms m n k w are is written = record {
  count = length-set ms (place k) n ∙ are.count;
  own = own_set 0 (place k) ms n are.own (λ q s.
      own_written (same k q) k q w (entry_for m.entries q) (0 + place k) refl (omega arith)
      (λ h. own_at 0 (place k) ms m are.own (subst (λ x. place k < x) (sym are.count) (place_below k)) q (ap (λ (x : Map). is_some (entry_for x.entries q)) (sym is) ∙ h))
      (ap (λ o. is_some o) (sym (written q)) ∙ s));
}

told_apart : (b : Bool) (k q : OutPoint) (w o : Option Coin) → same k q ≡ b → ¬ (place q ≡ place k) → o ≡ cond b w o
told_apart true k q w o h apart = absurd (apart (ap place (sym (same-true k q h))))
told_apart false k q w o h apart = refl

pub together_written : (ms : Maps) (m n : Map) (k : OutPoint) (w : Option Coin) → AreShards ms → m ≡ get_or ms (place k) m → IsWritten m n k w → together (slice_set ms (place k) n) ≡ put (together ms) k w
together_written ms m n k w are is written = same_coins _ _ (λ q.
    found (slice_set ms (place k) n) q n (shards_written ms m n k w are is written)
    ∙ at q (cases_eq (place q) (place k))
    ∙ ap (λ b. cond b w (map.get (together ms) q)) (same-sym k q)
    ∙ sym (get-put (together ms) k w q))
  where
    at : (q : OutPoint) → (place q ≡ place k) ⊎ (place q ≡ place k → ⊥) → entry_for (get_or (slice_set ms (place k) n) (place q) n).entries q ≡ cond (same k q) w (map.get (together ms) q)
    at q (inl e) =
        ap (λ i. entry_for (get_or (slice_set ms (place k) n) i n).entries q) e
        ∙ ap (λ (x : Map). entry_for x.entries q) (get_or-set_same ms (place k) n n (subst (λ x. place k < x) (sym are.count) (place_below k)))
        ∙ written q
        ∙ ap (cond (same k q) w) (ap (λ (x : Map). entry_for x.entries q) is ∙ ap (λ i. entry_for (get_or ms i m).entries q) (sym e) ∙ sym (found ms q m are))
    at q (inr apart) =
        ap (λ (x : Map). entry_for x.entries q) (get_or-set_other ms (place k) (place q) n n apart)
        ∙ sym (found ms q n are)
        ∙ told_apart (same k q) k q w (map.get (together ms) q) refl apart

-- a map with the same entries
same_entry : (b : Bool) (m : Map) (k q : OutPoint) → same k q ≡ b → entry_for m.entries q ≡ cond b (entry_for m.entries k) (entry_for m.entries q)
same_entry true m k q h = ap (entry_for m.entries) (sym (same-true k q h))
same_entry false m k q h = refl

kept : (m n : Map) (k : OutPoint) → n.entries ≡ m.entries → IsWritten m n k (entry_for m.entries k)
kept m n k alike = λ q. ap (λ (es : Entries). entry_for es q) alike ∙ same_entry (same k q) m k q refl

pub shards_kept : (ms : Maps) (m n : Map) (k : OutPoint) → AreShards ms → m ≡ get_or ms (place k) m → n.entries ≡ m.entries → AreShards (slice_set ms (place k) n)
shards_kept ms m n k are is alike = shards_written ms m n k (entry_for m.entries k) are is (kept m n k alike)

same_coin : (b : Bool) (x : Coins) (k q : OutPoint) → same q k ≡ b → cond b (map.get x k) (map.get x q) ≡ map.get x q
same_coin true x k q h = ap (map.get x) (sym (same-true q k h))
same_coin false x k q h = refl

put_same : (x : Coins) (k : OutPoint) → put x k (map.get x k) ≡ x
put_same x k = same_coins _ _ (λ q. get-put x k (map.get x k) q ∙ same_coin (same q k) x k q refl)

pub together_kept : (ms : Maps) (m n : Map) (k : OutPoint) → AreShards ms → m ≡ get_or ms (place k) m → n.entries ≡ m.entries → together (slice_set ms (place k) n) ≡ together ms
together_kept ms m n k are is alike =
    together_written ms m n k (entry_for m.entries k) are is (kept m n k alike)
    ∙ ap (put (together ms) k) (ap (λ (x : Map). entry_for x.entries k) is ∙ sym (found ms k m are))
    ∙ put_same (together ms) k

pub any_err : {A E : Type 0} (r : Result A E) (P : Type 0) → P → OnErr r P
any_err (Ok x) P p = tt
any_err (Err e) P p = p

-- maps without entries
abbrev pub AreEmpty : Maps → Type 0
AreEmpty [] = Unit {0}
AreEmpty (m ∷ ms) = (m.entries ≡ []) × AreEmpty ms

pub one_more_empty : (ms : Maps) (m : Map) → AreEmpty ms → m.entries ≡ [] → AreEmpty (ms ++ m ∷ [])
one_more_empty [] m are e = (e, tt)
one_more_empty (x ∷ ms) m are e = (are.0, one_more_empty ms m are.1 e)

own_empty : (i : ℕ) (ms : Maps) → AreEmpty ms → HaveTheirOwn i ms
own_empty i [] are = tt
own_empty i (m ∷ ms) are = ((λ q h. let no = sym h ∙ ap (λ (es : Entries). is_some (entry_for es q)) are.0 in cc), own_empty (i + 1) ms are.1)

pub shards_empty : (ms : Maps) → length ms ≡ 8192 → AreEmpty ms → AreShards ms
shards_empty ms count are = record { count = count; own = own_empty 0 ms are }

gathered_empty : (ms : Maps) → AreEmpty ms → gathered ms ≡ []
gathered_empty [] are = refl
gathered_empty (m ∷ ms) are = ap (λ (es : Entries). es ++ gathered ms) are.0 ∙ gathered_empty ms are.1

pub together_empty : (ms : Maps) → AreEmpty ms → together ms ≡ map.empty
together_empty ms are = same_coins _ _ (λ q. get-entries (gathered ms) q ∙ ap (λ (es : Entries). entry_for es q) (gathered_empty ms are) ∙ sym (get-entries [] q))

-- outpoints of bytes
bytes_here : (b : Bool) (k q : OutPoint) (w o : Option Coin) → same q k ≡ b → IsOfBytes k → (is_some o ≡ true → IsOfBytes q) → is_some (cond b w o) ≡ true → IsOfBytes q
bytes_here true k q w o h here old s = subst IsOfBytes (sym (same-true q k h)) here
bytes_here false k q w o h here old s = old s

pub bytes_put : (m n : Coins) (k : OutPoint) (w : Option Coin) → n ≡ put m k w → AreOfBytes m → IsOfBytes k → AreOfBytes n
bytes_put m n k w is are here = λ q s.
    bytes_here (same q k) k q w (map.get m q) refl here (are q)
    (ap (λ o. is_some o) (sym (ap (λ (x : Coins). map.get x q) is ∙ get-put m k w q)) ∙ s)

pub bytes_empty : (m : Coins) → m ≡ map.empty → AreOfBytes m
bytes_empty m is = λ q s.
    let none : map.get m q ≡ None = ap (λ (x : Coins). map.get x q) is ∙ get-entries [] q in
    let no = sym s ∙ ap (λ o. is_some o) none in
    cc
