-- The entries of one layer laid over those of another.
use Rattle.std.proofs.Common.{◌≡◌, Bool, true, false, cond, List, [], ◌∷◌, ◌++◌, Option, Some, None, IsSome, refl, sym, ap, subst, ◌∙◌}
use Rattle.std.specs.Prelude.{is_some}
use Rattle.std.specs.Map.{keys_of}
use Rattle.std.specs.List.{AllByRecursion, IsDistinct}
use Rattle.std.specs.FinMap.{get}
use Rattle.txn.specs.declared.outpoint.OutPoint.{OutPoint}
use Rattle.coins.specs.declared.entry.CacheEntry.{CacheEntry}
use Rattle.coins.specs.declared.entry.CacheEntry.TheVariants.{Clean, Dirty, Fresh}
use Rattle.coins.specs.Coins.{Coin, Coins, same}
use Rattle.coins.specs.Entries.{Entries, stands, over, entry_at, MarkHolds, IsSound}
use Rattle.coins.specs.inside.Entries.{Written, AreReadied, Readied, HasRoom, added_entry, is_fresh, merge_entry, merge_entry_at}
use Rattle.coins.specs.laws.Lookups.{same_coins, same-true, same-sym}
use Rattle.coins.proofs.Layers.{fresh_none, get-over, stands_at}

same_here : (b : Bool) (es : Entries) (k q : OutPoint) → same k q ≡ b → entry_at es q ≡ cond b (entry_at es k) (entry_at es q)
same_here true es k q h = ap (entry_at es) (sym (same-true k q h))
same_here false es k q h = refl

pub written_same : (es : Entries) (k : OutPoint) → Written es es k (entry_at es k)
written_same es k = record { at = λ q. same_here (same k q) es k q refl }

pub none_from : {A : Type 0} (o : Option A) → is_some o ≡ false → o ≡ None
none_from None h = refl
none_from (Some x) h = cc

pub some_from : {A : Type 0} (o : Option A) → is_some o ≡ true → IsSome o
some_from None h = cc
some_from (Some x) h = refl

-- padding
pad_ok : (o : Option CacheEntry) → Readied o o
pad_ok None = tt
pad_ok (Some e) = refl

pub pad_same : (es : Entries) → AreReadied es es
pad_same es = record { at = λ q. pad_ok (entry_at es q) }

pad_clean : (o p : Option CacheEntry) → Readied o p → p ≡ None → Readied o (Some Clean)
pad_clean None p h n = tt
pad_clean (Some e) p h n = cc

pad_here : (b : Bool) (es0 es : Entries) (k q : OutPoint) → same k q ≡ b → entry_at es k ≡ None → Readied (entry_at es0 q) (entry_at es q) → Readied (entry_at es0 q) (cond b (Some Clean) (entry_at es q))
pad_here true es0 es k q h n old = pad_clean (entry_at es0 q) (entry_at es q) old (ap (entry_at es) (sym (same-true k q h)) ∙ n)
pad_here false es0 es k q h n old = old

pub pad_write : (es0 es fs : Entries) (k : OutPoint) → AreReadied es0 es → entry_at es k ≡ None → Written es fs k (Some Clean) → AreReadied es0 fs
pad_write es0 es fs k old n h = record { at = λ q. subst (Readied (entry_at es0 q)) (sym (h.at q)) (pad_here (same k q) es0 es k q refl n (old.at q)) }

room_here : (b : Bool) (x : CacheEntry) (o : Option CacheEntry) → IsSome o → IsSome (cond b (Some x) o)
room_here true x o h = refl
room_here false x o h = h

room_all : (es fs xs : Entries) (k : OutPoint) (x : CacheEntry) → Written es fs k (Some x) → AllByRecursion (λ e. IsSome (entry_at es e.0)) xs → AllByRecursion (λ e. IsSome (entry_at fs e.0)) xs
room_all es fs [] k x h a = tt
room_all es fs (e ∷ xs) k x h a = (subst IsSome (sym (h.at e.0)) (room_here (same k e.0) x (entry_at es e.0) a.0), room_all es fs xs k x h a.1)

all_push : {A : Type 0} (P : A → Type 0) (xs : List A) (x : A) → AllByRecursion P xs → P x → AllByRecursion P (xs ++ x ∷ [])
all_push P [] x a p = (p, tt)
all_push P (y ∷ xs) x a p = (a.0, all_push P xs x a.1 p)

self_here : (b : Bool) (x : CacheEntry) (o : Option CacheEntry) → b ≡ true → IsSome (cond b (Some x) o)
self_here true x o h = refl
self_here false x o h = cc

pub room_write : (es fs xs : Entries) (k : OutPoint) (x v : CacheEntry) → Written es fs k (Some x) → same k k ≡ true → HasRoom es xs → HasRoom fs (xs ++ (k, v) ∷ [])
room_write es fs xs k x v h self r = record { all = all_push (λ e. IsSome (entry_at fs e.0)) xs (k, v) (room_all es fs xs k x h r.all) (subst IsSome (sym (h.at k)) (self_here (same k k) x (entry_at es k) self)) }

pub room_push : (es xs : Entries) (k : OutPoint) (v : CacheEntry) → IsSome (entry_at es k) → HasRoom es xs → HasRoom es (xs ++ (k, v) ∷ [])
room_push es xs k v h r = record { all = all_push (λ e. IsSome (entry_at es e.0)) xs (k, v) r.all h }

-- one step of laying
apart : (k : OutPoint) (ws : Entries) → AllByRecursion (λ y. same k y ≡ false) (keys_of ws) → entry_at ws k ≡ None
apart k [] a = refl
apart k (e ∷ ws) a = ap (λ b. cond b (Some e.1) (entry_at ws k)) a.0 ∙ apart k ws a.1

room_rest : (es fs ws : Entries) (k : OutPoint) (o : Option CacheEntry) → Written es fs k o → AllByRecursion (λ y. same k y ≡ false) (keys_of ws) → AllByRecursion (λ e. IsSome (entry_at es e.0)) ws → AllByRecursion (λ e. IsSome (entry_at fs e.0)) ws
room_rest es fs [] k o h d a = tt
room_rest es fs (e ∷ ws) k o h d a = (subst IsSome (sym (h.at e.0 ∙ ap (λ b. cond b o (entry_at es e.0)) d.0)) a.0, room_rest es fs ws k o h d.1 a.1)

pub lay_room : (es fs ws : Entries) (k : OutPoint) (e : CacheEntry) (o : Option CacheEntry) → Written es fs k o → IsDistinct same (keys_of ((k, e) ∷ ws)) → HasRoom es ((k, e) ∷ ws) → HasRoom fs ws
unfolding IsDistinct
lay_room es fs ws k e o h d r = record { all = room_rest es fs ws k o h d.0 r.all.1 }

pub lay_rest : (ws : Entries) (k : OutPoint) (e : CacheEntry) → IsDistinct same (keys_of ((k, e) ∷ ws)) → IsDistinct same (keys_of ws)
unfolding IsDistinct
lay_rest ws k e d = d.1

lay_here : (b : Bool) (es ws : Entries) (k q : OutPoint) (e : CacheEntry) → same k q ≡ b → entry_at ws k ≡ None → merge_entry_at (cond b (merge_entry (entry_at es k) e) (entry_at es q)) (entry_at ws q) ≡ merge_entry_at (entry_at es q) (cond b (Some e) (entry_at ws q))
lay_here true es ws k q e h n =
    ap (merge_entry_at (merge_entry (entry_at es k) e)) (ap (entry_at ws) (sym (same-true k q h)) ∙ n)
    ∙ ap (λ x. merge_entry (entry_at es x) e) (same-true k q h)
lay_here false es ws k q e h n = refl

pub lay_step : (es fs ws : Entries) (k : OutPoint) (e : CacheEntry) (q : OutPoint) → Written es fs k (merge_entry (entry_at es k) e) → IsDistinct same (keys_of ((k, e) ∷ ws)) → merge_entry_at (entry_at fs q) (entry_at ws q) ≡ merge_entry_at (entry_at es q) (entry_at ((k, e) ∷ ws) q)
unfolding IsDistinct
lay_step es fs ws k e q h d =
    ap (λ o. merge_entry_at o (entry_at ws q)) (h.at q)
    ∙ lay_here (same k q) es ws k q e refl (apart k ws d.0)
    ∙ ap (λ b. merge_entry_at (entry_at es q) (cond b (Some e) (entry_at ws q))) (same-sym k q)

-- what all means over the coins
pad_mark : (o p : Option CacheEntry) (b : Option Coin) → Readied o p → MarkHolds o b → MarkHolds p b
pad_mark None None b h m = tt
pad_mark None (Some Clean) b h m = tt
pad_mark None (Some (Dirty w)) b h m = tt
pad_mark None (Some (Fresh c)) b h m = absurd h
pad_mark (Some e) p b h m = subst (λ x. MarkHolds x b) (sym h) m

pub padded_sound : (m : Coins) (es fs : Entries) → AreReadied es fs → IsSound m es → IsSound m fs
padded_sound m es fs h old = record { marks = λ q. pad_mark (entry_at es q) (entry_at fs q) (get m q) (h.at q) (old.marks q) }

pad_stands : (o p : Option CacheEntry) (b : Option Coin) → Readied o p → stands_at p b ≡ stands_at o b
pad_stands None None b h = refl
pad_stands None (Some Clean) b h = refl
pad_stands None (Some (Dirty w)) b h = absurd h
pad_stands None (Some (Fresh c)) b h = absurd h
pad_stands (Some e) p b h = ap (λ x. stands_at x b) h

pub padded_over : (m : Coins) (es fs : Entries) → AreReadied es fs → over m fs ≡ over m es
padded_over m es fs h = same_coins _ _ (λ q. get-over m fs q ∙ pad_stands (entry_at es q) (entry_at fs q) (get m q) (h.at q) ∙ sym (get-over m es q))

drop_stands : (f : Bool) (o : Option CacheEntry) (b : Option Coin) → is_fresh o ≡ f → MarkHolds o b → stands_at (cond f None (Some (Dirty None))) b ≡ None
drop_stands true o b h m = fresh_none o b h m
drop_stands false o b h m = refl

keep_stands : (f : Bool) (d : Coin) (b : Option Coin) → stands_at (Some (cond f (Fresh d) (Dirty (Some d)))) b ≡ Some d
keep_stands true d b = refl
keep_stands false d b = refl

add_stands : (o : Option CacheEntry) (c : Coin) (b : Option Coin) → stands (added_entry o c) b ≡ Some c
add_stands None c b = refl
add_stands (Some Clean) c b = refl
add_stands (Some (Dirty w)) c b = refl
add_stands (Some (Fresh d)) c b = refl

merged_stands : (o p : Option CacheEntry) (b : Option Coin) → MarkHolds o b → stands_at (merge_entry_at o p) b ≡ stands_at p (stands_at o b)
merged_stands o None b m = refl
merged_stands o (Some Clean) b m = refl
merged_stands o (Some (Dirty None)) b m = drop_stands (is_fresh o) o b refl m
merged_stands o (Some (Dirty (Some d))) b m = keep_stands (is_fresh o) d b
merged_stands o (Some (Fresh d)) b m = add_stands o d b

drop_mark : (f : Bool) (b : Option Coin) → MarkHolds (cond f None (Some (Dirty None))) b
drop_mark true b = tt
drop_mark false b = tt

keep_mark : (f : Bool) (o : Option CacheEntry) (d : Coin) (b : Option Coin) → is_fresh o ≡ f → MarkHolds o b → MarkHolds (Some (cond f (Fresh d) (Dirty (Some d)))) b
keep_mark true o d b h m = fresh_none o b h m
keep_mark false o d b h m = tt

add_mark : (o : Option CacheEntry) (d : Coin) (b : Option Coin) → MarkHolds o b → stands_at o b ≡ None → MarkHolds (Some (added_entry o d)) b
add_mark None d b m n = n
add_mark (Some Clean) d b m n = n
add_mark (Some (Dirty w)) d b m n = tt
add_mark (Some (Fresh c)) d b m n = m

merged_mark : (o p : Option CacheEntry) (b : Option Coin) → MarkHolds o b → MarkHolds p (stands_at o b) → MarkHolds (merge_entry_at o p) b
merged_mark o None b m n = m
merged_mark o (Some Clean) b m n = m
merged_mark o (Some (Dirty None)) b m n = drop_mark (is_fresh o) b
merged_mark o (Some (Dirty (Some d))) b m n = keep_mark (is_fresh o) o d b refl m
merged_mark o (Some (Fresh d)) b m n = add_mark o d b m n

-- the entries fs are those of es with ws laid over them
pub record Merged (es ws fs : Entries) : Type 0 where
  pub at : (q : OutPoint) → entry_at fs q ≡ merge_entry_at (entry_at es q) (entry_at ws q)

pub merged_over : (m : Coins) (es ws fs : Entries) → Merged es ws fs → IsSound m es → over m fs ≡ over (over m es) ws
merged_over m es ws fs h s = same_coins _ _ (λ q.
    get-over m fs q
    ∙ ap (λ o. stands_at o (get m q)) (h.at q)
    ∙ merged_stands (entry_at es q) (entry_at ws q) (get m q) (s.marks q)
    ∙ ap (stands_at (entry_at ws q)) (sym (get-over m es q))
    ∙ sym (get-over (over m es) ws q))

pub merged_sound : (m : Coins) (es ws fs : Entries) → Merged es ws fs → IsSound m es → IsSound (over m es) ws → IsSound m fs
merged_sound m es ws fs h s t = record {
  marks = λ q. subst (λ o. MarkHolds o (get m q)) (sym (h.at q))
      (merged_mark (entry_at es q) (entry_at ws q) (get m q) (s.marks q) (subst (MarkHolds (entry_at ws q)) (get-over m es q) (t.marks q)));
}
