-- Entries over coins, changed at one outpoint.
use Rattle.std.proofs.Common.{◌≡◌, Bool, true, false, cond, [], ◌∷◌, length, Option, Some, None, Result, Ok, Err, OnOk, OnErr, IfOk, refl, sym, ap, subst, ◌∙◌, arith}
use Rattle.std.specs.FinMap as map
use Rattle.std.specs.Result.{is_err}
use Rattle.std.specs.FinMap.{get}
use Rattle.txn.specs.declared.outpoint.OutPoint.{OutPoint}
use Rattle.coins.specs.declared.entry.CacheEntry.{CacheEntry}
use Rattle.coins.specs.declared.entry.CacheEntry.TheVariants.{Clean, Dirty, Fresh}
use Rattle.coins.specs.Coins.{Coin, Coins, Layer, same, put}
use Rattle.coins.specs.Entries.{Entries, stands, over, entry_at, MarkHolds, IsSound, own_coin}
pub use Rattle.coins.specs.inside.Entries.{stands_at}
use Rattle.coins.specs.inside.Entries.{Written, added_entry, is_fresh, entry_without_coin}
use Rattle.coins.specs.laws.Lookups.{same_coins, same-true, same-sym, get-put}

over_here : (b : Bool) (k q : OutPoint) (m : Coins) (e : CacheEntry) (o : Option CacheEntry) → same q k ≡ b → cond b (stands e (map.get m k)) (stands_at o (map.get m q)) ≡ stands_at (cond b (Some e) o) (map.get m q)
over_here true k q m e o h = ap (λ x. stands e (map.get m x)) (sym (same-true q k h))
over_here false k q m e o h = refl

pub get-over : (m : Coins) (es : Entries) (q : OutPoint) → map.get (over m es) q ≡ stands_at (entry_at es q) (map.get m q)
unfolding over
get-over m [] q = refl
get-over m (e ∷ es) q =
    get-put (over m es) e.0 (stands e.1 (map.get m e.0)) q
    ∙ ap (cond (same q e.0) (stands e.1 (map.get m e.0))) (get-over m es q)
    ∙ over_here (same q e.0) e.0 q m e.1 (entry_at es q) refl

-- no entries change nothing
pub over_none : (m : Coins) (es : Entries) → length es ≡ 0 → over m es ≡ m
unfolding over
over_none m [] h = refl
over_none m (e ∷ es) h = absurd (omega arith)

write_here : (b : Bool) (k q : OutPoint) (m : Coins) (e o : Option CacheEntry) → same k q ≡ b → stands_at (cond b e o) (get m q) ≡ cond b (stands_at e (get m k)) (stands_at o (get m q))
write_here true k q m e o h = ap (λ x. stands_at e (get m x)) (sym (same-true k q h))
write_here false k q m e o h = refl

pub over-write : (m : Coins) (es fs : Entries) (k : OutPoint) (e : Option CacheEntry) → Written es fs k e → over m fs ≡ put (over m es) k (stands_at e (get m k))
over-write m es fs k e h = same_coins _ _ (λ q.
    get-over m fs q
    ∙ ap (λ o. stands_at o (get m q)) (h.at q)
    ∙ write_here (same k q) k q m e (entry_at es q) refl
    ∙ ap (λ b. cond b (stands_at e (get m k)) (stands_at (entry_at es q) (get m q))) (same-sym k q)
    ∙ sym (get-put (over m es) k (stands_at e (get m k)) q ∙ ap (cond (same q k) (stands_at e (get m k))) (get-over m es q)))

mark_here : (b : Bool) (k q : OutPoint) (m : Coins) (e o : Option CacheEntry) → same k q ≡ b → MarkHolds e (get m k) → MarkHolds o (get m q) → MarkHolds (cond b e o) (get m q)
mark_here true k q m e o h new old = subst (λ x. MarkHolds e (get m x)) (same-true k q h) new
mark_here false k q m e o h new old = old

pub sound-write : (m : Coins) (es fs : Entries) (k : OutPoint) (e : Option CacheEntry) → Written es fs k e → MarkHolds e (get m k) → IsSound m es → IsSound m fs
sound-write m es fs k e h new old = record { marks = λ q. subst (λ o. MarkHolds o (get m q)) (sym (h.at q)) (mark_here (same k q) k q m e (entry_at es q) refl new (old.marks q)) }

-- the same entries
pub sound-same : (m : Coins) (es fs : Entries) → fs ≡ es → IsSound m es → IsSound m fs
sound-same m es fs h old = subst (λ x. IsSound m x) (sym h) old

-- a coin that is added where none stands
pub added_mark : (o : Option CacheEntry) (c : Coin) (below : Option Coin) → MarkHolds o below → stands_at o below ≡ None → MarkHolds (Some (added_entry o c)) below
added_mark None c below h none = none
added_mark (Some Clean) c below h none = none
added_mark (Some (Dirty w)) c below h none = tt
added_mark (Some (Fresh d)) c below h none = h

pub added_stands : (o : Option CacheEntry) (c : Coin) (below : Option Coin) → stands (added_entry o c) below ≡ Some c
added_stands None c below = refl
added_stands (Some Clean) c below = refl
added_stands (Some (Dirty w)) c below = refl
added_stands (Some (Fresh d)) c below = refl

-- where a fresh entry goes, nothing is left
pub fresh_none : (o : Option CacheEntry) (below : Option Coin) → is_fresh o ≡ true → MarkHolds o below → below ≡ None
fresh_none None below f h = cc
fresh_none (Some Clean) below f h = cc
fresh_none (Some (Dirty w)) below f h = cc
fresh_none (Some (Fresh d)) below f h = h

-- over nothing, what stands is the coin that an entry holds
pub own_stands : (o : Option CacheEntry) → stands_at o None ≡ own_coin o
own_stands None = refl
own_stands (Some Clean) = refl
own_stands (Some (Dirty w)) = refl
own_stands (Some (Fresh d)) = refl

-- once it is taken, nothing stands there
pub emptied_stands : (o : Option CacheEntry) (below : Option Coin) → MarkHolds o below → stands_at (entry_without_coin o below) below ≡ None
emptied_stands None None mark = refl
emptied_stands None (Some c) mark = refl
emptied_stands (Some Clean) None mark = refl
emptied_stands (Some Clean) (Some c) mark = refl
emptied_stands (Some (Dirty w)) below mark = refl
emptied_stands (Some (Fresh d)) below mark = mark

pub emptied_mark : (o : Option CacheEntry) (below : Option Coin) → MarkHolds o below → MarkHolds (entry_without_coin o below) below
emptied_mark None None mark = tt
emptied_mark None (Some c) mark = tt
emptied_mark (Some Clean) None mark = tt
emptied_mark (Some Clean) (Some c) mark = tt
emptied_mark (Some (Dirty w)) below mark = tt
emptied_mark (Some (Fresh d)) below mark = tt

abbrev layer : Coins → Entries → Layer
layer m es = record { base = m; coins = over m es }

-- what a cache's value has at an outpoint
pub layer_get : (l : Layer) (m : Coins) (es : Entries) (q : OutPoint) → layer m es ≡ l → get l.coins q ≡ stands_at (entry_at es q) (get m q)
layer_get l m es q v = sym (ap (λ (x : Layer). get x.coins q) v) ∙ get-over m es q

-- a cache's value after a write
pub layer_write : (l : Layer) (m : Coins) (es fs : Entries) (k : OutPoint) (e : Option CacheEntry) (w : Option Coin) → layer m es ≡ l → Written es fs k e → stands_at e (get m k) ≡ w → ◌≡◌ {A = Layer} (layer m fs) (record { base = l.base; coins = put l.coins k w })
layer_write l m es fs k e w v h s =
    ap (λ (x : Coins). let y : Layer = record { base = m; coins = x } in y) (over-write m es fs k e h ∙ ap (put (over m es) k) s)
    ∙ ap (λ (x : Layer). let y : Layer = record { base = x.base; coins = put x.coins k w } in y) v

pub layer_same : (l : Layer) (m : Coins) (es fs : Entries) → layer m es ≡ l → fs ≡ es → layer m fs ≡ l
layer_same l m es fs v h = ap (layer m) h ∙ v

pub on_ok : {T E : Type 0} {P Q : Type 0} (r : Result T E) → OnOk r P → (P → Q) → OnOk r Q
on_ok (Ok x) h f = f h
on_ok (Err x) h f = tt

pub on_err : {T E : Type 0} {P Q : Type 0} (r : Result T E) → OnErr r P → (P → Q) → OnErr r Q
on_err (Ok x) h f = tt
on_err (Err x) h f = f h

-- after a write that may be refused
pub sound_after : {T E : Type 0} (r : Result T E) (m : Coins) (es fs : Entries) (k : OutPoint) (e : Option CacheEntry) → OnOk r (Written es fs k e) → OnErr r (fs ≡ es) → MarkHolds e (get m k) → IsSound m es → IsSound m fs
sound_after (Ok x) m es fs k e ok err new old = sound-write m es fs k e ok new old
sound_after (Err x) m es fs k e ok err new old = sound-same m es fs err old

pub always_err : {T E : Type 0} {P : Type 0} (r : Result T E) → P → OnErr r P
always_err (Ok x) p = tt
always_err (Err x) p = p

pub if_ok : {T E : Type 0} {P Q : T → Type 0} (r : Result T E) → IfOk r P → ((x : T) → P x → Q x) → IfOk r Q
if_ok (Ok x) h f = f x h
if_ok (Err x) h f = tt

pub on_not_err : {T E : Type 0} {P : Type 0} (r : Result T E) → is_err r ≡ false → OnOk r P → P
on_not_err (Ok x) h p = p
on_not_err (Err x) h p = cc

-- a write through a place in the map
pub placed : (es fs gs : Entries) (k : OutPoint) (e f : Option CacheEntry) → fs ≡ gs → ((q : OutPoint) → entry_at gs q ≡ cond (same k q) e (entry_at es q)) → e ≡ f → Written es fs k f
placed es fs gs k e f is at same_entry = record { at = λ q. ap (λ xs. entry_at xs q) is ∙ at q ∙ ap (λ x. cond (same k q) x (entry_at es q)) same_entry }

kept_here : (b : Bool) (es : Entries) (k q : OutPoint) → same k q ≡ b → entry_at es q ≡ cond b (entry_at es k) (entry_at es q)
kept_here true es k q h = ap (entry_at es) (sym (same-true k q h))
kept_here false es k q h = refl

-- no write
pub kept : (es fs : Entries) (k : OutPoint) (o : Option CacheEntry) → fs ≡ es → entry_at es k ≡ o → Written es fs k o
kept es fs k o is there = placed es fs es k (entry_at es k) o is (λ q. kept_here (same k q) es k q refl) there

pub fresh_emptied : (o : Option CacheEntry) (below : Option Coin) → is_fresh o ≡ true → entry_without_coin o below ≡ None
fresh_emptied None below h = cc
fresh_emptied (Some Clean) below h = cc
fresh_emptied (Some (Dirty w)) below h = cc
fresh_emptied (Some (Fresh c)) below h = refl

pub other_emptied : (e : CacheEntry) (below : Option Coin) → is_fresh (Some e) ≡ false → ¬ (e ≡ Clean) → entry_without_coin (Some e) below ≡ Some (Dirty None)
other_emptied Clean below h n = absurd (n refl)
other_emptied (Dirty w) below h n = refl
other_emptied (Fresh c) below h n = cc
