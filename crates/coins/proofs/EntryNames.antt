-- What entries name, one part after the other.
use Rattle.std.proofs.Common.{◌≡◌, Bool, true, false, cond, List, [], ◌∷◌, ◌++◌, Option, Some, length, suc, arith, refl, sym, ap, subst, ◌∙◌}
use Rattle.std.specs.Prelude.{is_some}
use Rattle.std.specs.Map.{keys_of}
use Rattle.std.specs.List.Sorted.{IsStrictlySortedBy}
use Rattle.std.proofs.lemmas.List.{append-nil}
use Rattle.txn.specs.declared.outpoint.OutPoint.{OutPoint}
use Rattle.coins.specs.declared.entry.CacheEntry.{CacheEntry}
use Rattle.coins.specs.Coins.{Coin, outpoint_cmp, same}
use Rattle.coins.specs.Entries.{Entries, named, own_coin}
use Rattle.coins.specs.Changes.{Changes, change_at, IsInOrder}
use Rattle.coins.specs.laws.Lookups.{same-self}

pub named_length : (es : Entries) → length (named es) ≡ length es
named_length [] = refl
named_length (e ∷ es) = ap suc (named_length es)

pub named_keys : (es : Entries) → keys_of (named es) ≡ keys_of es
named_keys [] = refl
named_keys (e ∷ es) = ap (λ (ks : List OutPoint). e.0 ∷ ks) (named_keys es)

pub in_order-named : (es : Entries) → IsStrictlySortedBy outpoint_cmp (keys_of es) → IsInOrder (named es)
in_order-named es s = subst (λ (ks : List OutPoint). IsStrictlySortedBy outpoint_cmp ks) (sym (named_keys es)) s

pub named_append : (es fs : Entries) → named (es ++ fs) ≡ named es ++ named fs
named_append [] fs = refl
named_append (e ∷ es) fs = ap (λ (cs : Changes). (e.0, own_coin (Some e.1)) ∷ cs) (named_append es fs)

pub named_one : (es : Entries) (k : OutPoint) (e : CacheEntry) → named (es ++ (k, e) ∷ []) ≡ named es ++ (k, own_coin (Some e)) ∷ []
named_one es k e = named_append es ((k, e) ∷ [])

pub named_none : (es : Entries) → length es ≡ 0 → named es ≡ []
named_none [] h = refl
named_none (e ∷ es) h = absurd (omega (arith, h))

-- all of them, where none is left
pub all_of : {A : Type 0} (es fs gs : List A) → es ++ fs ≡ gs → fs ≡ [] → es ≡ gs
all_of {A} es fs gs h n = sym (append-nil es) ∙ ap (λ (x : List A). es ++ x) (sym n) ∙ h

named_on : (b : Bool) (w : Option Coin) (o : Option (Option Coin)) → is_some o ≡ true → is_some (cond b (Some w) o) ≡ true
named_on true w o h = refl
named_on false w o h = h

pub named_in : (es fs : Entries) (k : OutPoint) (e : CacheEntry) → is_some (change_at (named (es ++ (k, e) ∷ fs)) k) ≡ true
named_in [] fs k e = ap (λ b. is_some (cond b (Some (own_coin (Some e))) (change_at (named fs) k))) (same-self k)
named_in (x ∷ es) fs k e = named_on (same k x.0) (own_coin (Some x.1)) (change_at (named (es ++ (k, e) ∷ fs)) k) (named_in es fs k e)
