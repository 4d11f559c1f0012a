-- What adding and spending do to the total.
use Rattle.std.specs.Prelude.{◌≡◌, ℤ, pos, ◌+ℤ◌, ◌-ℤ◌, List, [], ◌∷◌, length, map, None, Some, cond, Bool, true, false, refl}
use Rattle.std.proofs.Common.{sym, ap, ◌∙◌, arith}
use Rattle.std.specs.declared.cmp.Ordering.{Ordering}
use Rattle.std.specs.declared.cmp.Ordering.TheVariants.{Less, Equal, Greater}
use Rattle.std.specs.Ordering.{is_eq}
use Rattle.std.specs.FinMap as coins
use Rattle.std.specs.FinMap.{entries-insert, get-entries, get-remove, get-insert, len-empty, len-entries}
use Rattle.std.specs.FinMap.Entries.{find, put, by_order}
use Rattle.std.proofs.lemmas.Int.{ints}
use Rattle.txn.specs.declared.outpoint.OutPoint.{OutPoint}
use Rattle.coins.specs.declared.coin.Coin.{Coin}
use Rattle.coins.specs.Coins.{Coins, outpoint_cmp, same, sum_of_values, total}
use Rattle.coins.specs.laws.Lookups.{total_order, same_coins, same-true, same-self}

abbrev values : List (OutPoint × Coin) → ℤ
values es = sum_of_values (map (λ e. e.1) es)

swap : (a b c : ℤ) → a +ℤ (b +ℤ c) ≡ b +ℤ (a +ℤ c)
swap a b c = omega (arith, ints)

flip : (a b : ℤ) → a +ℤ b ≡ b +ℤ a
flip a b = omega (arith, ints)

less : (a b c : ℤ) → a ≡ b +ℤ c → c ≡ a -ℤ b
less a b c h = omega (arith, ints)

values-put : (k : OutPoint) (c : Coin) (es : List (OutPoint × Coin)) → find outpoint_cmp k es ≡ None → values (put outpoint_cmp k c es) ≡ c.value +ℤ values es
values-put k c [] none = refl
values-put k c (e ∷ es) none = at (outpoint_cmp k e.0) none (values-put k c es)
  where
    at : (o : Ordering) → cond (is_eq o) (Some e.1) (find outpoint_cmp k es) ≡ None
        → (find outpoint_cmp k es ≡ None → values (put outpoint_cmp k c es) ≡ c.value +ℤ values es)
        → values (by_order o ((k, c) ∷ e ∷ es) ((e.0, c) ∷ es) (e ∷ put outpoint_cmp k c es)) ≡ c.value +ℤ (e.1.value +ℤ values es)
    at Less n rest = refl
    at Equal n rest = absurd cc
    at Greater n rest = ap (λ z. e.1.value +ℤ z) (rest n) ∙ swap e.1.value c.value (values es)

total_after : (m : Coins) (k : OutPoint) (c : Coin) → coins.get m k ≡ None → total (coins.insert m k c) ≡ c.value +ℤ total m
unfolding total
total_after m k c none = ap (λ (es : List (OutPoint × Coin)). values es) (entries-insert total_order m k c) ∙ values-put k c (coins.entries m) (sym (get-entries m k) ∙ none)

pub total-insert : (m : Coins) (k : OutPoint) (c : Coin) → coins.get m k ≡ None → total (coins.insert m k c) ≡ total m +ℤ c.value
total-insert m k c none = total_after m k c none ∙ flip c.value (total m)

-- a coin that is taken and put back
back_here : (b : Bool) (m : Coins) (k q : OutPoint) (c : Coin) → same q k ≡ b → coins.get m k ≡ Some c → cond b (Some c) (cond b None (coins.get m q)) ≡ coins.get m q
back_here true m k q c h there = sym (ap (coins.get m) (same-true q k h) ∙ there)
back_here false m k q c h there = refl

put_back : (m : Coins) (k : OutPoint) (c : Coin) → coins.get m k ≡ Some c → coins.insert (coins.remove m k) k c ≡ m
put_back m k c there = same_coins _ _ (λ q.
    get-insert total_order (coins.remove m k) k c q ∙ ap (cond (same q k) (Some c)) (get-remove total_order m k q) ∙ back_here (same q k) m k q c refl there)

gone : (m : Coins) (k : OutPoint) → coins.get (coins.remove m k) k ≡ None
gone m k = get-remove total_order m k k ∙ ap (λ b. cond b None (coins.get m k)) (same-self k)

pub total-remove : (m : Coins) (k : OutPoint) (c : Coin) → coins.get m k ≡ Some c → total (coins.remove m k) ≡ total m -ℤ c.value
total-remove m k c there = less (total m) c.value (total (coins.remove m k)) (ap (λ (x : Coins). total x) (sym (put_back m k c there)) ∙ total_after (coins.remove m k) k c (gone m k))

no_length : {A : Type 0} (xs : List A) → length xs ≡ 0 → xs ≡ []
no_length [] h = refl
no_length (x ∷ xs) h = absurd (omega arith)

pub total-empty : total coins.empty ≡ pos 0
unfolding total
total-empty =
    let none : Coins = coins.empty in
    ap (λ (es : List (OutPoint × Coin)). values es) (no_length (coins.entries none) (sym (len-entries none) ∙ len-empty outpoint_cmp Coin))
