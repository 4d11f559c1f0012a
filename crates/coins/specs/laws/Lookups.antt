-- What is looked up in maps of coins.
use Rattle.std.specs.Prelude.{◌≡◌, ℕ, true, cond, List, [], ◌∷◌, Option, None, Some, refl}
use Rattle.std.proofs.Common.{ap, ◌∙◌}
use Rattle.std.specs.Map.{lookup}
use Rattle.std.specs.BTreeMap.{is_at}
use Rattle.std.specs.Cmp.{IsTotalOrder, eq_by_cmp_equiv}
use Rattle.std.specs.Cmp.Lexicographic.{slice_cmp}
use Rattle.std.specs.Ordering.{nat_cmp, is_eq}
use Rattle.std.specs.declared.cmp.Ordering.{Ordering}
use Rattle.std.specs.declared.cmp.Ordering.TheVariants.{Less, Equal, Greater}
use Rattle.std.specs.FinMap as map
use Rattle.std.specs.FinMap.{find, get-from_entries, get-insert, get-remove, same_map}
use Rattle.std.proofs.lemmas.Cmp.{then_total, on_total, nat_cmp_total, lists_total}
use Rattle.std.proofs.lemmas.Map.Lookups.{CmpEqualImpliesEq, exact_pairs, exact_unsigned, exact_bytes}
use Rattle.txn.specs.declared.outpoint.OutPoint.{OutPoint}
use Rattle.coins.specs.Coins.{Coin, Coins, outpoint_cmp, same, put}

-- the order of outpoints is total, and only equal ones tie
pub total_order : IsTotalOrder outpoint_cmp
total_order = then_total (on_total (λ p. p.id.0) (lists_total nat_cmp_total)) (on_total (λ p. p.index) nat_cmp_total)

pub exact : CmpEqualImpliesEq outpoint_cmp
exact a b h =
    let as_outpoint : List ℕ × ℕ → OutPoint = λ p. record { id = record { 0 = p.0 }; index = p.1 } in
    ap as_outpoint (exact_pairs (slice_cmp nat_cmp) nat_cmp exact_bytes exact_unsigned (a.id.0, a.index) (b.id.0, b.index) h)

equal_from : (o : Ordering) → is_eq o ≡ true → o ≡ Equal
equal_from Equal h = refl
equal_from Less h = cc
equal_from Greater h = cc

pub same-true : (a b : OutPoint) → same a b ≡ true → a ≡ b
same-true a b h = exact a b (equal_from (outpoint_cmp a b) h)

pub same-self : (a : OutPoint) → same a a ≡ true
same-self a = (eq_by_cmp_equiv total_order).refl a

pub same-sym : (a b : OutPoint) → same a b ≡ same b a
same-sym a b = (eq_by_cmp_equiv total_order).symm a b

-- maps that have the same at each outpoint are one
pub same_coins : (m n : Coins) → ((q : OutPoint) → map.get m q ≡ map.get n q) → m ≡ n
same_coins = same_map total_order exact

pub get-put : (m : Coins) (k : OutPoint) (w : Option Coin) (q : OutPoint) → map.get (put m k w) q ≡ cond (same q k) w (map.get m q)
get-put m k None q = get-remove total_order m k q
get-put m k (Some coin) q = get-insert total_order m k coin q

-- what a list of entries has at an outpoint
abbrev pub entry_for : {V : Type 0} → List (OutPoint × V) → OutPoint → Option V
entry_for es q = lookup (is_at (outpoint_cmp q)) es

find_at : {V : Type 0} (es : List (OutPoint × V)) (q : OutPoint) → find outpoint_cmp q es ≡ entry_for es q
find_at [] q = refl
find_at (e ∷ es) q = ap (cond (is_at (outpoint_cmp q) e.0) (Some e.1)) (find_at es q)

pub get-entries : {V : Type 0} (es : List (OutPoint × V)) (q : OutPoint) → map.get (map.from_entries {R = outpoint_cmp} es) q ≡ entry_for es q
get-entries es q = get-from_entries total_order es q ∙ find_at es q
