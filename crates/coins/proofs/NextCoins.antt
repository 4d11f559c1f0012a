-- The coins that follow another, over many maps.
use Rattle.std.proofs.Common.{◌≡◌, ℕ, ◌+◌, ◌*◌, ◌≤◌, ◌<◌, ◌⊎◌, inl, inr, true, false, List, [], ◌∷◌, Option, Some, None, refl, sym, ap, subst, ◌∙◌, arith}
use Rattle.std.specs.Prelude.{IsSome, is_some, get_or}
use Rattle.std.specs.List.{slice_index}
use Rattle.std.specs.BTreeMap.{BTreeMap}
use Rattle.std.specs.FinMap as map
use Rattle.std.specs.Cmp.{alike_right, nat_cmp_is, ranks, tied_itself, upto}
use Rattle.std.specs.Cmp.Lexicographic.{slice_cmp}
use Rattle.std.specs.Ordering.{MatchOrdering, is_gt, nat_cmp, ordering_reverse, ordering_then}
use Rattle.std.specs.declared.cmp.Ordering.{Ordering}
use Rattle.std.specs.declared.cmp.Ordering.TheVariants.{Less, Equal, Greater}
use Rattle.std.proofs.lemmas.Bool.{cases_eq}
use Rattle.txn.specs.declared.outpoint.OutPoint.{OutPoint}
use Rattle.coins.specs.Coins.{Coin, Coins, few_and_many, outpoint_cmp}
use Rattle.coins.specs.Next.{IsAbove, IsNext}
use Rattle.coins.specs.inside.Next.{IsNextBefore, IsNextEntry}
use Rattle.coins.specs.inside.Shards.{Maps, place, together, AreShards, IsOfBytes, AreOfBytes}
use Rattle.coins.specs.laws.Lookups.{entry_for, get-entries, total_order}
use Rattle.coins.proofs.ManyMaps.{found, own_at}
use Rattle.coins.proofs.MovedCoins.{first, got}

abbrev Map : Type 0
Map = BTreeMap OutPoint Coin

-- of bytes one after the other, what tells the place: unless it falls, the first bytes decide the order
abbrev front : List ℕ → ℕ
front b = slice_index b 0 * 256 + slice_index b 1

first_less : (x y : ℕ) (o : Ordering) → x < y → ordering_then (nat_cmp x y) o ≡ Less
first_less x y o h = ap (λ r. ordering_then r o) (sym (nat_cmp_is x y Less h))

tail_up : (a b : List ℕ) → slice_index a 0 < slice_index b 0 → slice_cmp nat_cmp a b ≡ Less
tail_up a [] h = absurd (omega (arith, h))
tail_up [] (y ∷ ys) h = refl
tail_up (x ∷ xs) (y ∷ ys) h = first_less x y (slice_cmp nat_cmp xs ys) h

front_up : (a b : List ℕ) → slice_index b 1 < 256 → front a < front b → slice_cmp nat_cmp a b ≡ Less
front_up a [] small h = absurd (omega (arith, h))
front_up [] (y ∷ ys) small h = refl
front_up (x ∷ xs) (y ∷ ys) small h = by (nat_cmp x y) refl (ranks x y)
  where
    by : (o : Ordering) → nat_cmp x y ≡ o → MatchOrdering (nat_cmp x y) (x < y) (x ≡ y) (y < x) → ordering_then (nat_cmp x y) (slice_cmp nat_cmp xs ys) ≡ Less
    by Less is r = ap (λ o. ordering_then o (slice_cmp nat_cmp xs ys)) is
    by Equal is r =
        let same : x ≡ y = subst (λ o. MatchOrdering o (x < y) (x ≡ y) (y < x)) is r in
        ap (λ o. ordering_then o (slice_cmp nat_cmp xs ys)) is ∙ tail_up xs ys (omega (arith, h, same))
    by Greater is r =
        let more : y < x = subst (λ o. MatchOrdering o (x < y) (x ≡ y) (y < x)) is r in
        absurd (omega (arith, h, more, small))

-- so the places follow one another as their outpoints do
pub later : (p q : OutPoint) → IsOfBytes p → IsOfBytes q → place p < place q → outpoint_cmp p q ≡ Less
later p q hp hq h =
    let less = front_up p.id.0 q.id.0 hq.1 (omega (arith, h, hp.0, hp.1, hq.0, hq.1)) in
    ap (λ o. ordering_then o (nat_cmp p.index q.index)) less

pub some_of : (o : Option Coin) → IsSome o → is_some o ≡ true
some_of (Some c) h = refl
some_of None h = cc

there_of : (o p : Option Coin) → o ≡ p → is_some o ≡ true → IsSome p
there_of o (Some c) is h = refl
there_of o None is h = let no = sym h ∙ ap (λ x. is_some x) is in cc

none_there : (o p : Option Coin) → o ≡ p → p ≡ None → ¬ (is_some o ≡ true)
none_there o p is none h = let no = sym h ∙ ap (λ x. is_some x) (is ∙ none) in cc

-- what the map of a place has
at_place : (ms : Maps) (m : Map) (i : ℕ) (q : OutPoint) → AreShards ms → m ≡ get_or ms i m → place q ≡ i → map.get (together ms) q ≡ entry_for m.entries q
at_place ms m i q are is e = found ms q m are ∙ ap (λ n. entry_for (get_or ms n m).entries q) e ∙ ap (λ (x : Map). entry_for x.entries q) (sym is)

pub next_place : (ms : Maps) (m : Map) (i : ℕ) (q : OutPoint) → AreShards ms → m ≡ get_or ms i m → i ≤ place q → entry_for m.entries q ≡ None → is_some (map.get (together ms) q) ≡ true → i + 1 ≤ place q
next_place ms m i q are is up none there = by (cases_eq (place q) i)
  where
    by : (place q ≡ i) ⊎ (place q ≡ i → ⊥) → i + 1 ≤ place q
    by (inl e) = absurd (none_there _ _ (at_place ms m i q are is e) none there)
    by (inr apart) = omega (arith, up, apart)

pub least_of_all : (ms : Maps) (m : Map) (i : ℕ) (from : Option OutPoint) (e : OutPoint × Coin) → AreShards ms → AreOfBytes (together ms) → m ≡ get_or ms i m → i < 8192
    → IsNextEntry m.entries from (Some e) → ((q : OutPoint) → IsAbove from q → is_some (map.get (together ms) q) ≡ true → i ≤ place q) → IsNext (together ms) from (Some e)
least_of_all ms m i from e are bytes is below next up = (next.0, got, λ q above some. by q above (some_of _ some) (cases_eq (place q) i))
  where
    here : place e.0 ≡ i
    here = own_at 0 i ms m are.own (subst (λ n. i < n) (sym are.count) below) e.0 (ap (λ (x : Map). is_some (entry_for x.entries e.0)) (sym is) ∙ ap (λ o. is_some o) next.1) ∙ omega arith

    got : map.get (together ms) e.0 ≡ Some e.1
    got = at_place ms m i e.0 are is here ∙ next.1

    by : (q : OutPoint) → IsAbove from q → is_some (map.get (together ms) q) ≡ true → (place q ≡ i) ⊎ (place q ≡ i → ⊥) → is_gt (outpoint_cmp e.0 q) ≡ false
    by q above some (inl e) = next.2 q above (there_of _ _ (at_place ms m i q are is e) some)
    by q above some (inr apart) = let below = up q above some in ap (λ o. is_gt o) (later e.0 q (bytes e.0 (ap (λ o. is_some o) got)) (bytes q some) (omega (arith, here, below, apart)))

-- ---- of many maps and of one
abbrev Entries : Type 0
Entries = List (OutPoint × Coin)

nowhere : (o p : Option Coin) → o ≡ None → p ≡ None → first o p ≡ None
nowhere o p h g = ap (λ x. first x p) h ∙ g

in_one : (o p : Option Coin) → IsSome (first o p) → IsSome o ⊎ IsSome p
in_one (Some c) p h = inl h
in_one None p h = inr h

none_of : (o : Option Coin) → ¬ (IsSome o) → o ≡ None
none_of None h = refl
none_of (Some c) h = absurd (h refl)

some_is : (o : Option Coin) (c : Coin) → o ≡ Some c → IsSome o
some_is (Some d) c h = refl
some_is None c h = cc

-- nothing follows in the one map
pub many_follow : (es : Entries) (m : Coins) (from : Option OutPoint) (r : Option (OutPoint × Coin)) → IsNextEntry es from None → IsNextBefore None m from r → IsNext (few_and_many es (Some m)) from r
many_follow es m from None few many = λ q above. got es m q ∙ nowhere (map.get m q) (entry_for es q) (none_of (map.get m q) (λ s. many q above s)) (few q above)
many_follow es m from (Some e) few many = (
  many.0,
  got es m e.0 ∙ ap (λ o. first o (entry_for es e.0)) many.1,
  λ q above some.
      many.2 q above (subst IsSome (ap (first (map.get m q)) (few q above) ∙ first_none (map.get m q)) (subst IsSome (got es m q) some)),
)
  where
    first_none : (o : Option Coin) → first o None ≡ o
    first_none None = refl
    first_none (Some c) = refl

not_above : (o : Ordering) → o ≡ Less → is_gt o ≡ false
not_above o h = ap (λ x. is_gt x) h

-- what follows in the one map is below all that the many have
pub few_follow : (es : Entries) (m : Coins) (from : Option OutPoint) (e : OutPoint × Coin) → IsNextEntry es from (Some e) → ((q : OutPoint) → IsAbove from q → IsSome (map.get m q) → outpoint_cmp e.0 q ≡ Less) → IsNext (few_and_many es (Some m)) from (Some e)
few_follow es m from e few many =
    (few.0, got es m e.0 ∙ ap (λ o. first o (entry_for es e.0)) (none_of (map.get m e.0) apart) ∙ few.1, λ q above some. by q above (in_one (map.get m q) (entry_for es q) (subst IsSome (got es m q) some)))
  where
    apart : ¬ (IsSome (map.get m e.0))
    apart s = let no = sym (tied_itself total_order e.0) ∙ many e.0 few.0 s in cc

    by : (q : OutPoint) → IsAbove from q → IsSome (map.get m q) ⊎ IsSome (entry_for es q) → is_gt (outpoint_cmp e.0 q) ≡ false
    by q above (inl s) = not_above (outpoint_cmp e.0 q) (many q above s)
    by q above (inr s) = few.2 q above s

turned_back : (o p : Ordering) → p ≡ ordering_reverse o → ¬ (o ≡ Less) → is_gt p ≡ false
turned_back Less p is h = absurd (h refl)
turned_back Equal p is h = ap (λ x. is_gt x) is
turned_back Greater p is h = ap (λ x. is_gt x) is

below_both : (a b c : OutPoint) → outpoint_cmp a b ≡ Less → (o : Ordering) → outpoint_cmp b c ≡ o → is_gt o ≡ false → outpoint_cmp a c ≡ Less
below_both a b c h Less is g = total_order.trans a b c h is
below_both a b c h Equal is g = sym (alike_right total_order b c a is) ∙ h
below_both a b c h Greater is g = cc

-- what follows in the many isn't above what follows in the one
pub first_follows : (es : Entries) (m : Coins) (from : Option OutPoint) (e f : OutPoint × Coin) → IsNextEntry es from (Some e) → IsNext m from (Some f) → ¬ (outpoint_cmp e.0 f.0 ≡ Less) → IsNext (few_and_many es (Some m)) from (Some f)
first_follows es m from e f few many apart =
    (many.0, got es m f.0 ∙ ap (λ o. first o (entry_for es f.0)) many.1, λ q above some. by q above (in_one (map.get m q) (entry_for es q) (subst IsSome (got es m q) some)))
  where
    by : (q : OutPoint) → IsAbove from q → IsSome (map.get m q) ⊎ IsSome (entry_for es q) → is_gt (outpoint_cmp f.0 q) ≡ false
    by q above (inl s) = many.2 q above s
    by q above (inr s) = upto total_order f.0 e.0 q (turned_back (outpoint_cmp e.0 f.0) (outpoint_cmp f.0 e.0) (total_order.antisymm f.0 e.0) apart) (few.2 q above s)

-- and where it is, the one map's is first
pub second_follows : (es : Entries) (m : Coins) (from : Option OutPoint) (e f : OutPoint × Coin) → IsNextEntry es from (Some e) → IsNext m from (Some f) → outpoint_cmp e.0 f.0 ≡ Less → IsNext (few_and_many es (Some m)) from (Some e)
second_follows es m from e f few many less = few_follow es m from e few (λ q above s. below_both e.0 f.0 q less (outpoint_cmp f.0 q) refl (many.2 q above s))

-- where there is one map alone
pub one_follows : (es : Entries) (from : Option OutPoint) (r : Option (OutPoint × Coin)) → IsNextEntry es from r → IsNext (map.from_entries es) from r
one_follows es from None h = λ q above. get-entries es q ∙ h q above
one_follows es from (Some e) h = (h.0, get-entries es e.0 ∙ h.1, λ q above some. h.2 q above (subst IsSome (get-entries es q) some))

pub not_less : (o r : Ordering) → r ≡ o → (r ≡ Equal) ⊎ (r ≡ Greater) → ¬ (o ≡ Less)
not_less o r is (inl e) less = let no = sym e ∙ is ∙ less in cc
not_less o r is (inr g) less = let no = sym g ∙ is ∙ less in cc
