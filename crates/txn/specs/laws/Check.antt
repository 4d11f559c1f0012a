-- What the definitions of the rules mean in other words.
use Rattle.std.proofs.Common.{◌≡◌, ◌↔◌, ℕ, ◌<◌, ◌==◌, ◌&&◌, ◌||◌, Bool, true, false, List, [], ◌∷◌, length, get_or, refl, sym, ap, ap₂, ◌∙◌, IsPermutation}
use Rattle.std.proofs.lemmas.Bool.{eqb-true, eq-eqb}
use Rattle.std.proofs.lemmas.List.Sorted.{IsPermutation-sym}
use Rattle.std.proofs.lemmas.Map.Keys.{IsDistinct-IsPermutation, apart_from_distinct, IsDistinct-from_apart}
use Rattle.std.specs.List.{list_any, IsDistinct, AllByRecursion, AllPairs}
use Rattle.std.specs.Cmp.Lexicographic.{same_text}
use lib.Pointwise.{pointwise}
use Rattle.txn.specs.declared.outpoint.OutPoint.{OutPoint}
use Rattle.txn.specs.declared.input.TxIn.{TxIn}
use Rattle.txn.specs.Tx.{Tx}
use Rattle.txn.specs.Coinbase.{null, IsCoinbase}
use Rattle.txn.specs.Check.{same_outpoint, is_null, has_twice, is_only_null, is_coinbase}

both_true : (a b : Bool) → (a && b) ≡ true → (a ≡ true) × (b ≡ true)
both_true true b h = (refl, h)
both_true false b h = absurd cc

both_false : (a b : Bool) → (a || b) ≡ false → (a ≡ false) × (b ≡ false)
both_false true b h = absurd cc
both_false false b h = (refl, h)

-- ---- equal outpoints

pointwise-refl : (xs : List ℕ) → pointwise ◌==◌ xs xs ≡ true
pointwise-refl [] = refl
pointwise-refl (x ∷ xs) = rw (eq-eqb x x refl) (pointwise-refl xs)

pub same_outpoint-refl : (p : OutPoint) → same_outpoint p p ≡ true
same_outpoint-refl p = rw (pointwise-refl p.id.0) (eq-eqb p.index p.index refl)

pub same_outpoint-true : (a b : OutPoint) → same_outpoint a b ≡ true → a ≡ b
same_outpoint-true a b h =
    let two = both_true (pointwise ◌==◌ a.id.0 b.id.0) (a.index == b.index) h in
    let ids : a.id.0 ≡ b.id.0 = same_text a.id.0 b.id.0 (sym two.0) in
    let places : a.index ≡ b.index = eqb-true a.index b.index two.1 in
    let made : List ℕ → ℕ → OutPoint = λ bytes index. record { id = record { 0 = bytes }; index = index } in
    ap₂ made ids places

pub same_outpoint-flips : (a b : OutPoint) → same_outpoint a b ≡ same_outpoint b a
same_outpoint-flips a b = at (same_outpoint a b) (same_outpoint b a) refl refl
  where
    at : (t u : Bool) → same_outpoint a b ≡ t → same_outpoint b a ≡ u → t ≡ u
    at true true p q = refl
    at false false p q = refl
    at true false p q = sym (sym q ∙ ap (λ (x : OutPoint). same_outpoint b x) (same_outpoint-true a b p) ∙ same_outpoint-refl b)
    at false true p q = sym p ∙ ap (λ (x : OutPoint). same_outpoint a x) (same_outpoint-true b a q) ∙ same_outpoint-refl a

-- ---- one outpoint at two places

none_of : (p : OutPoint) (ps : List OutPoint) → list_any (same_outpoint p) ps ≡ false → AllByRecursion (λ q. same_outpoint p q ≡ false) ps
none_of p [] h = tt
none_of p (q ∷ ps) h = let two = both_false (same_outpoint p q) (list_any (same_outpoint p) ps) h in (two.0, none_of p ps two.1)

none_back : (p : OutPoint) (ps : List OutPoint) → AllByRecursion (λ q. same_outpoint p q ≡ false) ps → list_any (same_outpoint p) ps ≡ false
none_back p [] h = refl
none_back p (q ∷ ps) h = rw (h.0) (none_back p ps h.1)

pub distinct : (ps : List OutPoint) → has_twice ps ≡ false → IsDistinct same_outpoint ps
unfolding IsDistinct
distinct [] h = tt
distinct (p ∷ ps) h = let two = both_false (list_any (same_outpoint p) ps) (has_twice ps) h in (none_of p ps two.0, distinct ps two.1)

pub not_twice : (ps : List OutPoint) → IsDistinct same_outpoint ps → has_twice ps ≡ false
unfolding IsDistinct
not_twice [] h = refl
not_twice (p ∷ ps) h = rw (none_back p ps h.0) (not_twice ps h.1)

-- the order of the list doesn't matter
pub has_twice-permuted : (xs ys : List OutPoint) → IsPermutation xs ys → has_twice ys ≡ has_twice xs
has_twice-permuted xs ys moved = at (has_twice ys) (has_twice xs) refl refl
  where
    at : (t u : Bool) → has_twice ys ≡ t → has_twice xs ≡ u → t ≡ u
    at true true p q = refl
    at false false p q = refl
    at true false p q = sym p ∙ not_twice ys (IsDistinct-IsPermutation same_outpoint same_outpoint-flips xs ys moved (distinct xs q))
    at false true p q = sym (sym q ∙ not_twice xs (IsDistinct-IsPermutation same_outpoint same_outpoint-flips ys xs (IsPermutation-sym xs ys moved) (distinct ys p)))

pub twice_from_places : (ps : List OutPoint) (i j : ℕ) (d : OutPoint) → i < j → j < length ps → same_outpoint (get_or ps i d) (get_or ps j d) ≡ true → has_twice ps ≡ true
twice_from_places ps i j d less within e = at (has_twice ps) refl
  where
    at : (t : Bool) → has_twice ps ≡ t → t ≡ true
    at true p = refl
    at false p = sym (apart_from_distinct same_outpoint ps i j d (distinct ps p) less within) ∙ e

-- no two places have equal outpoints
pub has_twice-means : (ps : List OutPoint) → (has_twice ps ≡ false) ↔ AllPairs (λ a b. ¬ (a ≡ b)) ps
has_twice-means ps = (forth, back)
  where
    forth : has_twice ps ≡ false → AllPairs (λ a b. ¬ (a ≡ b)) ps
    forth h i j d less within e =
        let apart = apart_from_distinct same_outpoint ps i j d (distinct ps h) less within in
        let same : same_outpoint (get_or ps i d) (get_or ps j d) ≡ true = ap (λ (x : OutPoint). same_outpoint x (get_or ps j d)) e ∙ same_outpoint-refl (get_or ps j d) in
        absurd (let both : true ≡ false = sym same ∙ apart in cc)

    differ : (a b : OutPoint) (t : Bool) → same_outpoint a b ≡ t → ¬ (a ≡ b) → t ≡ false
    differ a b true p other = absurd (other (same_outpoint-true a b p))
    differ a b false p other = refl

    back : AllPairs (λ a b. ¬ (a ≡ b)) ps → has_twice ps ≡ false
    back h = not_twice ps (IsDistinct-from_apart same_outpoint ps (λ i j d less within. differ (get_or ps i d) (get_or ps j d) (same_outpoint (get_or ps i d) (get_or ps j d)) refl (h i j d less within)))

-- ---- coinbases

only_null : (inputs : List TxIn) → is_only_null inputs ≡ true → (input : TxIn) × (inputs ≡ input ∷ []) × (input.prev ≡ null)
only_null [] h = absurd cc
only_null (input ∷ []) h = (input, refl, same_outpoint-true input.prev null h)
only_null (input ∷ other ∷ inputs) h = absurd cc

pub is_coinbase-means : (t : Tx) → (is_coinbase t ≡ true) ↔ IsCoinbase t
is_coinbase-means t = (only_null t.inputs, back)
  where
    back : IsCoinbase t → is_coinbase t ≡ true
    back (input, one, is) = ap is_only_null one ∙ ap is_null is ∙ same_outpoint-refl null
