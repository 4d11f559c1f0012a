-- Merkle trees: levels from left to right, and that a level has the root of the level above.
use Rattle.std.proofs.Common.{◌≡◌, ℕ, zero, suc, ◌+◌, ◌-◌, ◌*◌, ◌/◌, ◌%◌, ◌<◌, ◌≤◌, Bool, false, ◌||◌, List, [], ◌∷◌, ◌++◌, length, take, drop, set, get_or, replicate, refl, sym, ap, ◌∙◌, arith}
use Rattle.std.proofs.Math.Seq.{drop-cons}
use Rattle.std.proofs.lemmas.Grind.{take-set_at}
use Rattle.std.proofs.lemmas.List.{drop_at, get_or-drop, length-append, length-drop, take_at}
use Rattle.hash.specs.declared.id.Id.{Id}
use Rattle.hash.specs.Id.{same_id}
use Rattle.lanes.specs.Level.{pair_ids}
use Rattle.block.specs.Merkle.{pair, next, root_within, root, has_twin, twin_within, twin}

-- ---- pairs from left to right

drop_one : (ids : List Id) (j : ℕ) (d : Id) → j < length ids → drop j ids ≡ get_or ids j d ∷ drop (j + 1) ids
drop_one ids j d lt = let e : suc j ≡ j + 1 = omega arith in drop-cons ids j d lt ∙ ap (λ (i : ℕ). get_or ids j d ∷ drop i ids) e

drop_two : (ids : List Id) (k : ℕ) (c d : Id) → 2 * k + 1 < length ids → drop (2 * k) ids ≡ get_or ids (2 * k) c ∷ get_or ids (2 * k + 1) d ∷ drop (2 * (k + 1)) ids
drop_two ids k c d lt =
    let e : 2 * k + 1 + 1 ≡ 2 * (k + 1) = omega arith in
    drop_one ids (2 * k) c (omega (arith, lt))
    ∙ ap (λ (l : List Id). get_or ids (2 * k) c ∷ l) (drop_one ids (2 * k + 1) d lt)
    ∙ ap (λ (j : ℕ). get_or ids (2 * k) c ∷ get_or ids (2 * k + 1) d ∷ drop j ids) e

pub no_twin_after : (ids : List Id) (k : ℕ) → length ids ≤ 2 * k + 1 → has_twin (drop (2 * k) ids) ≡ false
no_twin_after ids k le = at (drop (2 * k) ids) (omega (arith, length-drop (2 * k) ids, le))
  where
    at : (l : List Id) → length l ≤ 1 → has_twin l ≡ false
    at [] h = refl
    at (a ∷ []) h = refl
    at (a ∷ b ∷ l) h = absurd (omega (arith, h))

pub twin_step : (ids : List Id) (k : ℕ) (d : Id) → 2 * k + 1 < length ids → has_twin (drop (2 * k) ids) ≡ (same_id (get_or ids (2 * k) d) (get_or ids (2 * k + 1) d) || has_twin (drop (2 * (k + 1)) ids))
twin_step ids k d lt = ap has_twin (drop_two ids k d d lt)

-- ---- levels

shorter : (ids : List Id) → length (next ids) ≤ length ids
shorter [] = omega arith
shorter (a ∷ []) = omega arith
shorter (a ∷ b ∷ ids) = omega (arith, shorter ids)

root_fuel : (m n : ℕ) (ids : List Id) → length ids ≤ m → length ids ≤ n → root_within m ids ≡ root_within n ids
root_fuel m n [] a b = refl
root_fuel m n (x ∷ []) a b = refl
root_fuel zero n (x ∷ y ∷ ids) a b = absurd (omega (arith, a))
root_fuel (suc m) zero (x ∷ y ∷ ids) a b = absurd (omega (arith, b))
root_fuel (suc m) (suc n) (x ∷ y ∷ ids) a b = root_fuel m n (next (x ∷ y ∷ ids)) (omega (arith, a, shorter ids)) (omega (arith, b, shorter ids))

twin_fuel : (m n : ℕ) (ids : List Id) → length ids ≤ m → length ids ≤ n → twin_within m ids ≡ twin_within n ids
twin_fuel m n [] a b = refl
twin_fuel m n (x ∷ []) a b = refl
twin_fuel zero n (x ∷ y ∷ ids) a b = absurd (omega (arith, a))
twin_fuel (suc m) zero (x ∷ y ∷ ids) a b = absurd (omega (arith, b))
twin_fuel (suc m) (suc n) (x ∷ y ∷ ids) a b = ap (λ (t : Bool). has_twin (x ∷ y ∷ ids) || t) (twin_fuel m n (next (x ∷ y ∷ ids)) (omega (arith, a, shorter ids)) (omega (arith, b, shorter ids)))

pub root-next : (ids : List Id) → 1 < length ids → root ids ≡ root (next ids)
unfolding root
root-next [] lt = absurd (omega (arith, lt))
root-next (x ∷ []) lt = absurd (omega (arith, lt))
root-next (x ∷ y ∷ ids) lt = root_fuel (suc (length ids)) (length (next (x ∷ y ∷ ids))) (next (x ∷ y ∷ ids)) (omega (arith, shorter ids)) (omega arith)

pub twin-next : (ids : List Id) → 1 < length ids → twin ids ≡ (has_twin ids || twin (next ids))
unfolding twin
twin-next [] lt = absurd (omega (arith, lt))
twin-next (x ∷ []) lt = absurd (omega (arith, lt))
twin-next (x ∷ y ∷ ids) lt = ap (λ (t : Bool). has_twin (x ∷ y ∷ ids) || t) (twin_fuel (suc (length ids)) (length (next (x ∷ y ∷ ids))) (next (x ∷ y ∷ ids)) (omega (arith, shorter ids)) (omega arith))

pub next-shorter : (ids : List Id) → 1 < length ids → length (next ids) < length ids
next-shorter [] lt = absurd (omega (arith, lt))
next-shorter (x ∷ []) lt = absurd (omega (arith, lt))
next-shorter (x ∷ y ∷ ids) lt = omega (arith, shorter ids)

pub no_twin_left : (ids : List Id) → length ids ≤ 1 → twin ids ≡ false
unfolding twin
no_twin_left [] le = refl
no_twin_left (x ∷ []) le = refl
no_twin_left (x ∷ y ∷ ids) le = absurd (omega (arith, le))

pub root_none : (ids : List Id) → length ids ≤ 0 → root ids ≡ record { 0 = replicate 32 0 }
unfolding root
root_none [] le = refl
root_none (x ∷ ids) le = absurd (omega (arith, le))

pub root_first : (ids : List Id) (d : Id) → length ids < 2 → 1 ≤ length ids → get_or ids 0 d ≡ root ids
unfolding root
root_first [] d lt ge = absurd (omega (arith, ge))
root_first (x ∷ []) d lt ge = refl
root_first (x ∷ y ∷ ids) d lt ge = absurd (omega (arith, lt))

get_below : (old now : List Id) (k j : ℕ) (d : Id) → drop k now ≡ drop k old → k ≤ j → get_or now j d ≡ get_or old j d
get_below old now k j d e le =
    let at : k + (j - k) ≡ j = omega (arith, le) in
    ap (λ (i : ℕ). get_or now i d) (sym at) ∙ sym (get_or-drop k now (j - k) d) ∙ ap (λ (l : List Id). get_or l (j - k) d) e ∙ get_or-drop k old (j - k) d ∙ ap (λ (i : ℕ). get_or old i d) at

-- ---- the level above, by its pairs and an odd level's last id

length-paired : (ids : List Id) → length (pair_ids ids) ≡ length ids / 2
length-paired [] = refl
length-paired (a ∷ []) = refl
length-paired (a ∷ b ∷ ids) = omega (arith, length-paired ids)

next-even : (ids : List Id) (k : ℕ) → length ids ≡ 2 * k → next ids ≡ pair_ids ids
next-even [] k e = refl
next-even (a ∷ []) k e = absurd (omega arith)
next-even (a ∷ b ∷ ids) k e = ap (λ (l : List Id). pair a b ∷ l) (next-even ids (k - 1) (omega arith))

next-odd : (ids : List Id) (k : ℕ) (d : Id) → length ids ≡ 2 * k + 1 → next ids ≡ pair_ids ids ++ pair (get_or ids (2 * k) d) (get_or ids (2 * k) d) ∷ []
next-odd [] k d e = absurd (omega arith)
next-odd (a ∷ []) k d e =
    let none : 2 * k ≡ 0 = omega arith in
    ap (λ (j : ℕ). pair (get_or (a ∷ []) j d) (get_or (a ∷ []) j d) ∷ []) (sym none)
next-odd (a ∷ b ∷ ids) k d e =
    let at : suc (suc (2 * (k - 1))) ≡ 2 * k = omega arith in
    ap (λ (l : List Id). pair a b ∷ l) (next-odd ids (k - 1) d (omega arith))
    ∙ ap (λ (j : ℕ). pair a b ∷ (pair_ids ids ++ pair (get_or (a ∷ b ∷ ids) j d) (get_or (a ∷ b ∷ ids) j d) ∷ [])) at

-- the pairs stand in the front, and the rest is as before
pub above-length : (old now : List Id) → now ≡ pair_ids old ++ drop (length old / 2) old → length now ≡ length old
above-length old now e = omega (arith, ap length e, length-append (pair_ids old) (drop (length old / 2) old), length-paired old, length-drop (length old / 2) old)

pub above-even : (old now : List Id) → now ≡ pair_ids old ++ drop (length old / 2) old → length old % 2 ≡ 0 → take (length old / 2) now ≡ next old
above-even old now e even =
    ap (take (length old / 2)) e ∙ take_at (pair_ids old) (drop (length old / 2) old) (length old / 2) (length-paired old)
    ∙ sym (next-even old (length old / 2) (omega (arith, even)))

pub above-odd : (old now : List Id) (v d : Id) → now ≡ pair_ids old ++ drop (length old / 2) old → length old % 2 ≡ 1
    → v ≡ pair (get_or now (length old - 1) d) (get_or now (length old - 1) d) → take (length old / 2 + 1) (set now (length old / 2) v) ≡ next old
above-odd old now v d e odd ev =
    let k : ℕ = length old / 2 in
    let len : length old ≡ 2 * k + 1 = omega (arith, odd) in
    let back : drop k now ≡ drop k old = ap (drop k) e ∙ drop_at (pair_ids old) (drop k old) k (length-paired old) in
    let front : take k now ≡ pair_ids old = ap (take k) e ∙ take_at (pair_ids old) (drop k old) k (length-paired old) in
    let room : k < length now = omega (arith, ap length e, length-append (pair_ids old) (drop k old), length-paired old, length-drop k old, len) in
    let at : length old - 1 ≡ 2 * k = omega (arith, len) in
    let last : get_or now (length old - 1) d ≡ get_or old (2 * k) d = ap (λ (j : ℕ). get_or now j d) at ∙ get_below old now k (2 * k) d back (omega arith) in
    take-set_at now k (k + 1) v refl room
    ∙ (λ i. front i ++ (ev ∙ (λ j. pair (last j) (last j))) i ∷ [])
    ∙ sym (next-odd old k d len)
