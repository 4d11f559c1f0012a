-- The pairs of a level, put into its front eight at once and then one by one.
use Rattle.std.proofs.Common.{◌≡◌, ℕ, zero, suc, ◌+◌, ◌-◌, ◌*◌, ◌/◌, ◌<◌, ◌≤◌, List, [], ◌∷◌, ◌++◌, length, take, drop, set, get_or, refl, sym, ap, ◌∙◌, append_assoc, arith}
use Rattle.std.proofs.Math.Seq.{drop-cons}
use Rattle.std.proofs.lemmas.Grind.{take-set_at}
use Rattle.std.proofs.lemmas.List.{append-nil, drop-set-lt, drop-drop, get_or-drop, length-append, length-drop, length-set, length-take-le, take-append-drop, same_lists}
use Rattle.std.proofs.lemmas.Slice.{take-put_mid, drop-put_mid}
use borrow.Rule.Slice.PartMut.{put_mid}
use Rattle.hash.specs.declared.id.Id.{Id}
use Rattle.lanes.specs.Messages.{message_id}
use Rattle.lanes.specs.Level.{pair_ids}
use Rattle.lanes.specs.inside.Level.{IsPairedUpTo, pair_at}

none : Id
none = record { 0 = [] }

pub length-paired : (ids : List Id) → length (pair_ids ids) ≡ length ids / 2
length-paired [] = refl
length-paired (a ∷ []) = refl
length-paired (a ∷ b ∷ ids) = omega (arith, length-paired ids)

-- an even front is paired by itself
pub paired-append : (xs ys : List Id) (n : ℕ) → length xs ≡ 2 * n → pair_ids (xs ++ ys) ≡ pair_ids xs ++ pair_ids ys
paired-append [] ys n e = refl
paired-append (a ∷ []) ys n e = absurd (omega arith)
paired-append (a ∷ b ∷ xs) ys n e = ap (λ (ids : List Id). message_id (a.0 ++ b.0) ∷ ids) (paired-append xs ys (n - 1) (omega arith))

pub paired-at : (ids : List Id) (k : ℕ) (d : Id) → 2 * k + 1 < length ids → get_or (pair_ids ids) k d ≡ message_id (pair_at ids k)
paired-at [] k d lt = absurd (omega (arith, lt))
paired-at (a ∷ []) k d lt = absurd (omega (arith, lt))
paired-at (a ∷ b ∷ ids) zero d lt = refl
paired-at (a ∷ b ∷ ids) (suc k) d lt =
    let left : 2 * suc k ≡ suc (suc (2 * k)) = omega arith in
    let right : 2 * suc k + 1 ≡ suc (suc (2 * k + 1)) = omega arith in
    let at = λ (j : ℕ). (get_or (a ∷ b ∷ ids) j (record { 0 = [] })).0 in
    paired-at ids k d (omega (arith, lt)) ∙ sym (λ i. message_id (at (left i) ++ at (right i)))

nothing_left : (ids : List Id) → length ids ≤ 1 → pair_ids ids ≡ []
nothing_left [] le = refl
nothing_left (a ∷ []) le = refl
nothing_left (a ∷ b ∷ ids) le = absurd (omega (arith, le))

-- what lies behind the hashed front is as before
pub later : (before now : List Id) (k n : ℕ) → drop k now ≡ drop k before → k ≤ n → drop n now ≡ drop n before
later before now k n e le =
    let at : k + (n - k) ≡ n = omega (arith, le) in
    ap (λ (j : ℕ). drop j now) (sym at) ∙ sym (drop-drop (n - k) k now) ∙ ap (drop (n - k)) e ∙ drop-drop (n - k) k before ∙ ap (λ (j : ℕ). drop j before) at

put_mid-length : (now ys : List Id) (k : ℕ) → length ys ≡ 8 → k + 8 ≤ length now → length (put_mid k 8 now ys) ≡ length now
put_mid-length now ys k len room =
    omega (arith, length-append (take k now) (ys ++ drop 8 (drop k now)), length-append ys (drop 8 (drop k now)), length-drop 8 (drop k now), length-drop k now, length-take-le k now (omega (arith, room)), len)

-- eight pairs more, of the 16 ids from place 2k on
eight_more : (before now ys : List Id) (k : ℕ) → IsPairedUpTo before now k → 2 * k + 16 ≤ length before
    → ys ≡ pair_ids (take 16 (drop (2 * k) now)) → length ys ≡ 8 → IsPairedUpTo before (put_mid k 8 now ys) (k + 8)
eight_more before now ys k h room e len =
    let ids : List Id = drop (2 * k) before in
    let rest : drop 16 ids ≡ drop (2 * (k + 8)) before = drop-drop 16 (2 * k) before ∙ (let at : 2 * k + 16 ≡ 2 * (k + 8) = omega arith in ap (λ (j : ℕ). drop j before) at) in
    let here : ys ≡ pair_ids (take 16 ids) = e ∙ ap (λ (l : List Id). pair_ids (take 16 l)) (later before now k (2 * k) h.back (omega arith)) in
    let sixteen : length (take 16 ids) ≡ 2 * 8 = length-take-le 16 ids (omega (arith, length-drop (2 * k) before, room)) in
    let split : pair_ids ids ≡ ys ++ pair_ids (drop (2 * (k + 8)) before) =
    ap pair_ids (sym (take-append-drop 16 ids)) ∙ paired-append (take 16 ids) (drop 16 ids) 8 sixteen
    ∙ (λ i. sym here i ++ pair_ids (rest i)) in
    let front : take (k + 8) (put_mid k 8 now ys) ≡ take k now ++ ys = take-put_mid k 8 now ys (k + 8) (omega (arith, len)) (omega (arith, h.len, room)) in
    record {
      len = put_mid-length now ys k len (omega (arith, h.len, room)) ∙ h.len;
      front = ap (λ (l : List Id). l ++ pair_ids (drop (2 * (k + 8)) before)) front
          ∙ append_assoc (take k now) ys (pair_ids (drop (2 * (k + 8)) before)) ∙ ap (λ (l : List Id). take k now ++ l) (sym split) ∙ h.front;
      back = drop-put_mid k 8 now ys (k + 8) (omega arith) (omega (arith, h.len, room)) len ∙ later before now k (k + 8) h.back (omega arith);
    }

-- the same, as the code cuts out the places
pub turn_more : (before now ys : List Id) (k n m : ℕ) → IsPairedUpTo before now (8 * k) → 16 * k + 16 ≤ length before → n ≡ 16 → m ≡ 8
    → ys ≡ pair_ids (take n (drop (16 * k) now)) → length ys ≡ 8 → IsPairedUpTo before (put_mid (8 * k) m now ys) (8 * (k + 1))
turn_more before now ys k n m h room en em e len =
    let from : 16 * k ≡ 2 * (8 * k) = omega arith in
    let next : 8 * (k + 1) ≡ 8 * k + 8 = omega arith in
    rw (next, em) (eight_more before now ys (8 * k) h (omega (arith, room)) (e ∙ (λ i. pair_ids (take (en i) (drop (from i) now)))) len)

get_later : (before now : List Id) (k j : ℕ) (d : Id) → drop k now ≡ drop k before → k ≤ j → get_or now j d ≡ get_or before j d
get_later before now k j d e le =
    let at : k + (j - k) ≡ j = omega (arith, le) in
    ap (λ (i : ℕ). get_or now i d) (sym at) ∙ sym (get_or-drop k now (j - k) d) ∙ ap (λ (l : List Id). get_or l (j - k) d) e ∙ get_or-drop k before (j - k) d ∙ ap (λ (i : ℕ). get_or before i d) at

drop_one : (ids : List Id) (j : ℕ) (d : Id) → j < length ids → drop j ids ≡ get_or ids j d ∷ drop (j + 1) ids
drop_one ids j d lt = let e : suc j ≡ j + 1 = omega arith in drop-cons ids j d lt ∙ ap (λ (i : ℕ). get_or ids j d ∷ drop i ids) e

-- one pair more
pub one_more : (before now : List Id) (k : ℕ) (d e v : Id) → IsPairedUpTo before now k → 2 * k + 1 < length before
    → v ≡ message_id ((get_or now (2 * k) d).0 ++ (get_or now (2 * k + 1) e).0) → IsPairedUpTo before (set now k v) (k + 1)
one_more before now k d e v h lt ev =
    let a : Id = get_or now (2 * k) d in
    let b : Id = get_or now (2 * k + 1) e in
    let left : get_or before (2 * k) d ≡ a = sym (get_later before now k (2 * k) d h.back (omega arith)) in
    let right : get_or before (2 * k + 1) e ≡ b = sym (get_later before now k (2 * k + 1) e h.back (omega arith)) in
    let at : 2 * k + 1 + 1 ≡ 2 * (k + 1) = omega arith in
    let rest : List Id = drop (2 * (k + 1)) before in
    let two : drop (2 * k) before ≡ a ∷ b ∷ rest =
    drop_one before (2 * k) d (omega (arith, lt)) ∙ ap (λ (l : List Id). get_or before (2 * k) d ∷ l) (drop_one before (2 * k + 1) e lt)
    ∙ (λ i. left i ∷ right i ∷ drop (at i) before) in
    let split : pair_ids (drop (2 * k) before) ≡ v ∷ pair_ids rest = ap pair_ids two ∙ ap (λ (id : Id). id ∷ pair_ids rest) (sym ev) in
    record {
      len = length-set now k v ∙ h.len;
      front = ap (λ (l : List Id). l ++ pair_ids rest) (take-set_at now k (k + 1) v refl (omega (arith, lt, h.len)))
          ∙ append_assoc (take k now) (v ∷ []) (pair_ids rest) ∙ ap (λ (l : List Id). take k now ++ l) (sym split) ∙ h.front;
      back = drop-set-lt (k + 1) now k v (omega arith) ∙ later before now k (k + 1) h.back (omega arith);
    }

pub all_paired : (before now : List Id) (k : ℕ) → IsPairedUpTo before now k → k ≡ length before / 2 → now ≡ pair_ids before ++ drop (length before / 2) before
all_paired before now k h e =
    let none_left : pair_ids (drop (2 * k) before) ≡ [] = nothing_left (drop (2 * k) before) (omega (arith, length-drop (2 * k) before)) in
    let front : take k now ≡ pair_ids before = sym (append-nil (take k now)) ∙ ap (λ (l : List Id). take k now ++ l) (sym none_left) ∙ h.front in
    sym (take-append-drop k now) ∙ (λ i. front i ++ h.back i) ∙ ap (λ (j : ℕ). pair_ids before ++ drop j before) e

-- a list of eight ids, each that of its pair
pub eight_pairs : (ids ys : List Id) → length ids ≡ 16 → length ys ≡ 8 → ((k : ℕ) → k < 8 → (d : Id) → get_or ys k d ≡ message_id (pair_at ids k)) → ys ≡ pair_ids ids
eight_pairs ids ys len eight at =
    same_lists ys (pair_ids ids) (omega (arith, len, eight, length-paired ids))
    (λ k d lt. at k (omega (arith, lt, eight)) d ∙ sym (paired-at ids k d (omega (arith, lt, eight, len))))
