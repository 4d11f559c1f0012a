-- Flags of all places, and the sets that they show.
use Rattle.std.proofs.Common.{◌≡◌, ℕ, zero, suc, ◌+◌, ◌-◌, ◌<◌, Bool, true, false, cond, ◌&&◌, ◌||◌, eqb, List, [], ◌∷◌, ◌++◌, length, get_or, sym, refl, ap, ◌∙◌, inl, inr, arith}
use Rattle.std.proofs.Math.ListN.{set, get_or-append}
use Rattle.std.proofs.Math.Seq.{get_or-append_seam}
use Rattle.std.proofs.lemmas.Bool.{cases_eq, eq-eqb, ne_eqb}
use Rattle.std.proofs.lemmas.List.{get_or-set_same, get_or-set_other, length-append}
use Rattle.std.specs.List.{filter, list_any}
use Rattle.tree.specs.Branches.{has, down_from}
use Rattle.tree.specs.State.{union_where}
use Rattle.tree.specs.laws.Sets.{filter_agree, has-filter}
use Rattle.reference.specs.inside.Replay.{is_flagged, places_of, any_below}

-- a flag set
pub flag_set : (flags : List Bool) (p x : ℕ) → p < length flags → is_flagged (set flags p true) x ≡ (is_flagged flags x || eqb p x)
flag_set flags p x h =
    elim (cases_eq x p) [
      | inl e ↦ ap (λ (q : ℕ). get_or (set flags p true) q false) e ∙ get_or-set_same flags p true false h ∙ sym (ap (λ (v : Bool). is_flagged flags x || v) (eq-eqb p x (sym e)) ∙ or_true (is_flagged flags x))
      | inr e ↦ get_or-set_other flags p x true false e ∙ sym (ap (λ (v : Bool). is_flagged flags x || v) (ne_eqb p x (λ q. e (sym q))) ∙ or_no (is_flagged flags x))
    ]
  where
    or_true : (b : Bool) → (b || true) ≡ true
    or_true true = refl
    or_true false = refl

    or_no : (b : Bool) → (b || false) ≡ b
    or_no true = refl
    or_no false = refl

    and_true : (b : Bool) → (b && true) ≡ b
    and_true true = refl
    and_true false = refl

-- ---- the places with the flag

pub has-places : (flags : List Bool) (p : ℕ) → p < length flags → has (places_of flags) p ≡ is_flagged flags p
unfolding places_of
has-places flags p h = has-filter (is_flagged flags) (length flags - 1) p (omega arith)

places_up : (flags : List Bool) (n : ℕ) → length flags ≡ suc n → places_of flags ≡ filter (is_flagged flags) (down_from n)
unfolding places_of
places_up flags n e = ap (λ (m : ℕ). filter (is_flagged flags) (down_from m)) (omega arith)

-- flags that join
pub places-joined : (n : ℕ) (old new : List Bool) (f : ℕ → Bool) → length old ≡ suc n → length new ≡ suc n → ((p : ℕ) → p < suc n → is_flagged new p ≡ (is_flagged old p || f p)) → places_of new ≡ union_where (down_from n) (places_of old) f
unfolding union_where
places-joined n old new f a b h = places_up new n b ∙ filter_agree (is_flagged new) (λ p. has (places_of old) p || f p) n (λ p l. h p (omega arith) ∙ ap (λ v. v || f p) (sym (has-places old p (omega arith))))

filter_twice : (f g : ℕ → Bool) (l : List ℕ) → filter f (filter g l) ≡ filter (λ x. g x && f x) l
filter_twice f g [] = refl
filter_twice f g (x ∷ l) =
    elim (g x) as (λ b. filter f (cond b (x ∷ filter g l) (filter g l)) ≡ cond (b && f x) (x ∷ filter (λ y. g y && f y) l) (filter (λ y. g y && f y) l)) [
      | true ↦ ap (λ (r : List ℕ). cond (f x) (x ∷ r) r) (filter_twice f g l)
      | false ↦ filter_twice f g l
    ]

-- flags that are taken
pub places-taken : (n : ℕ) (old new : List Bool) (f : ℕ → Bool) → length old ≡ suc n → length new ≡ suc n → ((p : ℕ) → p < suc n → is_flagged new p ≡ (is_flagged old p && f p)) → places_of new ≡ filter f (places_of old)
unfolding places_of
places-taken n old new f a b h =
    ap (λ (m : ℕ). filter (is_flagged new) (down_from m)) (omega arith)
    ∙ filter_agree (is_flagged new) (λ q. is_flagged old q && f q) n (λ q l. h q (omega arith))
    ∙ sym (filter_twice f (is_flagged old) (down_from n))
    ∙ ap (λ (m : ℕ). filter f (filter (is_flagged old) (down_from m))) (omega arith)

-- a place more, without the flag
pub places-push : (flags : List Bool) → 0 < length flags → places_of (flags ++ false ∷ []) ≡ places_of flags
unfolding places_of down_from
places-push flags z =
    ap (λ (n : ℕ). filter test (down_from n)) long ∙ ap (λ b. cond b (suc last ∷ filter test (down_from last)) (filter test (down_from last))) none
    ∙ filter_agree test (is_flagged flags) last (λ q l. get_or-append flags (false ∷ []) false q (omega arith))
  where
    last : ℕ
    last = length flags - 1

    test : ℕ → Bool
    test q = is_flagged (flags ++ false ∷ []) q

    long : length (flags ++ false ∷ []) - 1 ≡ suc (length flags - 1)
    long = let e = length-append flags (false ∷ []) in omega arith

    none : is_flagged (flags ++ false ∷ []) (suc (length flags - 1)) ≡ false
    none =
        let last-is : suc (length flags - 1) ≡ length flags = omega arith in
        ap (λ (q : ℕ). is_flagged (flags ++ false ∷ []) q) last-is ∙ get_or-append_seam flags false [] false

pub flag_push-zero : (flags : List Bool) → 0 < length flags → is_flagged (flags ++ false ∷ []) 0 ≡ is_flagged flags 0
flag_push-zero flags h = get_or-append flags (false ∷ []) false 0 h

-- ---- the first places

pub any-down : (f : ℕ → Bool) (n : ℕ) → any_below f (suc n) ≡ list_any f (down_from n)
unfolding any_below down_from
any-down f zero = refl
any-down f (suc n) = ap (λ b. f (suc n) || b) (any-down f n)

pub any-agree : (f g : ℕ → Bool) (n : ℕ) → ((p : ℕ) → p < n → f p ≡ g p) → any_below f n ≡ any_below g n
unfolding any_below
any-agree f g zero h = refl
any-agree f g (suc n) h = ap (λ b. b || any_below f n) (h n (omega arith)) ∙ ap (λ b. g n || b) (any-agree f g n (λ p l. h p (omega arith)))

pub any-more : (f : ℕ → Bool) (n : ℕ) → any_below f (n + 1) ≡ (f n || any_below f n)
unfolding any_below
any-more f n = ap (any_below f) (next n)
  where
    next : (k : ℕ) → k + 1 ≡ suc k
    next k = omega arith

-- ---- lists of places

pub has-append : (l m : List ℕ) (x : ℕ) → has (l ++ m) x ≡ (has l x || has m x)
has-append [] m x = refl
has-append (y ∷ l) m x = ap (λ b. eqb y x || b) (has-append l m x) ∙ sym (or_assoc (eqb y x) (has l x) (has m x))
  where
    or_assoc : (a b c : Bool) → ((a || b) || c) ≡ (a || (b || c))
    or_assoc true b c = refl
    or_assoc false b c = refl

-- no flag at all
pub flag_none : (n x : ℕ) → is_flagged (Rattle.std.specs.Prelude.replicate n false) x ≡ false
flag_none zero x = refl
flag_none (suc n) zero = refl
flag_none (suc n) (suc x) = flag_none n x

-- a flag written
pub flag_written : (flags : List Bool) (p x : ℕ) (v : Bool) → p < length flags → (x ≡ p → ⊥) → is_flagged (set flags p v) x ≡ is_flagged flags x
flag_written flags p x v h n = get_or-set_other flags p x v false n

pub flag_here : (flags : List Bool) (p : ℕ) (v : Bool) → p < length flags → is_flagged (set flags p v) p ≡ v
flag_here flags p v h = get_or-set_same flags p v false h
