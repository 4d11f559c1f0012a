-- What stands in the parts stands in the whole.
use Rattle.std.proofs.Common.{◌≡◌, ℕ, zero, suc, ◌+◌, ◌-◌, ◌<◌, ◌≤◌, Bool, true, false, ◌&&◌, ◌||◌, cond, eqb, List, [], ◌∷◌, ◌++◌, length, get_or, set, Some, None, refl, sym, ap, ◌∙◌, ⊎_elim, arith, rules}
use Rattle.std.specs.Ordering.{eq_by_cmp}
use Rattle.std.specs.FinSet as sets
use Rattle.std.proofs.lemmas.Bool.{cases_eq}
use borrow.Author.Tests.{ne_eqb}
use Rattle.signatures.specs.Known.{Verdicts, verdict_in, with_verdict}
use Rattle.signatures.specs.Triple.{Triple, Triples, triple_cmp}
use Rattle.signatures.specs.laws.Growth.{one-same}
use Rattle.signatures.specs.laws.Members.{same-members}
use Rattle.signatures.specs.laws.Order.{triple_cmp-total, triple_cmp-exact}
use Rattle.signatures.specs.inside.Parts.{part_of, own, all_from, whole, nothing, part_at}

-- one that belongs to a part stands there just as in it
in-own : (n : ℕ) (triples : Triples) (t : Triple) → sets.contains (own n triples) t ≡ (sets.contains triples t && eqb (part_of t) n)
in-own n triples t = sets.contains-retain triples (λ t. eqb (part_of t) n) t (λ x tied. ap (λ (q : Triple). eqb (part_of q) n) (sym (triple_cmp-exact t x tied)))

and-false : (b : Bool) → (b && false) ≡ false
and-false true = refl
and-false false = refl

or-false : (b : Bool) → (b || false) ≡ b
or-false true = refl
or-false false = refl

and-true : (b : Bool) → (b && true) ≡ b
and-true true = refl
and-true false = refl

same-number : (n : ℕ) → eqb n n ≡ true
same-number n = let same : eqb n n ≡ true = grind (arith, rules) in same

module _ (f : Verdicts → Triples) (none : (t : Triple) → sets.contains (f nothing) t ≡ false) where
  -- those of later parts aren't there
  not-later : (n : ℕ) (parts : List Verdicts) (t : Triple) → part_of t < n → sets.contains (all_from f n parts) t ≡ false
  not-later n [] t low = sets.contains-empty triple_cmp t
  not-later n (part ∷ parts) t low =
      sets.contains-union triple_cmp-total (own n (f part)) (all_from f (n + 1) parts) t
      ∙ ap (λ b. b || sets.contains (all_from f (n + 1) parts) t) (in-own n (f part) t ∙ ap (λ b. sets.contains (f part) t && b) (ne_eqb (part_of t) n (λ e. omega (arith, low, e))) ∙ and-false (sets.contains (f part) t))
      ∙ not-later (n + 1) parts t (omega (arith, low))

  from : (n : ℕ) (parts : List Verdicts) (t : Triple) → n ≤ part_of t → sets.contains (all_from f n parts) t ≡ sets.contains (f (part_at parts (part_of t - n))) t
  from n [] t high = sets.contains-empty triple_cmp t ∙ sym (none t)
  from n (part ∷ parts) t high = ⊎_elim
      (λ (e : part_of t ≡ n).
      let first : part_of t - n ≡ 0 = omega (arith, e) in
      sets.contains-union triple_cmp-total (own n (f part)) (all_from f (n + 1) parts) t
      ∙ ap (λ b. b || sets.contains (all_from f (n + 1) parts) t) (in-own n (f part) t ∙ ap (λ b. sets.contains (f part) t && b) (ap (λ m. eqb m n) e ∙ same-number n) ∙ and-true (sets.contains (f part) t))
      ∙ ap (λ b. sets.contains (f part) t || b) (not-later (n + 1) parts t (omega (arith, e))) ∙ or-false (sets.contains (f part) t)
      ∙ ap (λ m. sets.contains (f (part_at (part ∷ parts) m)) t) (sym first))
      (λ (ne : part_of t ≡ n → ⊥).
      let more : part_of t - n ≡ suc (part_of t - (n + 1)) = omega (arith, high, ne) in
      sets.contains-union triple_cmp-total (own n (f part)) (all_from f (n + 1) parts) t
      ∙ ap (λ b. b || sets.contains (all_from f (n + 1) parts) t) (in-own n (f part) t ∙ ap (λ b. sets.contains (f part) t && b) (ne_eqb (part_of t) n ne) ∙ and-false (sets.contains (f part) t))
      ∙ from (n + 1) parts t (omega (arith, high, ne))
      ∙ ap (λ m. sets.contains (f (part_at (part ∷ parts) m)) t) (sym more))
      (cases_eq (part_of t) n)

  pub in-whole : (parts : List Verdicts) (t : Triple) → sets.contains (all_from f 0 parts) t ≡ sets.contains (f (part_at parts (part_of t))) t
  in-whole parts t = let all : part_of t - 0 ≡ part_of t = omega arith in from 0 parts t (omega arith) ∙ ap (λ m. sets.contains (f (part_at parts m)) t) all

none-valid : (t : Triple) → sets.contains nothing.valid t ≡ false
none-valid t = sets.contains-empty triple_cmp t

pub valid-in : (parts : List Verdicts) (t : Triple) → sets.contains (whole parts).valid t ≡ sets.contains (part_at parts (part_of t)).valid t
valid-in parts t = in-whole (λ part. part.valid) none-valid parts t

pub invalid-in : (parts : List Verdicts) (t : Triple) → sets.contains (whole parts).invalid t ≡ sets.contains (part_at parts (part_of t)).invalid t
invalid-in parts t = in-whole (λ part. part.invalid) none-valid parts t

-- the verdict of the part is that of the whole
pub verdict-in : (parts : List Verdicts) (t : Triple) → verdict_in (part_at parts (part_of t)) t ≡ verdict_in (whole parts) t
verdict-in parts t =
    ap (λ b. cond b (Some true) (cond (sets.contains (part_at parts (part_of t)).invalid t) (Some false) None)) (sym (valid-in parts t))
    ∙ ap (λ b. cond (sets.contains (whole parts).valid t) (Some true) (cond b (Some false) None)) (sym (invalid-in parts t))

-- ---- a part more
more-parts : (parts : List Verdicts) (k : ℕ) → part_at (parts ++ nothing ∷ []) k ≡ part_at parts k
more-parts [] zero = refl
more-parts [] (suc k) = refl
more-parts (p ∷ parts) zero = refl
more-parts (p ∷ parts) (suc k) = more-parts parts k

pub whole-longer : (parts : List Verdicts) → whole (parts ++ nothing ∷ []) ≡ whole parts
whole-longer parts = λ i. record {
  valid = same-members (whole (parts ++ nothing ∷ [])).valid (whole parts).valid (λ t. valid-in (parts ++ nothing ∷ []) t ∙ ap (λ (v : Verdicts). sets.contains v.valid t) (more-parts parts (part_of t)) ∙ sym (valid-in parts t)) i;
  invalid = same-members (whole (parts ++ nothing ∷ [])).invalid (whole parts).invalid (λ t. invalid-in (parts ++ nothing ∷ []) t ∙ ap (λ (v : Verdicts). sets.contains v.invalid t) (more-parts parts (part_of t)) ∙ sym (invalid-in parts t)) i;
}

-- ---- one more
at-set : (parts : List Verdicts) (k : ℕ) (v : Verdicts) → k < length parts → part_at (set parts k v) k ≡ v
at-set [] k v low = absurd (omega (arith, low))
at-set (p ∷ parts) zero v low = refl
at-set (p ∷ parts) (suc k) v low = at-set parts k v (omega (arith, low))

not-at-set : (parts : List Verdicts) (k j : ℕ) (v : Verdicts) → (j ≡ k → ⊥) → part_at (set parts k v) j ≡ part_at parts j
not-at-set [] k j v ne = refl
not-at-set (p ∷ parts) zero zero v ne = absurd (ne refl)
not-at-set (p ∷ parts) zero (suc j) v ne = refl
not-at-set (p ∷ parts) (suc k) zero v ne = refl
not-at-set (p ∷ parts) (suc k) (suc j) v ne = not-at-set parts k j v (λ e. ne (ap (λ n. suc n) e))

module _ (parts : List Verdicts) (t : Triple) (there : part_of t < length parts) where
  k : ℕ
  k = part_of t

  -- a triple of another part isn't this one
  other : (q : Triple) → (part_of q ≡ part_of t → ⊥) → eq_by_cmp triple_cmp q t ≡ false
  other q ne = by (eq_by_cmp triple_cmp q t) refl
    where
      by : (b : Bool) → eq_by_cmp triple_cmp q t ≡ b → b ≡ false
      by true e = absurd (ne (ap (λ (x : Triple). part_of x) (one-same q t e)))
      by false e = refl

  -- the set of each part after one more triple in its part
  module _ (f : Verdicts → Triples) (none : (q : Triple) → sets.contains (f nothing) q ≡ false) (v : Verdicts) (put : f v ≡ sets.insert (f (part_at parts (part_of t))) t) where
    more-in : (q : Triple) → sets.contains (all_from f 0 (set parts (part_of t) v)) q ≡ sets.contains (sets.insert (all_from f 0 parts) t) q
    more-in q = ⊎_elim
        (λ (e : part_of q ≡ part_of t).
        in-whole f none (set parts (part_of t) v) q
        ∙ ap (λ n. sets.contains (f (part_at (set parts (part_of t) v) n)) q) e
        ∙ ap (λ (p : Verdicts). sets.contains (f p) q) (at-set parts (part_of t) v there)
        ∙ ap (λ (s : Triples). sets.contains s q) put
        ∙ sets.contains-insert triple_cmp-total (f (part_at parts (part_of t))) t q
        ∙ ap (λ n. eq_by_cmp triple_cmp q t || sets.contains (f (part_at parts n)) q) (sym e)
        ∙ ap (λ b. eq_by_cmp triple_cmp q t || b) (sym (in-whole f none parts q))
        ∙ sym (sets.contains-insert triple_cmp-total (all_from f 0 parts) t q))
        (λ (ne : part_of q ≡ part_of t → ⊥).
        in-whole f none (set parts (part_of t) v) q
        ∙ ap (λ (p : Verdicts). sets.contains (f p) q) (not-at-set parts (part_of t) (part_of q) v ne)
        ∙ sym (in-whole f none parts q)
        ∙ ap (λ b. b || sets.contains (all_from f 0 parts) q) (sym (other q ne))
        ∙ sym (sets.contains-insert triple_cmp-total (all_from f 0 parts) t q))
        (cases_eq (part_of q) (part_of t))

  module _ (f : Verdicts → Triples) (none : (q : Triple) → sets.contains (f nothing) q ≡ false) (v : Verdicts) (kept : f v ≡ f (part_at parts (part_of t))) where
    same-in : (q : Triple) → sets.contains (all_from f 0 (set parts (part_of t) v)) q ≡ sets.contains (all_from f 0 parts) q
    same-in q = ⊎_elim
        (λ (e : part_of q ≡ part_of t).
        in-whole f none (set parts (part_of t) v) q
        ∙ ap (λ n. sets.contains (f (part_at (set parts (part_of t) v) n)) q) e
        ∙ ap (λ (p : Verdicts). sets.contains (f p) q) (at-set parts (part_of t) v there)
        ∙ ap (λ (s : Triples). sets.contains s q) kept
        ∙ ap (λ n. sets.contains (f (part_at parts n)) q) (sym e)
        ∙ sym (in-whole f none parts q))
        (λ (ne : part_of q ≡ part_of t → ⊥).
        in-whole f none (set parts (part_of t) v) q
        ∙ ap (λ (p : Verdicts). sets.contains (f p) q) (not-at-set parts (part_of t) (part_of q) v ne)
        ∙ sym (in-whole f none parts q))
        (cases_eq (part_of q) (part_of t))

  pub whole-more : (valid : Bool) → whole (set parts (part_of t) (with_verdict (part_at parts (part_of t)) t valid)) ≡ with_verdict (whole parts) t valid
  whole-more true = λ i. record {
    valid = same-members (all_from (λ p. p.valid) 0 (set parts (part_of t) (with_verdict (part_at parts (part_of t)) t true))) (sets.insert (whole parts).valid t) (more-in (λ p. p.valid) none-valid (with_verdict (part_at parts (part_of t)) t true) refl) i;
    invalid = same-members (all_from (λ p. p.invalid) 0 (set parts (part_of t) (with_verdict (part_at parts (part_of t)) t true))) (whole parts).invalid (same-in (λ p. p.invalid) none-valid (with_verdict (part_at parts (part_of t)) t true) refl) i;
  }
  whole-more false = λ i. record {
    valid = same-members (all_from (λ p. p.valid) 0 (set parts (part_of t) (with_verdict (part_at parts (part_of t)) t false))) (whole parts).valid (same-in (λ p. p.valid) none-valid (with_verdict (part_at parts (part_of t)) t false) refl) i;
    invalid = same-members (all_from (λ p. p.invalid) 0 (set parts (part_of t) (with_verdict (part_at parts (part_of t)) t false))) (sets.insert (whole parts).invalid t) (more-in (λ p. p.invalid) none-valid (with_verdict (part_at parts (part_of t)) t false) refl) i;
  }

-- ---- reading
pub at-read : (parts : List Verdicts) (k : ℕ) (v : Verdicts) → k < length parts → v ≡ get_or parts k v → v ≡ part_at parts k
at-read [] k v low is = absurd (omega (arith, low))
at-read (p ∷ parts) zero v low is = is
at-read (p ∷ parts) (suc k) v low is = at-read parts k v (omega (arith, low)) is

beyond : (parts : List Verdicts) (k : ℕ) → length parts ≤ k → part_at parts k ≡ nothing
beyond [] zero high = refl
beyond [] (suc k) high = refl
beyond (p ∷ parts) zero high = absurd (omega (arith, high))
beyond (p ∷ parts) (suc k) high = beyond parts k (omega (arith, high))

none-in : (t : Triple) → verdict_in nothing t ≡ None
none-in t = ap (λ b. cond b (Some true) (cond b (Some false) None)) (none-valid t)

-- behind the last part nothing is known
pub none-beyond : (parts : List Verdicts) (t : Triple) → length parts ≤ part_of t → None ≡ verdict_in (whole parts) t
none-beyond parts t high = sym (none-in t) ∙ ap (λ (v : Verdicts). verdict_in v t) (sym (beyond parts (part_of t) high)) ∙ verdict-in parts t
