-- What a line adds to a table.
use Rattle.std.proofs.Common.{◌≡◌, ℕ, ◌+◌, ◌<◌, Bool, true, false, ◌||◌, ◌⊎◌, List, [], ◌∷◌, ◌++◌, length, take, drop, get_or, slice_index, codes, refl, sym, ap, ◌∙◌, subst, inl, inr, arith}
use Rattle.std.specs.List.{All, AllPass, Any}
use Rattle.std.specs.Ordering.{eq_by_cmp, is_eq}
use Rattle.std.specs.Cmp.{Equal-is}
use Rattle.std.specs.FinSet as set
use Rattle.std.proofs.lemmas.Bool.{cases_lt, eqb-true}
use Rattle.std.proofs.lemmas.Cmp.{tied_itself}
use Rattle.std.proofs.lemmas.List.{get_or_append_left, get_or_push, length_push, take_more, drop_more, take-append-drop, length-take-le}
use Rattle.std.proofs.lemmas.List.Quantifiers.{Any-push}
use Rattle.hex.proofs.HexLemmas.{decode_of-same}
use Rattle.signatures.specs.Triple.{Triple, Triples, triple_of, triple_cmp}
use Rattle.signatures.specs.laws.Order.{triple_cmp-total, triple_cmp-exact}
use Rattle.signatures.specs.Lines.{words, is_skipped, is_digit, IsHex, StandsFor, Spells, IsReadable, IsTableOf, IsFaultOf, IsLineFault}
use Rattle.signatures.specs.declared.fault.TableFault.{TableFault}
use Rattle.signatures.specs.declared.fault.TableFault.TheVariants.{BadLine, Memory}

no_dash : (bytes : List ℕ) → IsHex (codes "-") bytes → ⊥
no_dash bytes h = cc (h.0 0 0 (omega arith))

-- a word stands for one list of bytes
StandsFor-one : (word a b : List ℕ) → StandsFor word a → StandsFor word b → a ≡ b
StandsFor-one word a b (inl p) (inl q) = p.1 ∙ sym q.1
StandsFor-one word a b (inl p) (inr q) = absurd (no_dash b (rw p.0 at q))
StandsFor-one word a b (inr p) (inl q) = absurd (no_dash a (rw q.0 at p))
StandsFor-one word a b (inr p) (inr q) = decode_of-same word a b p.1 q.1

-- and a line's words spell one triple
pub Spells-one : (ws : List (List ℕ)) (t u : Triple) → Spells ws t → Spells ws u → t ≡ u
Spells-one [] t u p q = absurd p
Spells-one (a ∷ []) t u p q = absurd p
Spells-one (a ∷ b ∷ []) t u p q = absurd p
Spells-one (key ∷ signature ∷ digest ∷ []) t u p q =
    let k = StandsFor-one key t.key u.key p.0 q.0 in
    let s = StandsFor-one signature t.signature u.signature p.1 q.1 in
    let d = decode_of-same digest t.digest u.digest p.2.1.1 q.2.1.1 in
    λ i. triple_of (k i) (s i) (d i)
Spells-one (a ∷ b ∷ c ∷ d ∷ ws) t u p q = absurd p

comment_digits : (word : List ℕ) → slice_index word 0 ≡ 35 → AllPass is_digit word → ⊥
comment_digits [] h all = absurd (omega arith)
comment_digits (c ∷ word) h all = cc (sym (ap is_digit h) ∙ all 0 0 (omega arith))

comment_word : (word bytes : List ℕ) → slice_index word 0 ≡ 35 → StandsFor word bytes → ⊥
comment_word word bytes h (inl p) = let e : slice_index (codes "-") 0 ≡ 35 = rw p.0 at h in absurd (omega arith)
comment_word word bytes h (inr p) = comment_digits word h p.0

-- a skipped line spells none
pub is_skipped-spells : (ws : List (List ℕ)) (t : Triple) → is_skipped ws ≡ true → Spells ws t → ⊥
is_skipped-spells [] t h p = p
is_skipped-spells (a ∷ []) t h p = p
is_skipped-spells (a ∷ b ∷ []) t h p = p
is_skipped-spells (key ∷ signature ∷ digest ∷ []) t h p = comment_word key t.key (eqb-true (slice_index key 0) 35 h) p.0
is_skipped-spells (a ∷ b ∷ c ∷ d ∷ ws) t h p = p

module _ {X : Type 0} (P : X → Type 0) (xs : List X) (y : X) where
  All-push : All P xs → P y → All P (xs ++ y ∷ [])
  All-push all last k d lt = elim (cases_lt k (length xs)) [
    | inl low ↦ rw (get_or_append_left xs (y ∷ []) d k low) (all k d low)
    | inr high ↦ let e : length xs ≡ k = omega (arith, length_push xs y) in rw (get_or_push xs y d k e) last
  ]

  Any-kept : Any P xs → Any P (xs ++ y ∷ [])
  Any-kept any = (any.0, any.1, omega (arith, length_push xs y, any.2), get_or_append_left xs (y ∷ []) any.1 any.0 any.2 ∙ any.3, any.4)

  Any-from_push : Any P (xs ++ y ∷ []) → Any P xs ⊎ P y
  Any-from_push any = elim (cases_lt any.0 (length xs)) [
    | inl low ↦ inl (any.0, any.1, low, sym (get_or_append_left xs (y ∷ []) any.1 any.0 low) ∙ any.3, any.4)
    | inr high ↦ let e : length xs ≡ any.0 = omega (arith, length_push xs y, any.2) in inr (subst P (sym any.3 ∙ get_or_push xs y any.1 any.0 e) any.4)
  ]

-- a table of no lines
pub table_none : IsTableOf [] set.empty
table_none = record {
  readable = λ k d lt. absurd (omega arith);
  triples = λ t. (λ h. cc (sym (set.contains-empty triple_cmp t) ∙ h), λ any. absurd (omega (arith, any.2)));
}

-- a skipped line adds nothing
pub table_skips : (ls : List (List ℕ)) (line : List ℕ) (s : Triples) → IsTableOf ls s → is_skipped (words line) ≡ true → IsTableOf (ls ++ line ∷ []) s
table_skips ls line s is skip = record {
  readable = All-push IsReadable ls line is.readable (inl skip);
  triples = λ t. (
    λ h. Any-kept (λ l. Spells (words l) t) ls line ((is.triples t).0 h),
    λ any. elim (Any-from_push (λ l. Spells (words l) t) ls line any) [
      | inl before ↦ (is.triples t).1 before
      | inr last ↦ absurd (is_skipped-spells (words line) t skip last)
    ],
  );
}

-- another adds its triple
pub table_adds : (ls : List (List ℕ)) (line : List ℕ) (s : Triples) (t : Triple) → IsTableOf ls s → Spells (words line) t → IsTableOf (ls ++ line ∷ []) (set.insert s t)
table_adds ls line s t is spells = record {
  readable = All-push IsReadable ls line is.readable (inr (t, spells));
  triples = λ q. (
    λ h. has q (eq_by_cmp triple_cmp q t) refl (sym (set.contains-insert triple_cmp-total s t q) ∙ h),
    λ any. set.contains-insert triple_cmp-total s t q ∙ elim (Any-from_push (λ l. Spells (words l) q) ls line any) [
      | inl before ↦ ap (λ b. eq_by_cmp triple_cmp q t || b) ((is.triples q).1 before) ∙ or-true (eq_by_cmp triple_cmp q t)
      | inr last ↦
          let same : q ≡ t = Spells-one (words line) q t last spells in
          ap (λ b. b || set.contains s q) (ap (λ u. eq_by_cmp triple_cmp u t) same ∙ ap is_eq (tied_itself triple_cmp-total t))
    ],
  );
}
  where
    or-true : (b : Bool) → (b || true) ≡ true
    or-true true = refl
    or-true false = refl

    has : (q : Triple) (b : Bool) → eq_by_cmp triple_cmp q t ≡ b → (b || set.contains s q) ≡ true → Any (λ l. Spells (words l) q) (ls ++ line ∷ [])
    has q true e h = Any-push (λ l. Spells (words l) q) ls line (subst (Spells (words line)) (sym (triple_cmp-exact q t ((Equal-is (triple_cmp q t)).0 e))) spells)
    has q false e h = Any-kept (λ l. Spells (words l) q) ls line ((is.triples q).0 h)

-- the lines as far as one more
pub one_more : (ls : List (List ℕ)) (n m : ℕ) (line : List ℕ) → (n < length ls) × (line ≡ get_or ls n line) → m ≡ n + 1 → take m ls ≡ take n ls ++ line ∷ []
one_more ls n m line at e = ap (λ k. take k ls) e ∙ take_more ls n line at.0 ∙ ap (λ l. take n ls ++ l ∷ []) (sym at.1)

-- a line that is refused is the first that can't be read
pub fault_from : (ls : List (List ℕ)) (n number : ℕ) (line : List ℕ) (fault : TableFault) → (n < length ls) × (line ≡ get_or ls n line) → number ≡ n + 1 → All IsReadable (take n ls) → IsLineFault line number fault → IsFaultOf ls fault
fault_from ls n number line (BadLine k) at e all refused = record {
  before = take n ls;
  line = line;
  after = drop (n + 1) ls;
  place = sym (take-append-drop n ls) ∙ ap (λ rest. take n ls ++ rest) (drop_more ls n line at.0 ∙ ap (λ l. l ∷ drop (n + 1) ls) (sym at.1));
  number = omega (arith, refused.0, length-take-le n ls (omega arith));
  readable = all;
  bad = refused.1;
}
fault_from ls n number line Memory at e all refused = tt
