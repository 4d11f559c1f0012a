-- What is proved of the definitions: the opcodes that are found from left to right are those of the grammar, and no others are.
use Rattle.std.proofs.Common.{◌≡◌, inl, inr, ℕ, zero, suc, ◌+◌, ◌<◌, ◌≤◌, ◌^◌, List, [], ◌∷◌, ◌++◌, Option, Some, None, length, take, drop, refl, sym, ap, ◌∙◌, subst, ⊎_elim, length-append, length-drop, append_assoc, add-one, zero-add, arith}
use Rattle.std.specs.Option.{option_and_then}
use Rattle.std.specs.Prelude.{nat_lt, slice_index, if◌then◌else◌}
use Rattle.std.specs.List.{concat}
use Rattle.std.specs.Int.{w16, w32, to_le_bytes, from_le_bytes}
use Rattle.std.proofs.lemmas.Bool.{cases_lt}
use Rattle.std.proofs.lemmas.List.{take_at, drop_at, take-append-drop}
use Rattle.std.proofs.lemmas.Nat.{from_le_bytes-to_le_bytes_2, from_le_bytes-to_le_bytes_4, le_bytes_2, le_bytes_4}
use Rattle.std.proofs.lemmas.Grind.{common_steps}
use Rattle.std.proofs.Math.Seq.{drop-append-add}
use borrow.Author.Tests.{lt-ltb, le-ltb, ne_eqb}
use Rattle.wire.specs.Grammar.{IsBytes}
use Rattle.wire.specs.laws.Reader.{IsBytes-take, IsBytes-after}
use Rattle.script.specs.Op.{op_pushdata1, op_pushdata2, op_pushdata4, number_of, pushed_of}
use Rattle.script.specs.laws.Grammar.{IsOp, Spells, BeginsNone}
use Rattle.script.specs.Ops.{operand_len, within, op_len, cut_first, ops_within, ops, rest}
use Rattle.script.specs.laws.Grammar.{Splits}

-- ---- an opcode of the grammar is found
some_same : {A : Type 0} {x y : A} → Some x ≡ Some y → x ≡ y
some_same e = cc

whole : (b : ℕ) (tail more : List ℕ) → operand_len b (tail ++ more) ≡ Some (length tail) → op_len ((b ∷ tail) ++ more) ≡ Some (length (b ∷ tail))
whole b tail more e =
    let long = length-append tail more in
    rw (e, le-ltb (length (tail ++ more)) (length tail) (omega arith)) (ap Some (add-one (length tail)))

-- so many bytes for a length that is given, and that many bytes
abbrev pub sized_len : ℕ → List ℕ → ℕ → Option ℕ
sized_len width bytes len = if nat_lt (length bytes) width then None else Some (width + len)

pub operand_1 : (bytes : List ℕ) → operand_len op_pushdata1 bytes ≡ sized_len 1 bytes (slice_index bytes 0)
unfolding operand_len
operand_1 [] = refl
operand_1 (a ∷ bytes) = ap (sized_len 1 (a ∷ bytes)) (omega arith)

pub operand_2 : (bytes : List ℕ) → operand_len op_pushdata2 bytes ≡ sized_len 2 bytes (from_le_bytes w16 (take 2 bytes))
unfolding operand_len
operand_2 [] = refl
operand_2 (a ∷ []) = refl
operand_2 (a ∷ b ∷ bytes) = ap (sized_len 2 (a ∷ b ∷ bytes)) (omega arith)

pub operand_4 : (bytes : List ℕ) → operand_len op_pushdata4 bytes ≡ sized_len 4 bytes (from_le_bytes w32 (take 4 bytes))
unfolding operand_len
operand_4 bytes = refl

sized-again : (w n : ℕ) (bytes : List ℕ) → w ≤ length bytes → sized_len w bytes n ≡ Some (w + n)
sized-again w n bytes h = rw (le-ltb (length bytes) w h) refl

pub direct-again : (n : ℕ) (bytes : List ℕ) → n < 76 → operand_len n bytes ≡ Some n
unfolding operand_len
direct-again n bytes h = rw (lt-ltb n 76 h) refl

one-again : (bytes more : List ℕ) → operand_len op_pushdata1 ((length bytes ∷ bytes) ++ more) ≡ Some (length (length bytes ∷ bytes))
unfolding operand_len
one-again bytes more = operand_1 ((length bytes ∷ bytes) ++ more) ∙ sized-again 1 (length bytes) ((length bytes ∷ bytes) ++ more) (omega arith) ∙ ap Some (omega arith)

two-again : (bytes more : List ℕ) → length bytes < 2 ^ 16 → operand_len op_pushdata2 ((to_le_bytes w16 (length bytes) ++ bytes) ++ more) ≡ Some (length (to_le_bytes w16 (length bytes) ++ bytes))
unfolding operand_len
two-again bytes more h =
    operand_2 ((to_le_bytes w16 (length bytes) ++ bytes) ++ more)
    ∙ ap (sized_len 2 ((to_le_bytes w16 (length bytes) ++ bytes) ++ more)) (from_le_bytes-to_le_bytes_2 (length bytes) h)
    ∙ sized-again 2 (length bytes) ((to_le_bytes w16 (length bytes) ++ bytes) ++ more) (omega arith) ∙ ap Some (omega arith)

four-again : (bytes more : List ℕ) → length bytes < 2 ^ 32 → operand_len op_pushdata4 ((to_le_bytes w32 (length bytes) ++ bytes) ++ more) ≡ Some (length (to_le_bytes w32 (length bytes) ++ bytes))
unfolding operand_len
four-again bytes more h =
    ap (sized_len 4 ((to_le_bytes w32 (length bytes) ++ bytes) ++ more)) (from_le_bytes-to_le_bytes_4 (length bytes) h)
    ∙ sized-again 4 (length bytes) ((to_le_bytes w32 (length bytes) ++ bytes) ++ more) (omega arith) ∙ ap Some (omega arith)

pub bare-again : (b : ℕ) (more : List ℕ) → 78 < b → operand_len b more ≡ Some 0
unfolding operand_len
bare-again b more h = rw (le-ltb b 76 (omega arith), ne_eqb b 76 (λ e. omega arith), ne_eqb b 77 (λ e. omega arith), ne_eqb b 78 (λ e. omega arith)) refl

spelled-again : (number : ℕ) (pushed op more : List ℕ) → Spells number pushed op → op_len (op ++ more) ≡ Some (length op)
spelled-again number pushed op more h =
    let P : List ℕ → Type 0 = λ o. op_len (o ++ more) ≡ Some (length o) in
    ⊎_elim (λ d. subst P (sym d.2) (whole number pushed more (direct-again number (pushed ++ more) d.0 ∙ ap Some (sym d.1))))
    (λ h'. ⊎_elim
    (λ s. ⊎_elim (λ a. subst P (sym a.2) (whole 76 (length pushed ∷ pushed) more (one-again pushed more)))
    (λ s'. ⊎_elim (λ a. subst P (sym a.2) (whole 77 (to_le_bytes w16 (length pushed) ++ pushed) more (two-again pushed more a.1)))
    (λ a. subst P (sym a.2) (whole 78 (to_le_bytes w32 (length pushed) ++ pushed) more (four-again pushed more a.1))) s') s)
    (λ b. subst P (sym b.2) (whole number [] more (bare-again number more b.0))) h') h

pub op-again : (op more : List ℕ) → IsOp op → op_len (op ++ more) ≡ Some (length op)
op-again op more h = spelled-again h.0 h.1 op more h.2

-- ---- what is found is an opcode of the grammar
within-some : (bytes : List ℕ) (n k : ℕ) → within bytes n ≡ Some k → (n ≤ length bytes) × (k ≡ n + 1)
within-some bytes n k e =
    ⊎_elim (λ short. let f = rw (lt-ltb (length bytes) n short) at e in cc)
    (λ long. let f = rw (le-ltb (length bytes) n long) at e in (long, cc)) (cases_lt (length bytes) n)

then-some : (bytes : List ℕ) (o : Option ℕ) (k : ℕ) → option_and_then (within bytes) o ≡ Some k → (n : ℕ) × (o ≡ Some n) × (n ≤ length bytes) × (k ≡ n + 1)
then-some bytes None k e = cc
then-some bytes (Some n) k e = let h = within-some bytes n k e in (n, refl, h.0, h.1)

sized-some : (w m : ℕ) (bytes : List ℕ) (n : ℕ) → sized_len w bytes m ≡ Some n → (w ≤ length bytes) × (n ≡ w + m)
sized-some w m bytes n e =
    ⊎_elim (λ short. let f = rw (lt-ltb (length bytes) w short) at e in cc)
    (λ long. let f = rw (le-ltb (length bytes) w long) at e in (long, cc)) (cases_lt (length bytes) w)

pub take_more-front : (w m : ℕ) (bytes : List ℕ) → w ≤ length bytes → take (w + m) bytes ≡ take w bytes ++ take m (drop w bytes)
take_more-front zero m bytes h = ap (λ j. take j bytes) (zero-add m)
take_more-front (suc w) m [] h = absurd (omega arith)
take_more-front (suc w) m (b ∷ bytes) h =
    let more : suc w + m ≡ suc (w + m) = omega arith in
    rw more (ap (λ t. b ∷ t) (take_more-front w m bytes (omega arith)))

pub drop_more-front : (w m : ℕ) (bytes : List ℕ) → w ≤ length bytes → drop (w + m) bytes ≡ drop m (drop w bytes)
drop_more-front zero m bytes h = ap (λ j. drop j bytes) (zero-add m)
drop_more-front (suc w) m [] h = absurd (omega arith)
drop_more-front (suc w) m (b ∷ bytes) h =
    let more : suc w + m ≡ suc (w + m) = omega arith in
    rw more (drop_more-front w m bytes (omega arith))

pub length_taken : (m : ℕ) (bytes : List ℕ) → m ≤ length bytes → length (take m bytes) ≡ m
length_taken m bytes h = grind (arith, common_steps)

op-76 : (bytes : List ℕ) (n : ℕ) → IsBytes bytes → operand_len op_pushdata1 bytes ≡ Some n → n ≤ length bytes → IsOp (76 ∷ take n bytes)
unfolding operand_len
op-76 [] n fits e long = absurd (omega (arith, (sized-some 1 0 [] n (sym (operand_1 []) ∙ e)).0))
op-76 (m ∷ more) n fits e long =
    let h = sized-some 1 m (m ∷ more) n (sym (operand_1 (m ∷ more)) ∙ e) in
    let same : n ≡ suc m = omega (arith, h.1) in
    let cut : take n (m ∷ more) ≡ m ∷ take m more = ap (λ j. take j (m ∷ more)) same in
    let many : length (take m more) ≡ m = length_taken m more (omega arith) in
    (76, take m more, inr (inl (inl (refl, omega (arith, fits 0), ap (λ t. 76 ∷ t) (cut ∙ ap (λ j. j ∷ take m more) (sym many))))))

op-77 : (bytes : List ℕ) (n : ℕ) → IsBytes bytes → operand_len op_pushdata2 bytes ≡ Some n → n ≤ length bytes → IsOp (77 ∷ take n bytes)
unfolding operand_len
op-77 bytes n fits e long =
    let m = from_le_bytes w16 (take 2 bytes) in
    let h = sized-some 2 m bytes n (sym (operand_2 bytes) ∙ e) in
    let front = length_taken 2 bytes h.0 in
    let in_range = IsBytes-take 2 bytes fits in
    let below : m < 2 ^ 16 = omega (arith, in_range 0, in_range 1) in
    let many : length (take m (drop 2 bytes)) ≡ m = length_taken m (drop 2 bytes) (omega (arith, length-drop 2 bytes)) in
    let spelled : to_le_bytes w16 (length (take m (drop 2 bytes))) ≡ take 2 bytes = ap (to_le_bytes w16) many ∙ le_bytes_2 (take 2 bytes) m front in_range refl in
    (77, take m (drop 2 bytes), inr (inl (inr (inl (refl, omega arith, ap (λ t. 77 ∷ t) (ap (λ j. take j bytes) h.1 ∙ take_more-front 2 m bytes h.0 ∙ ap (λ t. t ++ take m (drop 2 bytes)) (sym spelled)))))))

op-78 : (bytes : List ℕ) (n : ℕ) → IsBytes bytes → operand_len op_pushdata4 bytes ≡ Some n → n ≤ length bytes → IsOp (78 ∷ take n bytes)
unfolding operand_len
op-78 bytes n fits e long =
    let m = from_le_bytes w32 (take 4 bytes) in
    let h = sized-some 4 m bytes n e in
    let front = length_taken 4 bytes h.0 in
    let in_range = IsBytes-take 4 bytes fits in
    let below : m < 2 ^ 32 = omega (arith, in_range 0, in_range 1, in_range 2, in_range 3) in
    let many : length (take m (drop 4 bytes)) ≡ m = length_taken m (drop 4 bytes) (omega (arith, length-drop 4 bytes)) in
    let spelled : to_le_bytes w32 (length (take m (drop 4 bytes))) ≡ take 4 bytes = ap (to_le_bytes w32) many ∙ le_bytes_4 (take 4 bytes) m front in_range refl in
    (78, take m (drop 4 bytes), inr (inl (inr (inr (refl, omega arith, ap (λ t. 78 ∷ t) (ap (λ j. take j bytes) h.1 ∙ take_more-front 4 m bytes h.0 ∙ ap (λ t. t ++ take m (drop 4 bytes)) (sym spelled)))))))

sized-op : (b : ℕ) (bytes : List ℕ) (n : ℕ) → IsBytes bytes → 76 ≤ b → b < 79 → operand_len b bytes ≡ Some n → n ≤ length bytes → IsOp (b ∷ take n bytes)
sized-op b bytes n fits low high e long =
    let P : ℕ → Type 0 = λ c. operand_len c bytes ≡ Some n → IsOp (c ∷ take n bytes) in
    ⊎_elim (λ h. let is : 76 ≡ b = omega arith in subst P is (λ f. op-76 bytes n fits f long) e)
    (λ h. ⊎_elim (λ i. let is : 77 ≡ b = omega arith in subst P is (λ f. op-77 bytes n fits f long) e)
    (λ i. let is : 78 ≡ b = omega arith in subst P is (λ f. op-78 bytes n fits f long) e) (cases_lt b 78)) (cases_lt b 77)

pub op-found : (bytes : List ℕ) (k : ℕ) → IsBytes bytes → op_len bytes ≡ Some k → IsOp (take k bytes)
op-found [] k fits e = cc
op-found (b ∷ bytes) k fits e =
    let h = then-some bytes (operand_len b bytes) k e in
    let n = h.0 in
    let cut : take k (b ∷ bytes) ≡ b ∷ take n bytes = ap (λ j. take j (b ∷ bytes)) (h.3 ∙ add-one n) in
    subst IsOp (sym cut) (⊎_elim
    (λ direct. let same : b ≡ n = some_same (sym (direct-again b bytes direct) ∙ h.1) in
    (b, take n bytes, inl (direct, length_taken n bytes h.2 ∙ sym same, refl)))
    (λ later. ⊎_elim
    (λ is_sized. sized-op b bytes n (λ i. fits (suc i)) later is_sized h.1 h.2)
    (λ bare. let none : n ≡ 0 = some_same (sym h.1 ∙ bare-again b bytes bare) in (b, [], inr (inr (bare, refl, ap (λ j. b ∷ take j bytes) none))))
    (cases_lt b 79))
    (cases_lt b 76))

-- where none is found, none stands there
pub none-found : (bytes : List ℕ) → op_len bytes ≡ None → BeginsNone bytes
none-found bytes e op more h w = let f = op-again op more h in let g : op_len bytes ≡ Some (length op) = ap op_len w ∙ f in cc

-- ---- the list of the opcodes
pub op_len_positive : (bytes : List ℕ) (k : ℕ) → op_len bytes ≡ Some k → 0 < k
op_len_positive [] k e = cc
op_len_positive (b ∷ bytes) k e = let h = then-some bytes (operand_len b bytes) k e in omega (arith, h.3)

pub op_len_bound : (bytes : List ℕ) (k : ℕ) → op_len bytes ≡ Some k → k ≤ length bytes
op_len_bound [] k e = cc
op_len_bound (b ∷ bytes) k e = let h = then-some bytes (operand_len b bytes) k e in omega (arith, h.2, h.3)

cut-same : (f g : List ℕ → List (List ℕ)) (bytes : List ℕ) (o : Option ℕ) → ((k : ℕ) → o ≡ Some k → f (drop k bytes) ≡ g (drop k bytes)) → cut_first f bytes o ≡ cut_first g bytes o
cut-same f g bytes None h = refl
cut-same f g bytes (Some k) h = ap (λ others. take k bytes ∷ others) (h k refl)

ops_fuel : (f g : ℕ) (bytes : List ℕ) → length bytes ≤ f → length bytes ≤ g → ops_within f bytes ≡ ops_within g bytes
ops_fuel zero zero bytes p q = refl
ops_fuel zero (suc g) [] p q = refl
ops_fuel zero (suc g) (b ∷ bytes) p q = absurd (omega arith)
ops_fuel (suc f) zero [] p q = refl
ops_fuel (suc f) zero (b ∷ bytes) p q = absurd (omega arith)
ops_fuel (suc f) (suc g) bytes p q =
    cut-same (ops_within f) (ops_within g) bytes (op_len bytes) (λ k e.
    let above = op_len_positive bytes k e in
    ops_fuel f g (drop k bytes) (omega (arith, length-drop k bytes)) (omega (arith, length-drop k bytes)))

-- a whole opcode at the front is the first, and the others are those of what follows
pub ops-more : (bytes op more : List ℕ) → op_len bytes ≡ Some (length op) → bytes ≡ op ++ more → ops bytes ≡ op ∷ ops more
unfolding ops
ops-more [] op more e w = cc
ops-more (b ∷ bytes) op more e w =
    let front : take (length op) (b ∷ bytes) ≡ op = ap (take (length op)) w ∙ take_at op more (length op) refl in
    let back : drop (length op) (b ∷ bytes) ≡ more = ap (drop (length op)) w ∙ drop_at op more (length op) refl in
    let above = op_len_positive (b ∷ bytes) (length op) e in
    let long = ap length w ∙ length-append op more in
    rw (e, front, back) (ap (λ others. op ∷ others) (ops_fuel (length bytes) (length more) more (omega arith) (omega arith)))

-- without one there are none
pub ops-none : (bytes : List ℕ) → op_len bytes ≡ None → ops bytes ≡ []
unfolding ops
ops-none [] e = refl
ops-none (b ∷ bytes) e = rw e refl

pub rest-more : (bytes op more : List ℕ) → ops bytes ≡ op ∷ ops more → bytes ≡ op ++ more → rest bytes ≡ rest more
unfolding rest
rest-more bytes op more e w =
    ap (λ list. drop (length (concat list)) bytes) e
    ∙ ap (λ n. drop n bytes) (length-append op (concat (ops more)))
    ∙ ap (drop (length op + length (concat (ops more)))) w
    ∙ drop-append-add op more (length (concat (ops more)))

pub rest-none : (bytes : List ℕ) → ops bytes ≡ [] → rest bytes ≡ bytes
unfolding rest
rest-none bytes e = ap (λ list. drop (length (concat list)) bytes) e

-- ---- the script is split, and in one way
splits-none : (bytes : List ℕ) → op_len bytes ≡ None → Splits bytes (ops bytes) (rest bytes)
splits-none bytes e =
    let none = ops-none bytes e in
    rw (rest-none bytes none, none) (record { whole = refl; each = tt; cut = none-found bytes e })

splits-more : (bytes op more : List ℕ) → op_len bytes ≡ Some (length op) → bytes ≡ op ++ more → IsOp op → Splits more (ops more) (rest more) → Splits bytes (ops bytes) (rest bytes)
splits-more bytes op more e w is s =
    let first = ops-more bytes op more e w in
    rw (rest-more bytes op more first w, first) (record {
      whole = w ∙ ap (λ t. op ++ t) s.whole ∙ sym (append_assoc op (concat (ops more)) (rest more));
      each = (is, s.each);
      cut = s.cut;
    })

splits-at : (bytes : List ℕ) (o : Option ℕ) → op_len bytes ≡ o → IsBytes bytes → ((more : List ℕ) → length more < length bytes → IsBytes more → Splits more (ops more) (rest more)) → Splits bytes (ops bytes) (rest bytes)
splits-at bytes None e fits next = splits-none bytes e
splits-at bytes (Some k) e fits next =
    let above = op_len_positive bytes k e in
    let below = op_len_bound bytes k e in
    let cut = sym (take-append-drop k bytes) in
    splits-more bytes (take k bytes) (drop k bytes) (e ∙ ap Some (sym (length_taken k bytes below))) cut (op-found bytes k fits e)
    (next (drop k bytes) (omega (arith, length-drop k bytes)) (IsBytes-after bytes (take k bytes) (drop k bytes) cut fits))

splits-by : (n : ℕ) (bytes : List ℕ) → length bytes < n → IsBytes bytes → Splits bytes (ops bytes) (rest bytes)
splits-by zero bytes h fits = absurd (omega arith)
splits-by (suc n) bytes h fits = splits-at bytes (op_len bytes) refl fits (λ more shorter. splits-by n more (omega arith))

pub splits : (script : List ℕ) → IsBytes script → Splits script (ops script) (rest script)
splits script fits = splits-by (suc (length script)) script (omega arith) fits

pub none-again : (bytes : List ℕ) → IsBytes bytes → BeginsNone bytes → op_len bytes ≡ None
none-again bytes fits h = none-by (op_len bytes) refl
  where
    none-by : (o : Option ℕ) → op_len bytes ≡ o → op_len bytes ≡ None
    none-by None e = e
    none-by (Some k) e = absurd (h (take k bytes) (drop k bytes) (op-found bytes k fits e) (sym (take-append-drop k bytes)))

ops-alone : (list : List (List ℕ)) (script left : List ℕ) → IsBytes script → Splits script list left → ops script ≡ list
ops-alone [] script left fits r = ops-none script (none-again script fits (subst BeginsNone (sym r.whole) r.cut))
ops-alone (op ∷ list) script left fits r =
    let others = concat list ++ left in
    let split : script ≡ op ++ others = r.whole ∙ append_assoc op (concat list) left in
    let found : op_len script ≡ Some (length op) = ap op_len split ∙ op-again op others r.each.0 in
    ops-more script op others found split ∙ ap (λ x. op ∷ x) (ops-alone list others left (IsBytes-after script op others split fits) (record { whole = refl; each = r.each.1; cut = r.cut }))

pub alone : (script left : List ℕ) (list : List (List ℕ)) → IsBytes script → Splits script list left → (ops script ≡ list) × (rest script ≡ left)
unfolding rest
alone script left list fits r =
    let same = ops-alone list script left fits r in
    (same, ap (λ l. drop (length (concat l)) script) same ∙ ap (drop (length (concat list))) r.whole ∙ drop_at (concat list) left (length (concat list)) refl)

-- ---- an opcode's bytes tell its number and what it pushes
pub number-spelled : (number : ℕ) (pushed op : List ℕ) → Spells number pushed op → number_of op ≡ number
number-spelled number pushed op h =
    ⊎_elim (λ d. ap number_of d.2)
    (λ h'. ⊎_elim
    (λ s. ⊎_elim (λ a. ap number_of a.2 ∙ sym a.0)
    (λ s'. ⊎_elim (λ a. ap number_of a.2 ∙ sym a.0) (λ a. ap number_of a.2 ∙ sym a.0) s') s)
    (λ b. ap number_of b.2) h') h

direct-pushes : (number : ℕ) (pushed : List ℕ) → number < 76 → pushed_of (number ∷ pushed) ≡ pushed
unfolding pushed_of
direct-pushes number pushed h = rw (lt-ltb number 76 h) refl

bare-pushes : (number : ℕ) → 78 < number → pushed_of (number ∷ []) ≡ []
unfolding pushed_of
bare-pushes number h = rw (le-ltb number 76 (omega arith), ne_eqb number 76 (λ e. omega arith), ne_eqb number 77 (λ e. omega arith), ne_eqb number 78 (λ e. omega arith)) refl

sized-pushes : (pushed : List ℕ) → (pushed_of (76 ∷ length pushed ∷ pushed) ≡ pushed) × (pushed_of (77 ∷ (to_le_bytes w16 (length pushed) ++ pushed)) ≡ pushed) × (pushed_of (78 ∷ (to_le_bytes w32 (length pushed) ++ pushed)) ≡ pushed)
unfolding pushed_of
sized-pushes pushed = (refl, refl, refl)

pub pushed-spelled : (number : ℕ) (pushed op : List ℕ) → Spells number pushed op → pushed_of op ≡ pushed
pushed-spelled number pushed op h =
    let s = sized-pushes pushed in
    ⊎_elim (λ d. ap pushed_of d.2 ∙ direct-pushes number pushed d.0)
    (λ h'. ⊎_elim
    (λ a. ⊎_elim (λ b. ap pushed_of b.2 ∙ s.0)
    (λ a'. ⊎_elim (λ b. ap pushed_of b.2 ∙ s.1) (λ b. ap pushed_of b.2 ∙ s.2) a') a)
    (λ b. ap pushed_of b.2 ∙ bare-pushes number b.0 ∙ sym b.1) h') h

pub ruleset op_rules = (ops-more, ops-none, rest-none)
