-- Reading decides a grammar: what is spelled is read again, whatever follows it, what is faulty is refused
-- with that fault, and all bytes are the one or the other.
use Rattle.std.proofs.Common.{◌≡◌, ◌⊎◌, inl, inr, ℕ, zero, suc, ◌+◌, ◌^◌, ◌/◌, ◌<◌, true, false, ltb, List, [], ◌∷◌, ◌++◌, length, take, drop, Option, Some, None, Result, Ok, Err, refl, sym, ap, subst, ◌∙◌, append_assoc, arith}
use Rattle.std.specs.Prelude.{IfSome, IfOk, IfErr, IsOkAnd}
use Rattle.std.specs.List.{flat_map, AllByRecursion}
use Rattle.std.specs.Int.{w32, w64, cast_signed, cast_unsigned, byte_at, bytes_low_first}
use Rattle.std.proofs.Math.Nat.{mod-lt}
use Rattle.std.proofs.Math.Facts.{Fits-of_z, sfits_to_z}
use Rattle.std.proofs.lemmas.Int.{to_z-of_z, of_z-to_z}
use Rattle.std.proofs.lemmas.Bool.{cases_lt, le-ltb, lt-ltb}
use Rattle.std.proofs.lemmas.List.{append-nil, take_at, drop_at, take-append-drop, length-append, length-take, get_or-drop, get_or-take, get_or_past}
use Rattle.std.proofs.lemmas.List.Concat.{flat_map-cons}
use Rattle.std.proofs.lemmas.Nat.{le_bytes_2, le_bytes_4, le_bytes_8}
use Rattle.byteorder.specs.Endian.{little_number, little_bytes}
use Rattle.byteorder.specs.Numbers.{length-bytes_low_first, little_number-reads_back, little_from-lt}
use Rattle.wire.specs.declared.fault.WireFault.{WireFault}
use Rattle.wire.specs.declared.fault.WireFault.TheVariants.{Short}
use Rattle.wire.specs.Grammar.{IsBytes, Grammar, piece, number, signed32, signed64, pair, after, times, fields}
use Rattle.wire.specs.computed.Reader.{◌>>=◌, Part, Gives, Reads, piece_at, number_at, i32_at, i64_at, many_at}

-- a lawful value stands at the front
pub record Found {A : Type 0} (g : Grammar A) (bytes : List ℕ) : Type 0 where
  pub value : A
  pub rest : List ℕ
  pub lawful : g.Lawful value
  pub parts : bytes ≡ g.spell value ++ rest

pub record Refused {A : Type 0} (g : Grammar A) (bytes : List ℕ) : Type 0 where
  pub fault : WireFault
  pub faulty : g.Faulty fault bytes

pub record Decides {A : Type 0} (g : Grammar A) (part : Part A) : Type 0 where
  pub again : (x : A) (rest : List ℕ) → g.Lawful x → part (g.spell x ++ rest) ≡ Ok (x, rest)
  pub refuses : (fault : WireFault) (bytes : List ℕ) → g.Faulty fault bytes → part bytes ≡ Err fault
  pub total : (bytes : List ℕ) → IsBytes bytes → Found g bytes ⊎ Refused g bytes

-- ---- bytes

pub IsBytes-drop : (n : ℕ) (bytes : List ℕ) → IsBytes bytes → IsBytes (drop n bytes)
IsBytes-drop n bytes h i = rw get_or-drop (h (n + i))

pub IsBytes-take : (n : ℕ) (bytes : List ℕ) → IsBytes bytes → IsBytes (take n bytes)
IsBytes-take n bytes h i =
    elim (cases_lt i n) [
      | inl lt ↦ rw (get_or-take n bytes i 0 lt) (h i)
      | inr le ↦ rw (get_or_past (take n bytes) i 0 (omega (arith, length-take n bytes))) (omega arith)
    ]

pub IsBytes-after : (bytes front rest : List ℕ) → bytes ≡ front ++ rest → IsBytes bytes → IsBytes rest
IsBytes-after bytes front rest e h =
    let k : drop (length front) bytes ≡ rest = ap (drop (length front)) e ∙ drop_at front rest (length front) refl in
    subst IsBytes k (IsBytes-drop (length front) bytes h)

-- ---- n bytes

pub piece_decides : (n : ℕ) → Decides (piece n) (piece_at n)
piece_decides n = record {
  again = λ x rest h.
      let long : ltb (length (x ++ rest)) n ≡ false = le-ltb _ _ (omega (arith, length-append x rest, h.0)) in
      rw (long, take_at x rest n h.0, drop_at x rest n h.0) refl;
  refuses = λ fault bytes h.
      let short : ltb (length bytes) n ≡ true = lt-ltb _ _ h.1 in
      rw (short, h.0) refl;
  total = λ bytes fits. elim (cases_lt (length bytes) n) [
    | inl lt ↦ inr (record { fault = Short; faulty = (refl, lt) })
    | inr le ↦ inl (record {
      value = take n bytes;
      rest = drop n bytes;
      lawful = (omega (arith, length-take n bytes), IsBytes-take n bytes fits);
      parts = sym (take-append-drop n bytes);
    })
  ];
}

-- ---- the same parts, seen as another value

pub mapped_decides : {A B : Type 0} (g : Grammar A) (h : Grammar B) (part : Part A) (to : A → B) (of : B → A) → Decides g part
    → ((y : B) → h.Lawful y → g.Lawful (of y) × (to (of y) ≡ y) × (h.spell y ≡ g.spell (of y)))
    → ((x : A) → g.Lawful x → h.Lawful (to x) × (of (to x) ≡ x))
    → ((fault : WireFault) (bytes : List ℕ) → h.Faulty fault bytes → g.Faulty fault bytes)
    → ((fault : WireFault) (bytes : List ℕ) → g.Faulty fault bytes → h.Faulty fault bytes)
    → Decides h (λ bytes. part bytes >>= λ x. Ok (to x.0, x.1))
mapped_decides {A = A} {B = B} g h part to of d into back more less = record {
  again = λ y rest lawful.
      let k = into y lawful in
      let e : part (h.spell y ++ rest) ≡ Ok (of y, rest) = ap (λ (s : List ℕ). part (s ++ rest)) k.2 ∙ d.again (of y) rest k.0 in
      rw (e, k.1) refl;
  refuses = λ fault bytes faulty. rw (d.refuses fault bytes (more fault bytes faulty)) refl;
  total = λ bytes fits. elim (d.total bytes fits) [
    | inl f ↦
        let k = back f.value f.lawful in
        let s = into (to f.value) k.0 in
        inl (record {
          value = to f.value;
          rest = f.rest;
          lawful = k.0;
          parts = f.parts ∙ ap (λ (x : A). g.spell x ++ f.rest) (sym k.1) ∙ ap (λ (t : List ℕ). t ++ f.rest) (sym s.2);
        })
    | inr r ↦ inr (record { fault = r.fault; faulty = less r.fault bytes r.faulty })
  ];
}

-- ---- numbers

pub record IsWide (n : ℕ) : Type 0 where
  pub back : (bytes : List ℕ) → length bytes ≡ n → IsBytes bytes → little_bytes n (little_number n bytes) ≡ bytes

pub wide2 : IsWide 2
wide2 = record { back = λ bytes len fits. le_bytes_2 bytes _ len fits (omega arith) }

pub wide4 : IsWide 4
wide4 = record { back = λ bytes len fits. le_bytes_4 bytes _ len fits (omega arith) }

pub wide8 : IsWide 8
wide8 = record { back = λ bytes len fits. le_bytes_8 bytes _ len fits (omega arith) }

little_back : (n x : ℕ) → x < 256 ^ n → little_number n (little_bytes n x) ≡ x
little_back n x lt = ap (little_number n) (sym (append-nil (little_bytes n x))) ∙ little_number-reads_back n x [] lt

byte_small : (i x : ℕ) → byte_at i x < 256
byte_small zero x = mod-lt x (omega arith)
byte_small (suc i) x = mod-lt (x / 256 ^ suc i) (omega arith)

IsBytes-low_first : (i n x : ℕ) → IsBytes (bytes_low_first i n x)
IsBytes-low_first i zero x k = omega arith
IsBytes-low_first i (suc n) x zero = byte_small i x
IsBytes-low_first i (suc n) x (suc k) = IsBytes-low_first (suc i) n x k

pub number_decides : (n : ℕ) → IsWide n → Decides (number n) (number_at n)
number_decides n wide =
    mapped_decides (piece n) (number n) (piece_at n) (little_number n) (little_bytes n) (piece_decides n)
    (λ x lt. ((length-bytes_low_first 0 n x, IsBytes-low_first 0 n x), little_back n x lt, refl))
    (λ bytes h. (little_from-lt 0 n bytes h.1, wide.back bytes h.0 h.1))
    (λ fault bytes h. h)
    (λ fault bytes h. h)

pub signed32_decides : Decides signed32 i32_at
signed32_decides =
    mapped_decides (number 4) signed32 (number_at 4) (cast_signed w32) (cast_unsigned w32) (number_decides 4 wide4)
    (λ z h. let k = Fits-of_z {w = w32} {z = z} h in (omega (arith, k.fits), to_z-of_z w32 z h, refl))
    (λ n lt. (sfits_to_z {w = w32} {n = n} (record { fits = omega (arith, lt) }), of_z-to_z w32 n (omega (arith, lt))))
    (λ fault bytes h. h)
    (λ fault bytes h. h)

pub signed64_decides : Decides signed64 i64_at
signed64_decides =
    mapped_decides (number 8) signed64 (number_at 8) (cast_signed w64) (cast_unsigned w64) (number_decides 8 wide8)
    (λ z h. let k = Fits-of_z {w = w64} {z = z} h in (omega (arith, k.fits), to_z-of_z w64 z h, refl))
    (λ n lt. (sfits_to_z {w = w64} {n = n} (record { fits = omega (arith, lt) }), of_z-to_z w64 n (omega (arith, lt))))
    (λ fault bytes h. h)
    (λ fault bytes h. h)

-- ---- one part and then another

pub pair_decides : {A B : Type 0} (g : Grammar A) (h : Grammar B) (first : Part A) (second : Part B) → Decides g first → Decides h second
    → Decides (pair g h) (λ bytes. first bytes >>= λ x. second x.1 >>= λ y. Ok ((x.0, y.0), y.1))
pair_decides {A = A} {B = B} g h first second d e = record {
  again = λ x rest lawful.
      let k : first ((g.spell x.0 ++ h.spell x.1) ++ rest) ≡ Ok (x.0, h.spell x.1 ++ rest) = ap first (append_assoc (g.spell x.0) (h.spell x.1) rest) ∙ d.again x.0 (h.spell x.1 ++ rest) lawful.0 in
      rw (k, e.again x.1 rest lawful.1) refl;
  refuses = λ fault bytes faulty. elim faulty [
    | inl f ↦ rw (d.refuses fault bytes f) refl
    | inr f ↦
        let k : first bytes ≡ Ok (f.value, f.rest) = ap first f.parts ∙ d.again f.value f.rest f.lawful in
        rw (k, e.refuses fault f.rest f.faulty) refl
  ];
  total = λ bytes fits. elim (d.total bytes fits) [
    | inr r ↦ inr (record { fault = r.fault; faulty = inl r.faulty })
    | inl f ↦ elim (e.total f.rest (IsBytes-after bytes (g.spell f.value) f.rest f.parts fits)) [
      | inr r ↦ inr (record { fault = r.fault; faulty = inr (record { value = f.value; rest = f.rest; lawful = f.lawful; parts = f.parts; faulty = r.faulty }) })
      | inl s ↦ inl (record {
        value = (f.value, s.value);
        rest = s.rest;
        lawful = (f.lawful, s.lawful);
        parts = f.parts ∙ ap (λ (t : List ℕ). g.spell f.value ++ t) s.parts ∙ sym (append_assoc (g.spell f.value) (h.spell s.value) s.rest);
      })
    ]
  ];
}

-- ---- a number that the value fixes, and then the value

pub after_decides : {A B : Type 0} (g : Grammar A) (of : B → A) (next : A → Grammar B) (first : Part A) (second : A → Part B) → Decides g first → ((a : A) → Decides (next a) (second a)) → ((a : A) (x : B) → (next a).Lawful x → of x ≡ a)
    → Decides (after g of next) (λ bytes. first bytes >>= λ x. second x.0 x.1)
after_decides {A = A} {B = B} g of next first second d e fixed = record {
  again = λ x rest lawful.
      let k : first ((g.spell (of x) ++ (next (of x)).spell x) ++ rest) ≡ Ok (of x, (next (of x)).spell x ++ rest) = ap first (append_assoc (g.spell (of x)) ((next (of x)).spell x) rest) ∙ d.again (of x) ((next (of x)).spell x ++ rest) lawful.0 in
      rw k ((e (of x)).again x rest lawful.1);
  refuses = λ fault bytes faulty. elim faulty [
    | inl f ↦ rw (d.refuses fault bytes f) refl
    | inr f ↦
        let k : first bytes ≡ Ok (f.value, f.rest) = ap first f.parts ∙ d.again f.value f.rest f.lawful in
        rw k ((e f.value).refuses fault f.rest f.faulty)
  ];
  total = λ bytes fits. elim (d.total bytes fits) [
    | inr r ↦ inr (record { fault = r.fault; faulty = inl r.faulty })
    | inl f ↦ elim ((e f.value).total f.rest (IsBytes-after bytes (g.spell f.value) f.rest f.parts fits)) [
      | inr r ↦ inr (record { fault = r.fault; faulty = inr (record { value = f.value; rest = f.rest; lawful = f.lawful; parts = f.parts; faulty = r.faulty }) })
      | inl s ↦
          let k : f.value ≡ of s.value = sym (fixed f.value s.value s.lawful) in
          let whole : bytes ≡ (g.spell f.value ++ (next f.value).spell s.value) ++ s.rest = f.parts ∙ ap (λ (t : List ℕ). g.spell f.value ++ t) s.parts ∙ sym (append_assoc (g.spell f.value) ((next f.value).spell s.value) s.rest) in
          inl (record {
            value = s.value;
            rest = s.rest;
            lawful = subst (λ (a : A). g.Lawful a × (next a).Lawful s.value) k (f.lawful, s.lawful);
            parts = subst (λ (a : A). bytes ≡ (g.spell a ++ (next a).spell s.value) ++ s.rest) k whole;
          })
    ]
  ];
}

-- ---- n parts

many_again : {A : Type 0} (g : Grammar A) (part : Part A) → Decides g part → (n : ℕ) (xs : List A) (rest : List ℕ) → length xs ≡ n → AllByRecursion g.Lawful xs → many_at part n (flat_map g.spell xs ++ rest) ≡ Ok (xs, rest)
unfolding many_at
many_again g part d zero [] rest len lawful = refl
many_again g part d zero (x ∷ xs) rest len lawful = absurd (omega (arith, len))
many_again g part d (suc n) [] rest len lawful = absurd (omega (arith, len))
many_again g part d (suc n) (x ∷ xs) rest len lawful =
    let regrouped : flat_map g.spell (x ∷ xs) ++ rest ≡ g.spell x ++ (flat_map g.spell xs ++ rest) = ap (λ (t : List ℕ). t ++ rest) (flat_map-cons g.spell x xs) ∙ append_assoc (g.spell x) (flat_map g.spell xs) rest in
    ap (many_at part (suc n)) regrouped ∙ rw (d.again x (flat_map g.spell xs ++ rest) lawful.0, many_again g part d n xs rest (omega (arith, len)) lawful.1) refl

many_refuses : {A : Type 0} (g : Grammar A) (part : Part A) → Decides g part → (n : ℕ) (xs : List A) (rest : List ℕ) (fault : WireFault) → length xs < n → AllByRecursion g.Lawful xs → g.Faulty fault rest → many_at part n (flat_map g.spell xs ++ rest) ≡ Err fault
unfolding many_at
many_refuses g part d zero xs rest fault fewer lawful faulty = absurd (omega (arith, fewer))
many_refuses g part d (suc n) [] rest fault fewer lawful faulty = rw (d.refuses fault rest faulty) refl
many_refuses g part d (suc n) (x ∷ xs) rest fault fewer lawful faulty =
    let regrouped : flat_map g.spell (x ∷ xs) ++ rest ≡ g.spell x ++ (flat_map g.spell xs ++ rest) = ap (λ (t : List ℕ). t ++ rest) (flat_map-cons g.spell x xs) ∙ append_assoc (g.spell x) (flat_map g.spell xs) rest in
    ap (many_at part (suc n)) regrouped ∙ rw (d.again x (flat_map g.spell xs ++ rest) lawful.0, many_refuses g part d n xs rest fault (omega (arith, fewer)) lawful.1 faulty) refl

many_total : {A : Type 0} (g : Grammar A) (part : Part A) → Decides g part → (n : ℕ) (bytes : List ℕ) → IsBytes bytes → Found (times g n) bytes ⊎ Refused (times g n) bytes
many_total g part d zero bytes fits = inl (record { value = []; rest = bytes; lawful = (refl, tt); parts = refl })
many_total g part d (suc n) bytes fits =
    elim (d.total bytes fits) [
      | inr r ↦ inr (record { fault = r.fault; faulty = record { values = []; rest = bytes; fewer = omega arith; lawful = tt; parts = refl; faulty = r.faulty } })
      | inl f ↦ elim (many_total g part d n f.rest (IsBytes-after bytes (g.spell f.value) f.rest f.parts fits)) [
        | inr r ↦
            let w = r.faulty in
            inr (record {
              fault = r.fault;
              faulty = record {
                values = f.value ∷ w.values;
                rest = w.rest;
                fewer = omega (arith, w.fewer);
                lawful = (f.lawful, w.lawful);
                parts = f.parts ∙ ap (λ (t : List ℕ). g.spell f.value ++ t) w.parts ∙ sym (append_assoc (g.spell f.value) (flat_map g.spell w.values) w.rest) ∙ ap (λ (t : List ℕ). t ++ w.rest) (sym (flat_map-cons g.spell f.value w.values));
                faulty = w.faulty;
              };
            })
        | inl s ↦ inl (record {
          value = f.value ∷ s.value;
          rest = s.rest;
          lawful = (omega (arith, s.lawful.0), (f.lawful, s.lawful.1));
          parts = f.parts ∙ ap (λ (t : List ℕ). g.spell f.value ++ t) s.parts ∙ sym (append_assoc (g.spell f.value) (flat_map g.spell s.value) s.rest) ∙ ap (λ (t : List ℕ). t ++ s.rest) (sym (flat_map-cons g.spell f.value s.value));
        })
      ]
    ]

pub times_decides : {A : Type 0} (g : Grammar A) (part : Part A) → Decides g part → (n : ℕ) → Decides (times g n) (many_at part n)
times_decides g part d n = record {
  again = λ xs rest lawful. many_again g part d n xs rest lawful.0 lawful.1;
  refuses = λ fault bytes w. ap (many_at part n) w.parts ∙ many_refuses g part d n w.values w.rest fault w.fewer w.lawful w.faulty;
  total = λ bytes fits. many_total g part d n bytes fits;
}

-- ---- records of several parts

-- parts one after the other
abbrev pub both : {A B : Type 0} → Part A → Part B → Part (A × B)
both first second bytes = first bytes >>= λ x. second x.1 >>= λ y. Ok ((x.0, y.0), y.1)

abbrev pub made : {A B : Type 0} → (A → B) → Part A → Part B
made to part bytes = part bytes >>= λ x. Ok (to x.0, x.1)

pub fields_decides : {A B : Type 0} (g : Grammar A) (part : Part A) (to : A → B) (of : B → A) → Decides g part → ((y : B) → to (of y) ≡ y) → ((x : A) → of (to x) ≡ x)
    → Decides (fields of g) (λ bytes. part bytes >>= λ x. Ok (to x.0, x.1))
fields_decides {A = A} g part to of d there back =
    mapped_decides g (fields of g) part to of d
    (λ y h. (h, there y, refl))
    (λ x h. (subst g.Lawful (sym (back x)) h, back x))
    (λ fault bytes h. h)
    (λ fault bytes h. h)

-- another way of reading that gives the same
pub along : {A : Type 0} (g : Grammar A) (part other : Part A) → Decides g part → ((bytes : List ℕ) → other bytes ≡ part bytes) → Decides g other
along g part other d same = record {
  again = λ x rest lawful. same (g.spell x ++ rest) ∙ d.again x rest lawful;
  refuses = λ fault bytes faulty. same bytes ∙ d.refuses fault bytes faulty;
  total = d.total;
}

pub bind_assoc : {A B C : Type 0} (r : Result A WireFault) (f : A → Result B WireFault) (g : B → Result C WireFault) → ((r >>= f) >>= g) ≡ (r >>= λ x. f x >>= g)
bind_assoc (Ok x) f g = refl
bind_assoc (Err e) f g = refl

-- ---- what follows for a grammar that reading decides

abbrev pub read_as : {A : Type 0} → A → List ℕ → Result (A × List ℕ) WireFault
read_as x rest = Ok (x, rest)

abbrev pub fails_as : {A : Type 0} → WireFault → Result (A × List ℕ) WireFault
fails_as fault = Err fault

pub same_read : {A : Type 0} (x y : A) (xs ys : List ℕ) → read_as x xs ≡ read_as y ys → (x ≡ y) × (xs ≡ ys)
same_read {A = A} x y xs ys e =
    let k : (x, xs) ≡ (y, ys) = cc in
    (ap (λ (p : A × List ℕ). p.0) k, ap (λ (p : A × List ℕ). p.1) k)

pub same_fault : {A : Type 0} (f g : WireFault) → fails_as {A = A} f ≡ fails_as {A = A} g → f ≡ g
same_fault f g e = cc

pub not_both : {A : Type 0} (x : A) (xs : List ℕ) (f : WireFault) → read_as x xs ≡ fails_as {A = A} f → ⊥
not_both x xs f e = absurd cc

-- no spelling begins another
pub front_law : {A : Type 0} (g : Grammar A) (part : Part A) → Decides g part → (x y : A) (more : List ℕ) → g.Lawful x → g.Lawful y → g.spell y ≡ g.spell x ++ more → (x ≡ y) × (more ≡ [])
front_law g part d x y more hx hy e =
    let k = same_read y x [] more (sym (d.again y [] hy) ∙ ap part (append-nil (g.spell y) ∙ e) ∙ d.again x more hx) in
    (sym k.0, sym k.1)

-- what was read is spelled at the front
pub found_law : {A : Type 0} (g : Grammar A) (part : Part A) → Decides g part → (bytes : List ℕ) (x : A) (rest : List ℕ) → IsBytes bytes → part bytes ≡ Ok (x, rest) → g.Lawful x × (bytes ≡ g.spell x ++ rest)
found_law {A = A} g part d bytes x rest fits e =
    elim (d.total bytes fits) [
      | inl f ↦
          let k = same_read f.value x f.rest rest (sym (d.again f.value f.rest f.lawful) ∙ ap part (sym f.parts) ∙ e) in
          (subst g.Lawful k.0 f.lawful, f.parts ∙ ap (λ (y : A). g.spell y ++ f.rest) k.0 ∙ ap (λ (t : List ℕ). g.spell x ++ t) k.1)
      | inr r ↦ absurd (not_both x rest r.fault (sym e ∙ d.refuses r.fault bytes r.faulty))
    ]

-- a refusal names a fault that the bytes have
pub refused_law : {A : Type 0} (g : Grammar A) (part : Part A) → Decides g part → (bytes : List ℕ) (fault : WireFault) → IsBytes bytes → part bytes ≡ Err fault → g.Faulty fault bytes
refused_law {A = A} g part d bytes fault fits e =
    elim (d.total bytes fits) [
      | inl f ↦ absurd (not_both f.value f.rest fault (sym (d.again f.value f.rest f.lawful) ∙ ap part (sym f.parts) ∙ e))
      | inr r ↦ subst (λ (f : WireFault). g.Faulty f bytes) (same_fault {A = A} r.fault fault (sym (d.refuses r.fault bytes r.faulty) ∙ e)) r.faulty
    ]

-- ---- what a call's answer says of the grammar, by what it says of reading

pub gives_found : {E X : Type 0} (spoken : E → Option WireFault) (g : Grammar X) (part : Part X) → Decides g part → (result : Result X E) (old new : List ℕ) → IsBytes old → Gives spoken result new (part old)
    → IfOk result (λ x. g.Lawful x × (old ≡ g.spell x ++ new))
gives_found spoken g part d (Ok x) old new fits given = found_law g part d old x new fits given
gives_found spoken g part d (Err e) old new fits given = tt

spoken_refused : {X : Type 0} (e : Option WireFault) (g : Grammar X) (part : Part X) → Decides g part → (old : List ℕ) → IsBytes old → IfSome e (λ fault. part old ≡ Err fault) → IfSome e (λ fault. g.Faulty fault old)
spoken_refused None g part d old fits given = tt
spoken_refused (Some fault) g part d old fits given = refused_law g part d old fault fits given

pub gives_refused : {E X : Type 0} (spoken : E → Option WireFault) (g : Grammar X) (part : Part X) → Decides g part → (result : Result X E) (old new : List ℕ) → IsBytes old → Gives spoken result new (part old)
    → IfErr result (λ e. IfSome (spoken e) (λ fault. g.Faulty fault old))
gives_refused spoken g part d (Ok x) old new fits given = tt
gives_refused spoken g part d (Err e) old new fits given = spoken_refused (spoken e) g part d old fits given

pub gives_reads : {E X : Type 0} (spoken : E → Option WireFault) (g : Grammar X) (part : Part X) → Decides g part → (result : Result X E) (old new : List ℕ) → Gives spoken result new (part old)
    → (x : X) (rest : List ℕ) → g.Lawful x → old ≡ g.spell x ++ rest → Gives spoken result new (Ok (x, rest))
gives_reads {X = X} spoken g part d result old new given x rest lawful e =
    subst (λ (read : Result (X × List ℕ) WireFault). Gives spoken result new read) (ap part e ∙ d.again x rest lawful) given

pub gives_refuses : {E X : Type 0} (spoken : E → Option WireFault) (g : Grammar X) (part : Part X) → Decides g part → (result : Result X E) (old new : List ℕ) → Gives spoken result new (part old)
    → (fault : WireFault) → g.Faulty fault old → Gives spoken result new (Err fault)
gives_refuses {X = X} spoken g part d result old new given fault faulty =
    subst (λ (read : Result (X × List ℕ) WireFault). Gives spoken result new read) (d.refuses fault old faulty) given

-- ---- the same for a call of a cursor, whose refusal leaves all

pub reads_found : {X Y : Type 0} (view : X → Y) (g : Grammar Y) (part : Part Y) → Decides g part → (result : Result X WireFault) (old new : List ℕ) → IsBytes old → Reads view result old new (part old)
    → IfOk result (λ x. g.Lawful (view x) × (old ≡ g.spell (view x) ++ new))
reads_found view g part d (Ok x) old new fits given = found_law g part d old (view x) new fits given
reads_found view g part d (Err fault) old new fits given = tt

pub reads_refused : {X Y : Type 0} (view : X → Y) (g : Grammar Y) (part : Part Y) → Decides g part → (result : Result X WireFault) (old new : List ℕ) → IsBytes old → Reads view result old new (part old)
    → IfErr result (λ fault. g.Faulty fault old)
reads_refused view g part d (Ok x) old new fits given = tt
reads_refused view g part d (Err fault) old new fits given = refused_law g part d old fault fits given.0

pub reads_again : {X Y : Type 0} (view : X → Y) (g : Grammar Y) (part : Part Y) → Decides g part → (result : Result X WireFault) (old new : List ℕ) → Reads view result old new (part old)
    → (y : Y) (rest : List ℕ) → g.Lawful y → old ≡ g.spell y ++ rest → IsOkAnd result (λ x. view x ≡ y) × (new ≡ rest)
reads_again view g part d (Ok x) old new given y rest lawful e = same_read (view x) y new rest (sym given ∙ ap part e ∙ d.again y rest lawful)
reads_again view g part d (Err fault) old new given y rest lawful e = absurd (not_both y rest fault (sym (ap part e ∙ d.again y rest lawful) ∙ given.0))

pub reads_refuses : {X Y : Type 0} (view : X → Y) (g : Grammar Y) (part : Part Y) → Decides g part → (result : Result X WireFault) (old new : List ℕ) → Reads view result old new (part old)
    → (fault : WireFault) → g.Faulty fault old → result ≡ Err fault
reads_refuses view g part d (Ok x) old new given fault faulty = absurd (not_both (view x) new fault (sym given ∙ d.refuses fault old faulty))
reads_refuses {Y = Y} view g part d (Err f) old new given fault faulty = ap (λ (e : WireFault). Err e) (same_fault {A = Y} f fault (sym given.0 ∙ d.refuses fault old faulty))
