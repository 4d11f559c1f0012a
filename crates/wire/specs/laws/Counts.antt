-- Reading a count decides its grammar.
use Rattle.std.proofs.Common.{◌≡◌, ◌⊎◌, inl, inr, ℕ, zero, suc, ◌+◌, ◌-◌, ◌^◌, ◌<◌, ◌≤◌, List, [], ◌∷◌, ◌++◌, length, Ok, Err, refl, sym, ap, subst, ◌∙◌, arith}
use Rattle.std.proofs.lemmas.Bool.{cases_lt, le-ltb, lt-ltb}
use Rattle.std.proofs.lemmas.List.{length-append}
use Rattle.byteorder.specs.Endian.{little_number, little_bytes}
use Rattle.byteorder.specs.Numbers.{length-bytes_low_first, little_from-lt}
use Rattle.wire.specs.declared.fault.WireFault.{WireFault}
use Rattle.wire.specs.declared.fault.WireFault.TheVariants.{Short, LongForm, TooLarge}
use Rattle.wire.specs.Numbers.{limit, IsForm, compact_size}
use Rattle.wire.specs.Grammar.{IsBytes, Grammar, CountFaulty, count, piece, times, counted_list, sized_bytes}
use Rattle.wire.specs.computed.Reader.{Part, piece_at, long_at, compact_at, many_at, counted_at, sized_at}
use Rattle.wire.specs.laws.Reader.{Decides, Found, Refused, IsWide, wide2, wide4, wide8, number_decides, piece_decides, times_decides, after_decides}

-- ---- the shortest form, by the size of the number

pub compact1 : (n : ℕ) → n < 253 → compact_size n ≡ n ∷ []
unfolding compact_size
compact1 n lt = rw (lt-ltb n 253 lt) refl

pub compact3 : (n : ℕ) → 253 ≤ n → n < 256 ^ 2 → compact_size n ≡ 253 ∷ little_bytes 2 n
unfolding compact_size
compact3 n le lt = rw (le-ltb n 253 le, lt-ltb n (256 ^ 2) lt) refl

pub compact5 : (n : ℕ) → 256 ^ 2 ≤ n → n < 256 ^ 4 → compact_size n ≡ 254 ∷ little_bytes 4 n
unfolding compact_size
compact5 n le lt =
    let a : 253 ≤ n = omega arith in
    rw (le-ltb n 253 a, le-ltb n (256 ^ 2) le, lt-ltb n (256 ^ 4) lt) refl

pub compact9 : (n : ℕ) → 256 ^ 4 ≤ n → compact_size n ≡ 255 ∷ little_bytes 8 n
unfolding compact_size
compact9 n le =
    let a : 253 ≤ n = omega arith in
    let b : 256 ^ 2 ≤ n = omega arith in
    rw (le-ltb n 253 a, le-ltb n (256 ^ 2) b, le-ltb n (256 ^ 4) le) refl

-- which of the four it is
pub record OfSize (n : ℕ) (lead width least past : ℕ) : Type 0 where
  pub from : least ≤ n
  pub below : n < past
  pub is : compact_size n ≡ lead ∷ little_bytes width n

pub sizes : (n : ℕ) → ((n < 253) × (compact_size n ≡ n ∷ [])) ⊎ OfSize n 253 2 253 (256 ^ 2) ⊎ OfSize n 254 4 (256 ^ 2) (256 ^ 4) ⊎ ((256 ^ 4 ≤ n) × (compact_size n ≡ 255 ∷ little_bytes 8 n))
sizes n =
    elim (cases_lt n 253) [
      | inl a ↦ inl (a, compact1 n a)
      | inr a ↦ elim (cases_lt n (256 ^ 2)) [
        | inl b ↦ inr (inl (record { from = a; below = b; is = compact3 n a b }))
        | inr b ↦ elim (cases_lt n (256 ^ 4)) [
          | inl c ↦ inr (inr (inl (record { from = b; below = c; is = compact5 n b c })))
          | inr c ↦ inr (inr (inr (c, compact9 n c)))
        ]
      ]
    ]

pub is_form : (n : ℕ) → n < 256 ^ 8 → IsForm (compact_size n) n
is_form n lt =
    elim (sizes n) [
      | inl a ↦ inl a
      | inr (inl a) ↦ inr (inl (a.below, a.is))
      | inr (inr (inl a)) ↦ inr (inr (inl (a.below, a.is)))
      | inr (inr (inr a)) ↦ inr (inr (inr (lt, a.1)))
    ]

form_length : (lead n width : ℕ) (form : List ℕ) → form ≡ lead ∷ little_bytes width n → length form ≡ width + 1
form_length lead n width form e = ap length e ∙ omega (arith, length-bytes_low_first 0 width n)

pub least : (n : ℕ) (form : List ℕ) → IsForm form n → length (compact_size n) ≤ length form
least n form (inl h) = rw (h.1, compact1 n h.0) (omega arith)
least n form (inr (inl h)) =
    let f = form_length 253 n 2 form h.1 in
    elim (sizes n) [
      | inl a ↦ rw a.1 (omega arith)
      | inr (inl a) ↦ let k = form_length 253 n 2 (compact_size n) a.is in omega arith
      | inr (inr (inl a)) ↦ absurd (omega (arith, a.from, h.0))
      | inr (inr (inr a)) ↦ absurd (omega (arith, a.0, h.0))
    ]
least n form (inr (inr (inl h))) =
    let f = form_length 254 n 4 form h.1 in
    elim (sizes n) [
      | inl a ↦ rw a.1 (omega arith)
      | inr (inl a) ↦ let k = form_length 253 n 2 (compact_size n) a.is in omega arith
      | inr (inr (inl a)) ↦ let k = form_length 254 n 4 (compact_size n) a.is in omega arith
      | inr (inr (inr a)) ↦ absurd (omega (arith, a.0, h.0))
    ]
least n form (inr (inr (inr h))) =
    let f = form_length 255 n 8 form h.1 in
    elim (sizes n) [
      | inl a ↦ rw a.1 (omega arith)
      | inr (inl a) ↦ let k = form_length 253 n 2 (compact_size n) a.is in omega arith
      | inr (inr (inl a)) ↦ let k = form_length 254 n 4 (compact_size n) a.is in omega arith
      | inr (inr (inr a)) ↦ let k = form_length 255 n 8 (compact_size n) a.1 in omega arith
    ]

-- ---- the long forms

long_again : (least w x : ℕ) (rest : List ℕ) → IsWide w → least ≤ x → x ≤ limit → x < 256 ^ w → long_at least w (little_bytes w x ++ rest) ≡ Ok (x, rest)
unfolding long_at
long_again least w x rest wide from le lt = rw ((number_decides w wide).again x rest lt, le-ltb x least from, le-ltb limit x le) refl

long_long : (least w x : ℕ) (rest : List ℕ) → IsWide w → x < least → x < 256 ^ w → long_at least w (little_bytes w x ++ rest) ≡ Err LongForm
unfolding long_at
long_long least w x rest wide below lt = rw ((number_decides w wide).again x rest lt, lt-ltb x least below) refl

long_large : (least w x : ℕ) (rest : List ℕ) → IsWide w → least ≤ x → limit < x → x < 256 ^ w → long_at least w (little_bytes w x ++ rest) ≡ Err TooLarge
unfolding long_at
long_large least w x rest wide from gt lt = rw ((number_decides w wide).again x rest lt, le-ltb x least from, lt-ltb limit x gt) refl

long_short : (least w : ℕ) (bytes : List ℕ) → IsWide w → length bytes < w → long_at least w bytes ≡ Err Short
unfolding long_at
long_short least w bytes wide lt = rw ((number_decides w wide).refuses Short bytes (refl, lt)) refl

at1 : (b : ℕ) (bytes : List ℕ) → b < 253 → compact_at (b ∷ bytes) ≡ Ok (b, bytes)
unfolding compact_at
at1 b bytes lt = rw (lt-ltb b 253 lt) refl

at3 : (bytes : List ℕ) → compact_at (253 ∷ bytes) ≡ long_at 253 2 bytes
unfolding compact_at
at3 bytes = refl

at5 : (bytes : List ℕ) → compact_at (254 ∷ bytes) ≡ long_at (256 ^ 2) 4 bytes
unfolding compact_at
at5 bytes = refl

at9 : (bytes : List ℕ) → compact_at (255 ∷ bytes) ≡ long_at (256 ^ 4) 8 bytes
unfolding compact_at
at9 bytes = refl

at0 : compact_at [] ≡ Err Short
unfolding compact_at
at0 = refl

-- one of the long forms: its first byte, its width, and the least number that wants it
record Long (lead w least : ℕ) : Type 0 where
  wide : IsWide w
  at : (bytes : List ℕ) → compact_at (lead ∷ bytes) ≡ long_at least w bytes
  form : (x : ℕ) → x < 256 ^ w → IsForm (lead ∷ little_bytes w x) x
  within : (x : ℕ) → x < 256 ^ w → x < 256 ^ 8
  is : (x : ℕ) → least ≤ x → x < 256 ^ w → compact_size x ≡ lead ∷ little_bytes w x
  shorter : (x : ℕ) → x < least → length (compact_size x) < w + 1
  longest : (x : ℕ) → length (compact_size x) < w + 1 → x < 256 ^ w → x < least

shorter3 : (x : ℕ) → x < 253 → length (compact_size x) < 3
shorter3 x lt = rw (compact1 x lt) (omega arith)

shorter5 : (x : ℕ) → x < 256 ^ 2 → length (compact_size x) < 5
shorter5 x lt = elim (cases_lt x 253) [
  | inl a ↦ rw (compact1 x a) (omega arith)
  | inr a ↦ let k = form_length 253 x 2 (compact_size x) (compact3 x a lt) in omega arith
]

shorter9 : (x : ℕ) → x < 256 ^ 4 → length (compact_size x) < 9
shorter9 x lt = elim (cases_lt x (256 ^ 2)) [
  | inl a ↦ let k = shorter5 x a in omega arith
  | inr a ↦ let k = form_length 254 x 4 (compact_size x) (compact5 x a lt) in omega arith
]

long3 : Long 253 2 253
long3 = record {
  wide = wide2;
  at = at3;
  form = λ x lt. inr (inl (lt, refl));
  within = λ x lt. omega (arith, lt);
  is = compact3;
  shorter = shorter3;
  longest = λ x short lt. elim (cases_lt x 253) [
    | inl a ↦ a
    | inr a ↦ absurd (let k = form_length 253 x 2 (compact_size x) (compact3 x a lt) in omega (arith, short))
  ];
}

long5 : Long 254 4 (256 ^ 2)
long5 = record {
  wide = wide4;
  at = at5;
  form = λ x lt. inr (inr (inl (lt, refl)));
  within = λ x lt. omega (arith, lt);
  is = compact5;
  shorter = shorter5;
  longest = λ x short lt. elim (cases_lt x (256 ^ 2)) [
    | inl a ↦ a
    | inr a ↦ absurd (let k = form_length 254 x 4 (compact_size x) (compact5 x a lt) in omega (arith, short))
  ];
}

long9 : Long 255 8 (256 ^ 4)
long9 = record {
  wide = wide8;
  at = at9;
  form = λ x lt. inr (inr (inr (lt, refl)));
  within = λ x lt. lt;
  is = λ x le lt. compact9 x le;
  shorter = shorter9;
  longest = λ x short lt. elim (cases_lt x (256 ^ 4)) [
    | inl a ↦ a
    | inr a ↦ absurd (let k = form_length 255 x 8 (compact_size x) (compact9 x a) in omega (arith, short))
  ];
}

-- what a long form reads as
long_reads : (lead w least x : ℕ) (rest : List ℕ) → Long lead w least → least ≤ x → x ≤ limit → x < 256 ^ w → compact_at (compact_size x ++ rest) ≡ Ok (x, rest)
long_reads lead w least x rest l from le lt =
    ap (λ (t : List ℕ). compact_at (t ++ rest)) (l.is x from lt) ∙ l.at (little_bytes w x ++ rest) ∙ long_again least w x rest l.wide from le lt

long_is_large : (lead w least x : ℕ) (rest : List ℕ) → Long lead w least → least ≤ x → limit < x → x < 256 ^ w → compact_at (compact_size x ++ rest) ≡ Err TooLarge
long_is_large lead w least x rest l from gt lt =
    ap (λ (t : List ℕ). compact_at (t ++ rest)) (l.is x from lt) ∙ l.at (little_bytes w x ++ rest) ∙ long_large least w x rest l.wide from gt lt

long_is_long : (lead w least x : ℕ) (form rest bytes : List ℕ) → Long lead w least → form ≡ lead ∷ little_bytes w x → x < 256 ^ w → length (compact_size x) < length form → bytes ≡ form ++ rest → compact_at bytes ≡ Err LongForm
long_is_long lead w least x form rest bytes l is lt short e =
    let k : length form ≡ w + 1 = form_length lead x w form is in
    let below : x < least = l.longest x (omega arith) lt in
    ap compact_at (e ∙ ap (λ (t : List ℕ). t ++ rest) is) ∙ l.at (little_bytes w x ++ rest) ∙ long_long least w x rest l.wide below lt

long_is_short : (lead w least x : ℕ) (bytes more : List ℕ) → Long lead w least → lead ∷ little_bytes w x ≡ bytes ++ more → 0 < length more → compact_at bytes ≡ Err Short
long_is_short lead w least x [] more l e some = at0
long_is_short lead w least x (b ∷ bs) more l e some =
    let h : lead ≡ b = cc in
    let t : little_bytes w x ≡ bs ++ more = cc in
    let len : length bs < w = omega (arith, ap length t, length-append bs more, length-bytes_low_first 0 w x) in
    ap (λ (c : ℕ). compact_at (c ∷ bs)) (sym h) ∙ l.at bs ∙ long_short least w bs l.wide len

-- ---- the zeros that complete a form

zeros : ℕ → List ℕ
zeros zero = []
zeros (suc n) = 0 ∷ zeros n

length-zeros : (n : ℕ) → length (zeros n) ≡ n
unfolding zeros
length-zeros zero = refl
length-zeros (suc n) = omega (arith, length-zeros n)

IsBytes-zeros : (xs : List ℕ) (n : ℕ) → IsBytes xs → IsBytes (xs ++ zeros n)
unfolding zeros
IsBytes-zeros [] zero h i = omega arith
IsBytes-zeros [] (suc n) h zero = omega arith
IsBytes-zeros [] (suc n) h (suc i) = IsBytes-zeros [] n h i
IsBytes-zeros (x ∷ xs) n h zero = h 0
IsBytes-zeros (x ∷ xs) n h (suc i) = IsBytes-zeros xs n (λ k. h (suc k)) i

long_total : (lead w least : ℕ) (bs : List ℕ) → Long lead w least → IsBytes bs → Found count (lead ∷ bs) ⊎ Refused count (lead ∷ bs)
long_total lead w least bs l fits =
    elim ((number_decides w l.wide).total bs fits) [
      | inl f ↦
          let x = f.value in
          let e : lead ∷ bs ≡ (lead ∷ little_bytes w x) ++ f.rest = ap (λ (t : List ℕ). lead ∷ t) f.parts in
          elim (cases_lt x least) [
            | inl below ↦
                let k : length (lead ∷ little_bytes w x) ≡ w + 1 = form_length lead x w (lead ∷ little_bytes w x) refl in
                let s = l.shorter x below in
                inr (record { fault = LongForm; faulty = (x, lead ∷ little_bytes w x, f.rest, l.form x f.lawful, omega (arith, s, k), e) })
            | inr from ↦
                let c : lead ∷ bs ≡ compact_size x ++ f.rest = e ∙ ap (λ (t : List ℕ). t ++ f.rest) (sym (l.is x from f.lawful)) in
                elim (cases_lt limit x) [
                  | inl gt ↦ inr (record { fault = TooLarge; faulty = (x, f.rest, gt, l.within x f.lawful, c) })
                  | inr le ↦ inl (record { value = x; rest = f.rest; lawful = le; parts = c })
                ]
          ]
      | inr r ↦
          let lt : length bs < w = r.faulty.1 in
          let more = zeros (w - length bs) in
          let whole : length (bs ++ more) ≡ w = omega (arith, length-append bs more, length-zeros (w - length bs)) in
          let bytes : IsBytes (bs ++ more) = IsBytes-zeros bs (w - length bs) fits in
          let x = little_number w (bs ++ more) in
          let back : little_bytes w x ≡ bs ++ more = l.wide.back (bs ++ more) whole bytes in
          let form : IsForm (lead ∷ (bs ++ more)) x = subst (λ (t : List ℕ). IsForm (lead ∷ t) x) back (l.form x (little_from-lt 0 w (bs ++ more) bytes)) in
          inr (record { fault = Short; faulty = (x, lead ∷ (bs ++ more), more, form, refl, omega (arith, length-zeros (w - length bs))) })
    ]

-- ---- counts

count_again : (n : ℕ) (rest : List ℕ) → n ≤ limit → compact_at (compact_size n ++ rest) ≡ Ok (n, rest)
count_again n rest le =
    elim (sizes n) [
      | inl a ↦ ap (λ (t : List ℕ). compact_at (t ++ rest)) a.1 ∙ at1 n rest a.0
      | inr (inl a) ↦ long_reads 253 2 253 n rest long3 a.from le a.below
      | inr (inr (inl a)) ↦ long_reads 254 4 (256 ^ 2) n rest long5 a.from le a.below
      | inr (inr (inr a)) ↦ absurd (omega (arith, a.0, le))
    ]

one_is_short : (n : ℕ) (bytes more : List ℕ) → n ∷ [] ≡ bytes ++ more → 0 < length more → compact_at bytes ≡ Err Short
one_is_short n [] more e some = at0
one_is_short n (b ∷ bs) more e some = absurd (omega (arith, ap length e, length-append (b ∷ bs) more, some))

count_refuses : (fault : WireFault) (bytes : List ℕ) → CountFaulty fault bytes → compact_at bytes ≡ Err fault
count_refuses Short bytes h =
    elim h.3 [
      | inl a ↦ one_is_short h.0 bytes h.2 (sym a.1 ∙ h.4) h.5
      | inr (inl a) ↦ long_is_short 253 2 253 h.0 bytes h.2 long3 (sym a.1 ∙ h.4) h.5
      | inr (inr (inl a)) ↦ long_is_short 254 4 (256 ^ 2) h.0 bytes h.2 long5 (sym a.1 ∙ h.4) h.5
      | inr (inr (inr a)) ↦ long_is_short 255 8 (256 ^ 4) h.0 bytes h.2 long9 (sym a.1 ∙ h.4) h.5
    ]
count_refuses LongForm bytes h =
    elim h.3 [
      | inl a ↦ absurd (let k : length (compact_size h.0) ≡ 1 = ap length (compact1 h.0 a.0) in let m : length h.1 ≡ 1 = ap length a.1 in omega (arith, h.4))
      | inr (inl a) ↦ long_is_long 253 2 253 h.0 h.1 h.2 bytes long3 a.1 a.0 h.4 h.5
      | inr (inr (inl a)) ↦ long_is_long 254 4 (256 ^ 2) h.0 h.1 h.2 bytes long5 a.1 a.0 h.4 h.5
      | inr (inr (inr a)) ↦ long_is_long 255 8 (256 ^ 4) h.0 h.1 h.2 bytes long9 a.1 a.0 h.4 h.5
    ]
count_refuses TooLarge bytes h =
    ap compact_at h.4 ∙ elim (sizes h.0) [
      | inl a ↦ absurd (omega (arith, a.0, h.2))
      | inr (inl a) ↦ absurd (omega (arith, a.below, h.2))
      | inr (inr (inl a)) ↦ long_is_large 254 4 (256 ^ 2) h.0 h.1 long5 a.from h.2 a.below
      | inr (inr (inr a)) ↦ long_is_large 255 8 (256 ^ 4) h.0 h.1 long9 a.0 h.2 h.3
    ]

count_total : (bytes : List ℕ) → IsBytes bytes → Found count bytes ⊎ Refused count bytes
count_total [] fits = inr (record { fault = Short; faulty = (0, 0 ∷ [], 0 ∷ [], inl (omega arith, refl), refl, omega arith) })
count_total (b ∷ bs) fits =
    let rest : IsBytes bs = λ i. fits (suc i) in
    let small : b < 256 = fits 0 in
    elim (cases_lt b 253) [
      | inl a ↦ inl (record { value = b; rest = bs; lawful = omega (arith, a); parts = ap (λ (t : List ℕ). t ++ bs) (sym (compact1 b a)) })
      | inr a ↦ elim (cases_lt b 254) [
        | inl c ↦ let e : 253 ≡ b = omega arith in subst (λ (x : ℕ). Found count (x ∷ bs) ⊎ Refused count (x ∷ bs)) e (long_total 253 2 253 bs long3 rest)
        | inr c ↦ elim (cases_lt b 255) [
          | inl d ↦ let e : 254 ≡ b = omega arith in subst (λ (x : ℕ). Found count (x ∷ bs) ⊎ Refused count (x ∷ bs)) e (long_total 254 4 (256 ^ 2) bs long5 rest)
          | inr d ↦ let e : 255 ≡ b = omega arith in subst (λ (x : ℕ). Found count (x ∷ bs) ⊎ Refused count (x ∷ bs)) e (long_total 255 8 (256 ^ 4) bs long9 rest)
        ]
      ]
    ]

pub count_decides : Decides count compact_at
count_decides = record { again = count_again; refuses = count_refuses; total = count_total }

-- ---- a count and so many parts, a length and so many bytes

pub counted_decides : {A : Type 0} (g : Grammar A) (part : Part A) → Decides g part → Decides (counted_list g) (counted_at part)
unfolding counted_at
counted_decides g part d = after_decides count length (times g) compact_at (many_at part) count_decides (times_decides g part d) (λ n xs h. h.0)

pub sized_decides : Decides sized_bytes sized_at
unfolding sized_at
sized_decides = after_decides count length piece compact_at piece_at count_decides piece_decides (λ n bytes h. h.0)
