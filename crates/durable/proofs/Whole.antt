-- What texts of lines stand for.
use Rattle.std.proofs.Common.{◌≡◌, ◌≢◌, ◌⊎◌, inl, inr, ⊎_elim, ℕ, zero, suc, ◌+◌, ◌-◌, ◌≤◌, ◌<◌, ◌==◌, Bool, false, not, List, [], ◌∷◌, ◌++◌, length, take, drop, get_or, refl, sym, ◌∙◌, ap, subst, arith, append_assoc, take-append-drop}
use Rattle.std.proofs.lemmas.List.{append-nil, take_more}
use Rattle.std.proofs.lemmas.Bool.{cases_eq}
use Rattle.std.proofs.lemmas.Bool.Decides.{nat_tests}
use Rattle.durable.specs.Lines.{lines_on, lines, AreWhole, IsLine}

pub on_zero : (line : List ℕ) (b : ℕ) (text : List ℕ) → b ≡ 0 → lines_on line (b ∷ text) ≡ []
on_zero line b text is = grind (arith, nat_tests)

pub on_end : (line : List ℕ) (b : ℕ) (text : List ℕ) → b ≡ 10 → lines_on line (b ∷ text) ≡ line ∷ lines_on [] text
on_end line b text is = grind (arith, nat_tests)

pub on_other : (line : List ℕ) (b : ℕ) (text : List ℕ) → b ≢ 0 → b ≢ 10 → lines_on line (b ∷ text) ≡ lines_on (line ++ b ∷ []) text
on_other line b text some open_still = grind (arith, nat_tests)

begun_still : (b : ℕ) → b ≢ 10 → not (b == 10) ≡ false → ⊥
begun_still b open_still is = grind (arith, nat_tests)

on_whole : (begun : Bool) (line text more : List ℕ) → AreWhole begun text → (begun ≡ false → line ≡ []) → lines_on line (text ++ more) ≡ lines_on line text ++ lines more
on_whole begun line [] more w empty = ap (λ (l : List ℕ). lines_on l more) (empty w)
on_whole begun line (b ∷ text) more w empty = elim (cases_eq b 10) [
  | inl is ↦ on_end line b (text ++ more) is
      ∙ ap (λ (l : List (List ℕ)). line ∷ l) (on_whole (not (b == 10)) [] text more w.1 (λ n. refl))
      ∙ ap (λ (l : List (List ℕ)). l ++ lines more) (sym (on_end line b text is))
  | inr open_still ↦ on_other line b (text ++ more) w.0 open_still
      ∙ on_whole (not (b == 10)) (line ++ b ∷ []) text more w.1 (λ n. absurd (begun_still b open_still n))
      ∙ ap (λ (l : List (List ℕ)). l ++ lines more) (sym (on_other line b text w.0 open_still))
]

-- the lines of whole lines and of what follows them
pub lines-append : (text more : List ℕ) → AreWhole false text → lines (text ++ more) ≡ lines text ++ lines more
lines-append text more w = on_whole false [] text more w (λ n. refl)

pub whole-append : (begun : Bool) (text more : List ℕ) → AreWhole begun text → AreWhole false more → AreWhole begun (text ++ more)
whole-append begun [] more w v = subst (λ (f : Bool). AreWhole f more) (sym w) v
whole-append begun (b ∷ text) more w v = (w.0, whole-append (not (b == 10)) text more w.1 v)

ten_some : ◌≡◌ {A = ℕ} 10 0 → ⊥
ten_some is = absurd (omega (arith, is))

pub whole_line : (begun : Bool) (line : List ℕ) → IsLine line → AreWhole begun (line ++ 10 ∷ [])
whole_line begun [] is = (ten_some, refl)
whole_line begun (b ∷ line) is = (is.0, whole_line (not (b == 10)) line is.2)

-- a line behind a text without an end
pub on_line : (front line text : List ℕ) → IsLine line → lines_on front (line ++ text) ≡ lines_on (front ++ line) text
on_line front [] text is = ap (λ (l : List ℕ). lines_on l text) (sym (append-nil front))
on_line front (b ∷ line) text is =
    on_other front b (line ++ text) is.0 is.1 ∙ on_line (front ++ b ∷ []) line text is.2 ∙ ap (λ (l : List ℕ). lines_on l text) (append_assoc front (b ∷ []) line)

pub lines_line : (line text : List ℕ) → IsLine line → lines (line ++ 10 ∷ text) ≡ line ∷ lines text
lines_line line text is = on_line [] line (10 ∷ text) is

pub lines_ended : (line text : List ℕ) → IsLine line → lines (line ++ 0 ∷ text) ≡ []
lines_ended line text is = on_line [] line (0 ∷ text) is

pub lines_open : (line : List ℕ) → IsLine line → lines line ≡ []
lines_open line is = ap lines (sym (append-nil line)) ∙ on_line [] line [] is

-- one line more
pub lines_push : (text line : List ℕ) → AreWhole false text → IsLine line → lines (text ++ (line ++ 10 ∷ [])) ≡ lines text ++ line ∷ []
lines_push text line w is = lines-append text (line ++ 10 ∷ []) w ∙ ap (λ (l : List (List ℕ)). lines text ++ l) (lines_line line [] is)

pub whole_push : (text line : List ℕ) → AreWhole false text → IsLine line → AreWhole false (text ++ (line ++ 10 ∷ []))
whole_push text line w is = whole-append false text (line ++ 10 ∷ []) w (whole_line false line is)

pub line_push : (line : List ℕ) (b : ℕ) → IsLine line → b ≢ 0 → b ≢ 10 → IsLine (line ++ b ∷ [])
line_push [] b is some open_still = (some, open_still, tt)
line_push (x ∷ line) b is some open_still = (is.0, is.1, line_push line b is.2 some open_still)

take_none : (k : ℕ) → take {A = ℕ} k [] ≡ []
take_none zero = refl
take_none (suc k) = refl

nothing_cut : (n k : ℕ) → take {A = ℕ} n [] ++ take k (drop {A = ℕ} n []) ≡ []
nothing_cut zero k = take_none k
nothing_cut (suc n) k = take_none k

pub take_on : (n k : ℕ) (xs : List ℕ) → take (n + k) xs ≡ take n xs ++ take k (drop n xs)
take_on zero k xs = ap (λ (m : ℕ). take m xs) (omega arith)
take_on (suc n) k [] = take_none (suc n + k) ∙ sym (nothing_cut (suc n) k)
take_on (suc n) k (x ∷ xs) =
    let sum : suc n + k ≡ suc (n + k) = omega arith in
    ap (λ (m : ℕ). take m (x ∷ xs)) sum ∙ ap (λ (l : List ℕ). x ∷ l) (take_on n k xs)

cons_nil : (x : List ℕ) (xs : List (List ℕ)) → x ∷ xs ≡ [] → ⊥
cons_nil x xs is = absurd (omega (arith, ap length is))

-- what stands for no line stands for none where it is cut
pub none_cut : (k : ℕ) (line text : List ℕ) → lines_on line text ≡ [] → lines_on line (take k text) ≡ []
none_cut zero line text none = refl
none_cut (suc k) line [] none = refl
none_cut (suc k) line (b ∷ text) none = elim (cases_eq b 0) [
  | inl is ↦ on_zero line b (take k text) is
  | inr some ↦ elim (cases_eq b 10) [
    | inl is ↦ absurd (cons_nil line (lines_on [] text) (sym (on_end line b text is) ∙ none))
    | inr open_still ↦ on_other line b (take k text) some open_still ∙ none_cut k (line ++ b ∷ []) text (sym (on_other line b text some open_still) ∙ none)
  ]
]

-- a file of n bytes of whole lines before what stands for none, cut behind them
pub lines_cut : (n m : ℕ) (file : List ℕ) → AreWhole false (take n file) → lines (drop n file) ≡ [] → n ≤ m → lines (take m file) ≡ lines file
lines_cut n m file w none le =
    let sum : m ≡ n + (m - n) = omega (arith, le) in
    let split : take m file ≡ take n file ++ take (m - n) (drop n file) = ap (λ (k : ℕ). take k file) sum ∙ take_on n (m - n) file in
    ap lines split ∙ lines-append (take n file) (take (m - n) (drop n file)) w
    ∙ ap (λ (l : List (List ℕ)). lines (take n file) ++ l) (none_cut (m - n) [] (drop n file) none ∙ sym none)
    ∙ sym (lines-append (take n file) (drop n file) w) ∙ ap lines (take-append-drop n file)

-- a text up to a place, the byte there, and the rest
pub take_here : (text : List ℕ) (i : ℕ) → i < length text → text ≡ take i text ++ get_or text i 0 ∷ drop (i + 1) text
take_here [] i lt = absurd (omega (arith, lt))
take_here (b ∷ text) zero lt = refl
take_here (b ∷ text) (suc i) lt =
    let sum : suc (i + 1) ≡ suc i + 1 = omega arith in
    ap (λ (l : List ℕ). b ∷ l) (take_here text i (omega (arith, lt))) ∙ ap (λ (m : ℕ). b ∷ (take i text ++ get_or text i 0 ∷ drop m (b ∷ text))) sum

pub line_more : (text : List ℕ) (i : ℕ) → i < length text → IsLine (take i text) → get_or text i 0 ≢ 0 → get_or text i 0 ≢ 10 → IsLine (take (i + 1) text)
line_more text i lt is some open_still = subst IsLine (sym (take_more text i 0 lt)) (line_push (take i text) (get_or text i 0) is some open_still)

pub none_here : (text : List ℕ) (i : ℕ) → i < length text → IsLine (take i text) → get_or text i 0 ≡ 0 → lines text ≡ []
none_here text i lt is none =
    ap lines (take_here text i lt ∙ ap (λ (b : ℕ). take i text ++ b ∷ drop (i + 1) text) none) ∙ lines_ended (take i text) (drop (i + 1) text) is

pub end_here : (text : List ℕ) (i : ℕ) → i < length text → get_or text i 0 ≡ 10 → text ≡ take i text ++ 10 ∷ drop (i + 1) text
end_here text i lt is = take_here text i lt ∙ ap (λ (b : ℕ). take i text ++ b ∷ drop (i + 1) text) is

pub no_line : (text : List ℕ) (i : ℕ) → i < length text → (get_or text i 0 ≡ 0) ⊎ ((get_or text i 0 ≡ 0 → ⊥) × (get_or text i 0 ≡ 10)) → IsLine text → ⊥
no_line [] i lt bad is = absurd (omega (arith, lt))
no_line (b ∷ text) zero lt bad is = ⊎_elim is.0 (λ ended. is.1 ended.1) bad
no_line (b ∷ text) (suc i) lt bad is = no_line text i (omega (arith, lt)) bad is.2

read_at : (front : List ℕ) (b : ℕ) (rest : List ℕ) → get_or (front ++ b ∷ rest) (length front) 0 ≡ b
read_at [] b rest = refl
read_at (x ∷ front) b rest = read_at front b rest

read_behind : (front : List ℕ) (b : ℕ) (rest text : List ℕ) (n : ℕ) → text ≡ front ++ b ∷ rest → length front ≡ n → get_or text n 0 ≡ b
read_behind front b rest text n is len = ap (λ (l : List ℕ). get_or l n 0) is ∙ ap (λ (m : ℕ). get_or (front ++ b ∷ rest) m 0) (sym len) ∙ read_at front b rest

length_cut : (n : ℕ) (xs : List ℕ) → n < length xs → length (take n xs) ≡ n
length_cut zero xs lt = refl
length_cut (suc n) [] lt = absurd (omega (arith, lt))
length_cut (suc n) (x ∷ xs) lt = omega (arith, length_cut n xs (omega (arith, lt)))

-- a whole line more of a file
module _ (file : List ℕ) (n len : ℕ) (w : AreWhole false (take n file)) (is : IsLine (take len (drop n file))) (ended : drop n file ≡ take len (drop n file) ++ 10 ∷ drop (len + 1) (drop n file)) (lt : len < length (drop n file)) where
  ten_there : get_or (drop n file) len 0 ≡ 10
  ten_there = read_behind (take len (drop n file)) 10 (drop (len + 1) (drop n file)) (drop n file) len ended (length_cut len (drop n file) lt)

  one_more : take (n + (len + 1)) file ≡ take n file ++ (take len (drop n file) ++ 10 ∷ [])
  one_more = take_on n (len + 1) file ∙ ap (λ (l : List ℕ). take n file ++ l) (take_more (drop n file) len 0 lt ∙ ap (λ (b : ℕ). take len (drop n file) ++ b ∷ []) (ten_there))

  pub line_joins : AreWhole false (take (n + (len + 1)) file) × (lines (take (n + (len + 1)) file) ≡ lines (take n file) ++ take len (drop n file) ∷ [])
  line_joins = (subst (AreWhole false) (sym one_more) (whole_push (take n file) (take len (drop n file)) w is), ap lines one_more ∙ lines_push (take n file) (take len (drop n file)) w is)

-- what follows whole lines and stands for none
pub lines_rest : (n : ℕ) (file : List ℕ) → AreWhole false (take n file) → lines (drop n file) ≡ [] → lines (take n file) ≡ lines file
lines_rest n file w none = lines_cut n n file w none (omega arith)

pub line_all : (i : ℕ) (text : List ℕ) → length text ≤ i → IsLine (take i text) → IsLine text
line_all i [] le is = tt
line_all zero (b ∷ text) le is = absurd (omega (arith, le))
line_all (suc i) (b ∷ text) le is = (is.0, is.1, line_all i text (omega (arith, le)) is.2)

pub first_is : (text line rest : List ℕ) → text ≡ line ++ 10 ∷ rest → IsLine line → lines text ≡ line ∷ lines rest
first_is text line rest is plain = ap lines is ∙ lines_line line rest plain
