-- A line that is appended to a table's text adds its triple.
use Rattle.std.proofs.Common.{◌≡◌, ℕ, suc, ◌+◌, ◌*◌, ◌/◌, ◌%◌, ◌==◌, ◌<◌, Bool, true, false, ◌&&◌, List, [], ◌∷◌, ◌++◌, length, get_or, nat_lt, slice_index, codes, refl, sym, ap, ◌∙◌, subst, append_assoc, inl, inr, arith, true≢false}
use Rattle.std.specs.List.{All, AllPass, filter, list_all, onto_first, slice_split}
use Rattle.std.proofs.lemmas.Bool.{eqb-true}
use Rattle.std.proofs.lemmas.Bool.Decides.{nat_tests}
use Rattle.std.proofs.lemmas.List.Elements.{All-append, All-cons}
use Rattle.std.proofs.lemmas.List.Splits.{length-slice_split, slice_split-cons_no, slice_split-cons_yes, slice_split_at, slice_split_none}
use Rattle.std.proofs.lemmas.List.Sums.{AllPass-from_list_all}
use Rattle.hex.specs.Hex.{IsBytes, encode_lower, encode_with, lower_digits}
use Rattle.hex.proofs.HexLemmas.{decode_of-encode_lower, length-encode_with}
use Rattle.signatures.specs.Lines.{IsDigest, IsHex, IsTableOf, Spells, StandsFor, is_digit, lines, words}
use Rattle.signatures.specs.Triple.{Triples, triple_of}
use Rattle.std.specs.FinSet as set
use Rattle.signatures.proofs.Tables.{table_adds}
use Rattle.ffi.specs.Tables.{line_of, word_of}

-- ---- the digits of a word

digit : (n : ℕ) → n < 16 → is_digit (slice_index lower_digits n) ≡ true
digit n lt = AllPass-from_list_all is_digit lower_digits refl n 0 lt

both : (a b : Bool) → a ≡ true → b ≡ true → (a && b) ≡ true
both true b h k = k
both false b h k = absurd (true≢false (sym h))

digits : (bytes : List ℕ) → IsBytes bytes → list_all is_digit (encode_lower bytes) ≡ true
unfolding encode_with
digits [] fits = refl
digits (b ∷ rest) fits =
    let byte : b < 256 = fits 0 in
    let high : b / 16 < 16 = omega arith in
    let low : b % 16 < 16 = omega arith in
    both (is_digit (slice_index lower_digits (b / 16))) _ (digit (b / 16) high)
    (both (is_digit (slice_index lower_digits (b % 16))) _ (digit (b % 16) low) (digits rest (λ k. fits (suc k))))

IsHex-encode_lower : (bytes : List ℕ) → IsBytes bytes → IsHex (encode_lower bytes) bytes
IsHex-encode_lower bytes fits = (AllPass-from_list_all is_digit (encode_lower bytes) (digits bytes fits), decode_of-encode_lower bytes fits)

-- ---- bytes that don't stand in a word

abbrev Lacks : ℕ → List ℕ → Type 0
Lacks c bytes = All (λ x. (x == c) ≡ false) bytes

other : (c x : ℕ) → is_digit c ≡ false → is_digit x ≡ true → (x == c) ≡ false
other c x fails passes = go (x == c) refl
  where
    go : (b : Bool) → (x == c) ≡ b → (x == c) ≡ false
    go true e = absurd (true≢false (sym passes ∙ ap is_digit (eqb-true x c e) ∙ fails))
    go false e = e

hex_lacks : (c : ℕ) → is_digit c ≡ false → (bytes : List ℕ) → IsBytes bytes → Lacks c (encode_lower bytes)
hex_lacks c fails bytes fits = λ k d lt. other c (get_or (encode_lower bytes) k d) fails (AllPass-from_list_all is_digit (encode_lower bytes) (digits bytes fits) k d lt)

none_lacks : (c : ℕ) → Lacks c []
none_lacks c = λ k d lt. absurd (omega arith)

word_lacks : (c : ℕ) → is_digit c ≡ false → (45 == c) ≡ false → (bytes : List ℕ) → IsBytes bytes → Lacks c (word_of bytes)
word_lacks c fails dash [] fits = All-cons (λ x. (x == c) ≡ false) 45 [] dash (none_lacks c)
word_lacks c fails dash (byte ∷ bytes) fits = hex_lacks c fails (byte ∷ bytes) fits

word_long : (bytes : List ℕ) → 0 < length (word_of bytes)
word_long [] = omega arith
word_long (byte ∷ bytes) = omega (arith, length-encode_with lower_digits (byte ∷ bytes))

word_stands : (bytes : List ℕ) → IsBytes bytes → StandsFor (word_of bytes) bytes
word_stands [] fits = inl (refl, refl)
word_stands (byte ∷ bytes) fits = inr (IsHex-encode_lower (byte ∷ bytes) fits)

-- ---- three words between spaces

abbrev joined : List ℕ → List ℕ → List ℕ → List ℕ
joined a b c = a ++ 32 ∷ (b ++ 32 ∷ c)

abbrev kept : List (List ℕ) → List (List ℕ)
kept parts = filter (λ word. nat_lt 0 (length word)) parts

kept_one : (word : List ℕ) (parts : List (List ℕ)) → 0 < length word → kept (word ∷ parts) ≡ word ∷ kept parts
kept_one [] parts h = absurd (omega arith)
kept_one (x ∷ word) parts h = grind (arith, nat_tests)

words_joined : (a b c : List ℕ) → Lacks 32 a → Lacks 32 b → Lacks 32 c → 0 < length a → 0 < length b → 0 < length c → words (joined a b c) ≡ a ∷ b ∷ c ∷ []
words_joined a b c na nb nc la lb lc =
    let is_space : ℕ → Bool = λ byte. byte == 32 in
    let first : slice_split is_space (joined a b c) ≡ a ∷ slice_split is_space (b ++ 32 ∷ c) = slice_split_at is_space a 32 (b ++ 32 ∷ c) na refl in
    let second : slice_split is_space (b ++ 32 ∷ c) ≡ b ∷ slice_split is_space c = slice_split_at is_space b 32 c nb refl in
    let third : slice_split is_space c ≡ c ∷ [] = slice_split_none is_space c nc in
    let whole : slice_split is_space (joined a b c) ≡ a ∷ b ∷ c ∷ [] = first ∙ ap (λ ps. a ∷ ps) (second ∙ ap (λ ps. b ∷ ps) third) in
    ap kept whole ∙ kept_one a (b ∷ c ∷ []) la ∙ ap (λ ps. a ∷ ps) (kept_one b (c ∷ []) lb ∙ ap (λ ps. b ∷ ps) (kept_one c [] lc))

joined_lacks : (n : ℕ) (a b c : List ℕ) → (32 == n) ≡ false → Lacks n a → Lacks n b → Lacks n c → Lacks n (joined a b c)
joined_lacks n a b c space na nb nc =
    let P : ℕ → Type 0 = λ x. (x == n) ≡ false in
    All-append P a (32 ∷ (b ++ 32 ∷ c)) na (All-cons P 32 (b ++ 32 ∷ c) space (All-append P b (32 ∷ c) nb (All-cons P 32 c space nc)))

-- ---- a line more

onto_push : (x : ℕ) (ps : List (List ℕ)) (l : List ℕ) → 0 < length ps → onto_first x (ps ++ l ∷ []) ≡ onto_first x ps ++ l ∷ []
onto_push x [] l h = absurd (omega arith)
onto_push x (p ∷ ps) l h = refl

lines_push : (text line : List ℕ) → Lacks 10 line → lines (text ++ 10 ∷ line) ≡ lines text ++ line ∷ []
lines_push [] line lacks = slice_split_at (λ byte. byte == 10) [] 10 line (none_lacks 10) refl ∙ ap (λ ps. [] ∷ ps) (slice_split_none (λ byte. byte == 10) line lacks)
lines_push (x ∷ text) line lacks = go (lines_push text line lacks) (x == 10) refl
  where
    go : lines (text ++ 10 ∷ line) ≡ lines text ++ line ∷ [] → (b : Bool) → (x == 10) ≡ b → lines (x ∷ text ++ 10 ∷ line) ≡ lines (x ∷ text) ++ line ∷ []
    go before true e =
        slice_split-cons_yes (λ byte. byte == 10) x (text ++ 10 ∷ line) e
        ∙ ap (λ ps. [] ∷ ps) before
        ∙ sym (ap (λ ps. ps ++ line ∷ []) (slice_split-cons_yes (λ byte. byte == 10) x text e))
    go before false e =
        let some : 0 < length (lines text) = omega (arith, length-slice_split (λ byte. byte == 10) text) in
        slice_split-cons_no (λ byte. byte == 10) x (text ++ 10 ∷ line) e
        ∙ ap (onto_first x) before
        ∙ onto_push x (lines text) line some
        ∙ sym (ap (λ ps. ps ++ line ∷ []) (slice_split-cons_no (λ byte. byte == 10) x text e))

pub line_adds : (text key signature digest : List ℕ) (triples : Triples) → IsBytes key → IsBytes signature → IsBytes digest → length digest ≡ 32 → IsTableOf (lines text) triples → IsTableOf (lines (text ++ line_of key signature digest)) (set.insert triples (triple_of key signature digest))
line_adds text key signature digest triples fk fs fd long is =
    let a = word_of key in
    let b = word_of signature in
    let c = encode_lower digest in
    let size : length c ≡ 64 = omega (arith, length-encode_with lower_digits digest) in
    let spaced = words_joined a b c (word_lacks 32 refl refl key fk) (word_lacks 32 refl refl signature fs) (hex_lacks 32 refl digest fd) (word_long key) (word_long signature) (omega arith) in
    let ended = joined_lacks 10 a b c refl (word_lacks 10 refl refl key fk) (word_lacks 10 refl refl signature fs) (hex_lacks 10 refl digest fd) in
    let spelled : Spells (a ∷ b ∷ c ∷ []) (triple_of key signature digest) = (word_stands key fk, word_stands signature fs, (size, IsHex-encode_lower digest fd)) in
    let read : Spells (words (joined a b c)) (triple_of key signature digest) = subst (λ (ws : List (List ℕ)). Spells ws (triple_of key signature digest)) (sym spaced) spelled in
    let nested : line_of key signature digest ≡ 10 ∷ joined a b c = ap (λ (r : List ℕ). 10 ∷ r) (append_assoc a (32 ∷ b) (32 ∷ c)) in
    let pushed : lines (text ++ line_of key signature digest) ≡ lines text ++ joined a b c ∷ [] = ap (λ (l : List ℕ). lines (text ++ l)) nested ∙ lines_push text (joined a b c) ended in
    subst (λ (ls : List (List ℕ)). IsTableOf ls (set.insert triples (triple_of key signature digest))) (sym pushed) (table_adds (lines text) (joined a b c) triples (triple_of key signature digest) is read)
