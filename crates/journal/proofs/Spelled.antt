-- A word of heights, a part at a time.
use Rattle.std.proofs.Common.{◌≡◌, inr, ℕ, List, [], ◌∷◌, ◌++◌, Option, Some, None, refl, sym, ap, subst, ◌∙◌, arith}
use Rattle.std.specs.Borrow.{Bor}
use Rattle.std.specs.List.{join_with_byte}
use Rattle.std.specs.Prelude.{MatchOption, IfSome}
use Rattle.std.proofs.lemmas.Str.Pattern.{IsSplitOnceResult, split_parts}
use Rattle.rules.specs.declared.params.Params.{Params}
use Rattle.rules.specs.Params.{of_heights}
use Rattle.journal.specs.Heights.{IsNumber, Sets, IsSpelling}
use Rattle.journal.specs.inside.HeightSets.{AreSets}
use Rattle.journal.proofs.Parts.{Lacks, Split, numeral-lacks, found-parts}
use Rattle.journal.proofs.Sets.{stands}

-- the word's first three parts, and what is behind them
pub record Front (word rest : List ℕ) (bip34 bip65 bip66 : ℕ) : Type 0 where
  pub first : List ℕ
  pub second : List ℕ
  pub third : List ℕ
  pub word_is : word ≡ first ++ (44 ∷ (second ++ (44 ∷ (third ++ (44 ∷ rest)))))
  pub first_is : IsNumber first bip34
  pub second_is : IsNumber second bip65
  pub third_is : IsNumber third bip66

abbrev pub Fronts : List ℕ → List ℕ → ℕ → Type 0
Fronts word rest n = (digits : List ℕ) × (word ≡ digits ++ (44 ∷ rest)) × IsNumber digits n

pub front-of : (word one two three : List ℕ) (a b c : ℕ) → Fronts word one a → Fronts one two b → Fronts two three c → Front word three a b c
front-of word one two three a b c f g h = record {
  first = f.0;
  second = g.0;
  third = h.0;
  word_is = f.1 ∙ ap (λ (t : List ℕ). f.0 ++ (44 ∷ t)) (g.1 ∙ ap (λ (t : List ℕ). g.0 ++ (44 ∷ t)) h.1);
  first_is = f.2;
  second_is = g.2;
  third_is = h.2;
}

-- ---- what is read is spelled
pub spelled-alone : (word rest : List ℕ) (a b c csv : ℕ) → Front word rest a b c → IsNumber rest csv → IsSpelling word (of_heights a b c csv)
spelled-alone word rest a b c csv f number = record {
  first = f.first;
  second = f.second;
  third = f.third;
  fourth = rest;
  others = [];
  word_is = f.word_is;
  bip34 = a;
  bip65 = b;
  bip66 = c;
  csv = csv;
  first_is = f.first_is;
  second_is = f.second_is;
  third_is = f.third_is;
  fourth_is = number;
  sets = refl;
}

pub spelled-more : (word rest fourth others : List ℕ) (a b c csv : ℕ) (after : Params) → Front word rest a b c → rest ≡ fourth ++ (44 ∷ others) → IsNumber fourth csv → AreSets others (of_heights a b c csv) after
    → IsSpelling word after
spelled-more word rest fourth others a b c csv after f is number sets = record {
  first = f.first;
  second = f.second;
  third = f.third;
  fourth = fourth;
  others = sets.0 ∷ sets.1;
  word_is = f.word_is ∙ ap (λ (t : List ℕ). f.first ++ (44 ∷ (f.second ++ (44 ∷ (f.third ++ (44 ∷ t)))))) (is ∙ ap (λ (t : List ℕ). fourth ++ (44 ∷ t)) sets.2);
  bip34 = a;
  bip65 = b;
  bip66 = c;
  csv = csv;
  first_is = f.first_is;
  second_is = f.second_is;
  third_is = f.third_is;
  fourth_is = number;
  sets = sets.3;
}

-- ---- what is spelled is read: behind the third comma
no-comma : (n : ℕ) (fourth : List ℕ) → IsNumber fourth n → Lacks 44 fourth
no-comma n fourth number = numeral-lacks 44 fourth (inr (omega arith)) number.0

-- with no comma more, four numbers are all
pub ends : (rest fourth : List ℕ) (others : List (List ℕ)) (n : ℕ) (r : Split) → IsSplitOnceResult 44 rest r → r ≡ None → rest ≡ join_with_byte 44 (fourth ∷ others) → IsNumber fourth n → (others ≡ []) × IsNumber rest n
ends rest fourth [] n r split is same number = (refl, subst (λ (t : List ℕ). IsNumber t n) (sym same) number)
ends rest fourth (x ∷ xs) n r split is same number =
    let none : Lacks 44 rest = subst (λ (o : Split). MatchOption o (Lacks 44 rest) (λ p. (rest ≡ p.0.now ++ (44 ∷ p.1.now)) × Lacks 44 p.0.now)) is (split_parts 44 rest r split (omega arith)) in
    absurd (stands 44 rest fourth (join_with_byte 44 (x ∷ xs)) same none)

-- with one more there are others
pub goes-on : (rest fourth : List ℕ) (others : List (List ℕ)) (n : ℕ) (a b : Bor (List ℕ)) (r : Split) (before after : Params) → IsSplitOnceResult 44 rest r → r ≡ Some (a, b) → rest ≡ join_with_byte 44 (fourth ∷ others) → IsNumber fourth n
    → Sets others before after → IsNumber a.now n × AreSets b.now before after
goes-on rest fourth [] n a b r before after split is same number sets =
    let at : (rest ≡ a.now ++ (44 ∷ b.now)) × Lacks 44 a.now = subst (λ (o : Split). MatchOption o (Lacks 44 rest) (λ p. (rest ≡ p.0.now ++ (44 ∷ p.1.now)) × Lacks 44 p.0.now)) is (split_parts 44 rest r split (omega arith)) in
    absurd (stands 44 fourth a.now b.now (sym same ∙ at.0) (no-comma n fourth number))
goes-on rest fourth (x ∷ xs) n a b r before after split is same number sets =
    let parts = found-parts 44 rest fourth (join_with_byte 44 (x ∷ xs)) r a b split (omega arith) same (no-comma n fourth number) is in
    (subst (λ (t : List ℕ). IsNumber t n) (sym parts.0) number, (x, xs, parts.1, sets))

pub same-heights : (a b c d a' b' c' d' : ℕ) → a ≡ a' → b ≡ b' → c ≡ c' → d ≡ d' → of_heights a b c d ≡ of_heights a' b' c' d'
same-heights a b c d a' b' c' d' e f g h = λ i. of_heights (e i) (f i) (g i) (h i)

pub if-some : {A : Type 0} (P Q : A → Type 0) (o : Option A) → ((x : A) → P x → Q x) → IfSome o P → IfSome o Q
if-some P Q (Some x) to held = to x held
if-some P Q None to held = tt
