-- What several lives of a log leave.
use Rattle.std.proofs.Common.{◌≡◌, ℕ, ◌≤◌, List, [], ◌∷◌, ◌++◌, length, get_or, refl, sym, ◌∙◌, ap, subst, arith, append_assoc, length-append, drop}
use Rattle.std.proofs.lemmas.List.{append-nil}
use mathlib.Core.List.{IsPrefix}
use Rattle.durable.specs.Crash.{Event}
use Rattle.durable.specs.Lines.{lines}
use Rattle.durable.specs.KeptSteps.{told, AreUpTo, Keeps, Life, IsLife, AreLives, AllAreUpTo, left_by}
use Rattle.durable.proofs.Torn.{up_to_more}

abbrev Lines : Type 0
Lines = List (List ℕ)

head_is : (x y : List ℕ) (xs ys : Lines) → x ∷ xs ≡ y ∷ ys → x ≡ y
head_is x y xs ys is = ap (λ (l : Lines). get_or l 0 x) is

rest_is : (x y : List ℕ) (xs ys : Lines) → x ∷ xs ≡ y ∷ ys → xs ≡ ys
rest_is x y xs ys is = ap (λ (l : Lines). drop 1 l) is

-- of two beginnings of one list the shorter begins the longer
shorter : (xs ys all : Lines) → IsPrefix xs all → IsPrefix ys all → length xs ≤ length ys → IsPrefix xs ys
shorter [] ys all p q le = (ys, refl)
shorter (x ∷ xs) [] all p q le = absurd (omega (arith, le))
shorter (x ∷ xs) (y ∷ ys) [] p q le = absurd (omega (arith, ap length p.1))
shorter (x ∷ xs) (y ∷ ys) (z ∷ all) p q le =
    let more = shorter xs ys all (p.0, rest_is x z (xs ++ p.0) all p.1) (q.0, rest_is y z (ys ++ q.0) all q.1) (omega (arith, le)) in
    let same : x ≡ y = head_is x z (xs ++ p.0) all p.1 ∙ sym (head_is y z (ys ++ q.0) all q.1) in
    (more.0, ap (λ (l : Lines). x ∷ l) more.1 ∙ ap (λ (l : List ℕ). l ∷ ys) same)

longer : (xs ys zs : Lines) → IsPrefix xs ys → IsPrefix ys zs → IsPrefix xs zs
longer xs ys zs p q = (p.0 ++ q.0, sym (append_assoc xs p.0 q.0) ∙ ap (λ (l : Lines). l ++ q.0) p.1 ∙ q.1)

size : (xs ys : Lines) → IsPrefix xs ys → length xs ≤ length ys
size xs ys p = omega (arith, ap length p.1, length-append xs p.0)

module _ (file : List ℕ) (life : Life) (is : IsLife file life) where
  kept : Keeps life.history life.left (told life.calls)
  kept = is.keeps life.left is.leaves

  first : length (lines file) ≤ length (lines life.left)
  first = (subst (λ (l : List Event). AreUpTo (length (lines life.left)) (told l)) is.opened.2 kept.has).0

  begins : IsPrefix (lines file) (lines life.left)
  begins = shorter (lines file) (lines life.left) life.history is.begins kept.beginning first

pub grows : (file : List ℕ) (lives : List Life) → AreLives file lives → IsPrefix (lines file) (lines (left_by file lives))
grows file [] are = ([], append-nil (lines file))
grows file (life ∷ lives) are = longer (lines file) (lines life.left) (lines (left_by life.left lives)) (begins file life are.0) (grows life.left lives are.1)

pub has : (file : List ℕ) (lives : List Life) → AreLives file lives → AllAreUpTo (length (lines (left_by file lives))) lives
has file [] are = tt
has file (life ∷ lives) are = (
  up_to_more (length (lines life.left)) (length (lines (left_by life.left lives))) (told life.calls)
      (size (lines life.left) (lines (left_by life.left lives)) (grows life.left lives are.1)) (kept file life are.0).has,
  has life.left lives are.1,
)
