-- How often an answer asks: as a tree of questions, of which one more is put where the one before was answered.
use Rattle.std.specs.Prelude.{if◌then◌else◌}
use Rattle.std.proofs.Common.{◌≡◌, ◌≢◌, ℕ, zero, suc, ◌+◌, ◌<◌, ◌≤◌, max, Bool, true, false, Option, Some, None, refl, ap, ◌∙◌, arith}
use Rattle.std.proofs.Math.Nat.{le-max_left, le-max_right, max-le}
use Rattle.signatures.specs.Known.{Known}
use Rattle.signatures.specs.Triple.{Triple}
use Rattle.signatures.specs.laws.Growth.{Grows}
use Rattle.interp.specs.Answer.{Answer, Says, Wants, answer_map, on_some, and_then, also}

-- the end, or a signature that is asked for, and what follows where it is valid and where it isn't
pub data Inquiry (A : Type 0) : Type 0 where
  End : A → Inquiry A
  Ask : Triple → Inquiry A → Inquiry A → Inquiry A

abbrev pub asked : {A : Type 0} → Option Bool → Triple → Answer A → Answer A → Answer A
asked (Some true) t valid invalid = valid
asked (Some false) t valid invalid = invalid
asked None t valid invalid = Wants t

abbrev pub answer_by : {A : Type 0} → Known → Inquiry A → Answer A
answer_by known (End x) = Says x
answer_by known (Ask t valid invalid) = asked (known t) t (answer_by known valid) (answer_by known invalid)

-- no more than so many questions are put, of which the end leaves some
abbrev pub IsWithin : {A : Type 0} → (A → ℕ) → ℕ → Inquiry A → Type 0
IsWithin left n (End x) = left x ≤ n
IsWithin left n (Ask t valid invalid) = (m : ℕ) × (m < n) × IsWithin left m valid × IsWithin left m invalid

-- what is answered by each knowledge is answered by such a tree
abbrev pub AsksWithin : {A : Type 0} → (A → ℕ) → ℕ → (Known → Answer A) → Type 0
AsksWithin {A} left n f = (tree : Inquiry A) × IsWithin left n tree × ((known : Known) → f known ≡ answer_by known tree)

-- ---- one answer after the other
abbrev pub follow : {A B : Type 0} → (A → Answer B) → Answer A → Answer B
follow f (Says x) = f x
follow f (Wants t) = Wants t

abbrev pub grafted : {A B : Type 0} → (A → Inquiry B) → Inquiry A → Inquiry B
grafted f (End x) = f x
grafted f (Ask t valid invalid) = Ask t (grafted f valid) (grafted f invalid)

asked-follow : {A B : Type 0} (f : A → Answer B) (o : Option Bool) (t : Triple) (valid invalid : Answer A)
    → follow f (asked o t valid invalid) ≡ asked o t (follow f valid) (follow f invalid)
asked-follow f (Some true) t valid invalid = refl
asked-follow f (Some false) t valid invalid = refl
asked-follow f None t valid invalid = refl

grafted-answers : {A B : Type 0} (known : Known) (f : A → Inquiry B) (tree : Inquiry A)
    → follow (λ x. answer_by known (f x)) (answer_by known tree) ≡ answer_by known (grafted f tree)
grafted-answers known f (End x) = refl
grafted-answers known f (Ask t valid invalid) =
    asked-follow (λ x. answer_by known (f x)) (known t) t (answer_by known valid) (answer_by known invalid)
    ∙ rw (grafted-answers known f valid, grafted-answers known f invalid) refl

wider : {A : Type 0} (left : A → ℕ) (n m : ℕ) (tree : Inquiry A) → n ≤ m → IsWithin left n tree → IsWithin left m tree
wider left n m (End x) h k = omega (arith, h, k)
wider left n m (Ask t valid invalid) h k = (k.0, omega (arith, h, k.1), k.2, k.3)

grafted-within : {A B : Type 0} (left : A → ℕ) (remains : B → ℕ) (n : ℕ) (f : A → Inquiry B) (tree : Inquiry A) → IsWithin left n tree
    → ((x : A) → IsWithin remains (left x) (f x)) → IsWithin remains n (grafted f tree)
grafted-within left remains n f (End x) h each = wider remains (left x) n (f x) h (each x)
grafted-within left remains n f (Ask t valid invalid) h each =
    (h.0, h.1, grafted-within left remains h.0 f valid h.2 each, grafted-within left remains h.0 f invalid h.3 each)

pub alike : {A : Type 0} (left : A → ℕ) (n : ℕ) (f g : Known → Answer A) → ((known : Known) → g known ≡ f known) → AsksWithin left n f → AsksWithin left n g
alike left n f g same a = (a.0, a.1, λ known. same known ∙ a.2 known)

pub more : {A : Type 0} (left : A → ℕ) (n m : ℕ) (f : Known → Answer A) → n ≤ m → AsksWithin left n f → AsksWithin left m f
more left n m f h a = (a.0, wider left n m a.0 h a.1, a.2)

pub says : {A : Type 0} (left : A → ℕ) (n : ℕ) (x : A) → left x ≤ n → AsksWithin left n (λ known. Says x)
says left n x h = (End x, h, λ known. refl)

follow-same : {A B : Type 0} (f g : A → Answer B) (a : Answer A) → ((x : A) → f x ≡ g x) → follow f a ≡ follow g a
follow-same f g (Says x) same = same x
follow-same f g (Wants t) same = refl

pub follows : {A B : Type 0} (left : A → ℕ) (remains : B → ℕ) (n : ℕ) (f : Known → Answer A) (g : A → Known → Answer B) → AsksWithin left n f
    → ((x : A) → AsksWithin remains (left x) (g x))
    → AsksWithin remains n (λ known. follow (λ x. g x known) (f known))
follows left remains n f g a each = (
  grafted (λ x. (each x).0) a.0,
  grafted-within left remains n (λ x. (each x).0) a.0 a.1 (λ x. (each x).1),
  λ known.
      ap (follow (λ x. g x known)) (a.2 known) ∙ follow-same (λ x. g x known) (λ x. answer_by known (each x).0) (answer_by known a.0) (λ x. (each x).2 known)
      ∙ grafted-answers known (λ x. (each x).0) a.0,
)

map-follow : {A B : Type 0} (f : A → B) (a : Answer A) → answer_map f a ≡ follow (λ x. Says (f x)) a
map-follow f (Says x) = refl
map-follow f (Wants t) = refl

pub maps : {A B : Type 0} (left : A → ℕ) (remains : B → ℕ) (n : ℕ) (f : A → B) (g : Known → Answer A) → ((x : A) → remains (f x) ≤ left x) → AsksWithin left n g
    → AsksWithin remains n (λ known. answer_map f (g known))
maps left remains n f g kept a =
    alike remains n (λ known. follow (λ x. Says (f x)) (g known)) (λ known. answer_map f (g known)) (λ known. map-follow f (g known))
    (follows left remains n g (λ x known. Says (f x)) a (λ x. says remains (left x) (f x) (kept x)))

then-follow : {A B : Type 0} (f : A → Answer (Option B)) (a : Answer (Option A)) → and_then f a ≡ follow (on_some f) a
then-follow f (Says x) = refl
then-follow f (Wants t) = refl

-- what is left where there is something to go on with
abbrev pub left_in : {A : Type 0} → (A → ℕ) → Option A → ℕ
left_in left (Some x) = left x
left_in left None = 0

pub somes : {A B : Type 0} (remains : Option B → ℕ) (n : ℕ) (o : Option A) (g : A → Known → Answer (Option B)) → remains None ≤ n
    → ((x : A) → o ≡ Some x → AsksWithin remains n (g x))
    → AsksWithin remains n (λ known. on_some (λ x. g x known) o)
somes remains n (Some x) g none each = each x refl
somes remains n None g none each = says remains n None none

pub thens : {A B : Type 0} (left : A → ℕ) (remains : B → ℕ) (n : ℕ) (f : Known → Answer (Option A)) (g : A → Known → Answer (Option B)) → AsksWithin (left_in left) n f
    → ((x : A) → AsksWithin (left_in remains) (left x) (g x)) → AsksWithin (left_in remains) n (λ known. and_then (λ x. g x known) (f known))
thens left remains n f g a each =
    alike (left_in remains) n (λ known. follow (on_some (λ x. g x known)) (f known)) (λ known. and_then (λ x. g x known) (f known)) (λ known. then-follow (λ x. g x known) (f known))
    (follows (left_in left) (left_in remains) n f (λ o known. on_some (λ x. g x known) o) a (by))
  where
    by : (o : Option _) → AsksWithin (left_in remains) (left_in left o) (λ known. on_some (λ x. g x known) o)
    by (Some x) = each x
    by None = says (left_in remains) 0 None (omega arith)

also-follow : (a b : Answer Bool) → also a b ≡ follow (λ valid. if valid then b else Says false) a
also-follow (Says true) b = refl
also-follow (Says false) b = refl
also-follow (Wants t) b = refl

-- of the first there remain those of the second
pub alsos : (n m : ℕ) (f g : Known → Answer Bool) → AsksWithin (λ valid. m) n f → AsksWithin (λ valid. 0) m g
    → AsksWithin (λ valid. 0) n (λ known. also (f known) (g known))
alsos n m f g a b =
    alike (λ valid. 0) n (λ known. follow (λ valid. if valid then g known else Says false) (f known)) (λ known. also (f known) (g known)) (λ known. also-follow (f known) (g known))
    (follows (λ valid. m) (λ valid. 0) n f (λ valid known. if valid then g known else Says false) a by)
  where
    by : (valid : Bool) → AsksWithin (λ v. 0) m (λ known. if valid then g known else Says false)
    by true = b
    by false = says (λ v. 0) m false (omega arith)

-- and others to come
pub before : {A : Type 0} (n m : ℕ) (f : Known → Answer A) → AsksWithin (λ x. 0) n f → AsksWithin (λ x. m) (n + m) f
before {A} n m f a = (a.0, by n a.0 a.1, a.2)
  where
    by : (n : ℕ) (tree : Inquiry A) → IsWithin (λ x. 0) n tree → IsWithin (λ x. m) (n + m) tree
    by n (End x) h = omega (arith, h)
    by n (Ask t valid invalid) h = (h.0 + m, omega (arith, h.1), by h.0 valid h.2, by h.0 invalid h.3)

pub chosen : {A : Type 0} (left : A → ℕ) (n : ℕ) (b : Bool) (f g : Known → Answer A) → AsksWithin left n f → AsksWithin left n g
    → AsksWithin left n (λ known. if b then f known else g known)
chosen left n true f g a b = a
chosen left n false f g a b = b

-- ---- what is left to be asked
-- the most questions that may still be put
abbrev pub yet : Option Bool → ℕ → ℕ → ℕ
yet (Some true) valid invalid = valid
yet (Some false) valid invalid = invalid
yet None valid invalid = suc (max valid invalid)

abbrev pub asks_left : {A : Type 0} → Known → Inquiry A → ℕ
asks_left known (End x) = 0
asks_left known (Ask t valid invalid) = yet (known t) (asks_left known valid) (asks_left known invalid)

yet-within : (o : Option Bool) (a b n : ℕ) → a < n → b < n → yet o a b ≤ n
yet-within (Some true) a b n h k = omega (arith, h)
yet-within (Some false) a b n h k = omega (arith, k)
yet-within None a b zero h k = absurd (omega (arith, h))
yet-within None a b (suc n) h k =
    let m : max a b ≤ n = max-le (omega (arith, h)) (omega (arith, k)) in omega (arith, m)

pub within-left : {A : Type 0} (left : A → ℕ) (known : Known) (n : ℕ) (tree : Inquiry A) → IsWithin left n tree → asks_left known tree ≤ n
within-left left known n (End x) h = omega arith
within-left left known n (Ask t valid invalid) h =
    let a = within-left left known h.0 valid h.2 in
    let b = within-left left known h.0 invalid h.3 in
    yet-within (known t) (asks_left known valid) (asks_left known invalid) n (omega (arith, a, h.1)) (omega (arith, b, h.1))

module _ (known next : Known) (grows : Grows known next) where
  yet-fewer : (t : Triple) (o : Option Bool) (a b c d : ℕ) → known t ≡ o → c ≤ a → d ≤ b → yet (next t) c d ≤ yet o a b
  yet-fewer t (Some true) a b c d is h k = rw (grows t true is) h
  yet-fewer t (Some false) a b c d is h k = rw (grows t false is) k
  yet-fewer t None a b c d is h k =
      let l = le-max_left a b in
      let r = le-max_right a b in
      yet-within (next t) c d (suc (max a b)) (omega (arith, h, l)) (omega (arith, k, r))

  pub fewer-left : {A : Type 0} (tree : Inquiry A) → asks_left next tree ≤ asks_left known tree
  fewer-left (End x) = omega arith
  fewer-left (Ask t valid invalid) =
      yet-fewer t (known t) (asks_left known valid) (asks_left known invalid) (asks_left next valid) (asks_left next invalid) refl (fewer-left valid) (fewer-left invalid)

  -- where what was wanted is known
  one-fewer : {A : Type 0} (tree valid invalid : Inquiry A) (t : Triple) (o : Option Bool) → next t ≡ o → o ≢ None
      → yet o (asks_left next valid) (asks_left next invalid) < suc (max (asks_left known valid) (asks_left known invalid))
  one-fewer tree valid invalid t (Some true) is some =
      let l = le-max_left (asks_left known valid) (asks_left known invalid) in let f = fewer-left valid in omega (arith, l, f)
  one-fewer tree valid invalid t (Some false) is some =
      let r = le-max_right (asks_left known valid) (asks_left known invalid) in let f = fewer-left invalid in omega (arith, r, f)
  one-fewer tree valid invalid t None is some = absurd (some refl)

  pub one-found : {A : Type 0} (tree : Inquiry A) (t : Triple) → answer_by known tree ≡ Wants t → next t ≢ None → asks_left next tree < asks_left known tree
  one-found (End x) t e found = cc
  one-found (Ask u valid invalid) t e found = by (known u) refl (λ h. one-found valid t h found) (λ h. one-found invalid t h found) e
    where
      by : (o : Option Bool) → known u ≡ o → (answer_by known valid ≡ Wants t → asks_left next valid < asks_left known valid)
          → (answer_by known invalid ≡ Wants t → asks_left next invalid < asks_left known invalid)
          → asked o u (answer_by known valid) (answer_by known invalid) ≡ Wants t → asks_left next (Ask u valid invalid) < yet o (asks_left known valid) (asks_left known invalid)
      by (Some true) is yes_fewer no_fewer e = rw (grows u true is) (yes_fewer e)
      by (Some false) is yes_fewer no_fewer e = rw (grows u false is) (no_fewer e)
      by None is yes_fewer no_fewer e = let same : u ≡ t = cc in one-fewer (Ask u valid invalid) valid invalid u (next u) refl (rw same found)

pub one-left : {A : Type 0} (known : Known) (tree : Inquiry A) (t : Triple) → answer_by known tree ≡ Wants t → 0 < asks_left known tree
one-left known (End x) t e = cc
one-left known (Ask u valid invalid) t e = by (known u) (one-left known valid t) (one-left known invalid t) e
  where
    by : (o : Option Bool) → (answer_by known valid ≡ Wants t → 0 < asks_left known valid) → (answer_by known invalid ≡ Wants t → 0 < asks_left known invalid)
        → asked o u (answer_by known valid) (answer_by known invalid) ≡ Wants t → 0 < yet o (asks_left known valid) (asks_left known invalid)
    by (Some true) of_valid of_invalid e = of_valid e
    by (Some false) of_valid of_invalid e = of_invalid e
    by None of_valid of_invalid e = omega arith
