-- Zero bytes, what has come of a source, and the heads of records.
use Rattle.std.proofs.Common.{◌≡◌, ℕ, ◌+◌, ◌≤◌, true, false, List, [], ◌∷◌, ◌++◌, length, take, refl, sym, ap, ap₂, ◌∙◌, le_refl, drop_at, append_assoc, length-take-le}
use Rattle.std.specs.Prelude.{◌==◌}
use Rattle.std.specs.List.{list_all}
use Rattle.std.proofs.lemmas.Bool.{eqb-true, eq-eqb}
use Rattle.std.proofs.lemmas.Slice.{take-put_mid_below}
use Rattle.byteorder.specs.Endian.{little_bytes}
use borrow.Rule.Slice.PartMut.{put_mid}
use lib.Seq.{take-add, take-append-le}
use Rattle.block.proofs.Highest.{both_true}
use Rattle.block.specs.Blk.{magic, head, IsEnd, Remain}

pub zeros_true : (xs : List ℕ) → list_all (λ byte. byte == 0) xs ≡ true → IsEnd xs
zeros_true [] h = tt
zeros_true (x ∷ xs) h = let two = both_true (x == 0) (list_all (λ byte. byte == 0) xs) h in (eqb-true x 0 two.0, zeros_true xs two.1)

all_zero : (xs : List ℕ) → IsEnd xs → list_all (λ byte. byte == 0) xs ≡ true
all_zero [] h = refl
all_zero (x ∷ xs) h = rw (eq-eqb x 0 h.0, all_zero xs h.1) refl

pub zeros_false : (xs : List ℕ) → list_all (λ byte. byte == 0) xs ≡ false → IsEnd xs → ⊥
zeros_false xs e h = let both : true ≡ false = sym (all_zero xs h) ∙ e in absurd cc

pub end_append : (xs ys : List ℕ) → IsEnd xs → IsEnd ys → IsEnd (xs ++ ys)
end_append [] ys a b = b
end_append (x ∷ xs) ys a b = (a.0, end_append xs ys a.1 b)

pub end_front : (xs ys : List ℕ) → IsEnd (xs ++ ys) → IsEnd xs
end_front [] ys h = tt
end_front (x ∷ xs) ys h = (h.0, end_front xs ys h.1)

pub end_back : (xs ys : List ℕ) → IsEnd (xs ++ ys) → IsEnd ys
end_back [] ys h = h
end_back (x ∷ xs) ys h = end_back xs ys h.1

-- what came, and then what came next
pub come_next : (old front middle piece new : List ℕ) → old ≡ front ++ middle → middle ≡ piece ++ new → old ≡ (front ++ piece) ++ new
come_next old front middle piece new a b = a ∙ ap (λ (t : List ℕ). front ++ t) b ∙ sym (append_assoc front piece new)

pub remain_after : (old front middle new : List ℕ) → old ≡ front ++ middle → Remain middle new → Remain old new
remain_after old front middle new a r = (front ++ r.0, come_next old front middle r.0 new a r.1)

pub remain_trans : (old middle new : List ℕ) → Remain old middle → Remain middle new → Remain old new
remain_trans old middle new a b = remain_after old a.0 middle new a.1 b

-- a buffer after the part from a on was written
pub filled : (a k n : ℕ) (xs ys : List ℕ) → a ≤ length xs → n ≤ length ys → take (a + n) (put_mid a k xs ys) ≡ take a xs ++ take n ys
filled a k n xs ys within fits =
    take-add a n (put_mid a k xs ys)
    ∙ ap₂ (λ (s t : List ℕ). s ++ t) (take-put_mid_below a k xs ys a (le_refl a) within) (ap (take n) (drop_at (take a xs) _ a (length-take-le a xs within)) ∙ take-append-le n ys _ fits)

pub head_is : (front m r s more : List ℕ) (len : ℕ) → front ≡ m ++ r → m ≡ magic → r ≡ little_bytes 4 len ++ s → front ++ more ≡ head len ++ (s ++ more)
head_is front m r s more len a b c =
    ap (λ (t : List ℕ). t ++ more) (a ∙ ap (λ (t : List ℕ). t ++ r) b ∙ ap (λ (t : List ℕ). magic ++ t) c)
