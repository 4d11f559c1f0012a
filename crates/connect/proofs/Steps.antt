-- Steps of loops.
use Rattle.std.proofs.Common.{◌≡◌, Bool, true, false, ◌||◌, Option, Some, None, is_some, ℕ, zero, suc, ◌+◌, ◌-◌, ◌<◌, ◌≤◌, List, [], ◌∷◌, ◌++◌, length, get_or, drop, take, map, pos, ◌+ℤ◌, refl, sym, ap, ap₂, ◌∙◌, add-one, arith}
use Rattle.std.specs.List.{zip}
use Rattle.std.proofs.Math.Seq.{drop-cons, take-suc}
use Rattle.std.proofs.lemmas.List.{take_all, length-drop}
use Rattle.std.proofs.lemmas.List.Sums.{fold-append}
use Rattle.txn.specs.declared.output.TxOut.{TxOut}
use Rattle.txn.specs.Check.{total}
pub use Rattle.std.proofs.Math.ListN.{drop_of_length-le}

-- the item at a place begins the rest
pub drop_item : {A : Type 0} (xs : List A) (i : ℕ) (x : A) → i < length xs → x ≡ get_or xs i x → drop i xs ≡ x ∷ drop (i + 1) xs
drop_item xs i x h e = drop-cons xs i x h ∙ ap (λ y. y ∷ drop (suc i) xs) (sym e) ∙ ap (λ n. x ∷ drop n xs) (sym (add-one i))

-- and stands behind those before it
pub take_item : {A : Type 0} (xs : List A) (i : ℕ) (x : A) → i < length xs → x ≡ get_or xs i x → take (i + 1) xs ≡ take i xs ++ x ∷ []
take_item xs i x h e = ap (λ n. take n xs) (add-one i) ∙ take-suc xs i x h ∙ ap (λ y. take i xs ++ y ∷ []) (sym e)

pub total-next : (xs : List TxOut) (i : ℕ) (x : TxOut) → i < length xs → x ≡ get_or xs i x → total (take (i + 1) xs) ≡ total (take i xs) +ℤ x.value
total-next xs i x h e = ap total (take_item xs i x h e) ∙ fold-append (λ sum output. sum +ℤ output.value) (pos 0) (take i xs) (x ∷ [])

pub zip_at : {A B : Type 0} (xs : List A) (ys : List B) (i : ℕ) (x : A) (y : B) → i < length xs → i < length ys → x ≡ get_or xs i x → y ≡ get_or ys i y → (x, y) ≡ get_or (zip xs ys) i (x, y)
zip_at [] ys i x y h k ex ey = absurd (omega arith)
zip_at (a ∷ xs) [] i x y h k ex ey = absurd (omega arith)
zip_at (a ∷ xs) (b ∷ ys) zero x y h k ex ey = ap₂ (λ u v. (u, v)) ex ey
zip_at (a ∷ xs) (b ∷ ys) (suc i) x y h k ex ey = zip_at xs ys i x y (omega arith) (omega arith) ex ey

pub length-zip : {A B : Type 0} (xs : List A) (ys : List B) → length ys ≤ length xs → length (zip xs ys) ≡ length ys
length-zip [] [] h = refl
length-zip [] (y ∷ ys) h = absurd (omega arith)
length-zip (x ∷ xs) [] h = refl
length-zip (x ∷ xs) (y ∷ ys) h = ap (λ n. suc n) (length-zip xs ys (omega arith))

pub map_at : {A B : Type 0} (f : A → B) (xs : List A) (i : ℕ) (x : A) → x ≡ get_or xs i x → f x ≡ get_or (map f xs) i (f x)
map_at f [] i x e = refl
map_at f (a ∷ xs) zero x e = ap f e
map_at f (a ∷ xs) (suc i) x e = map_at f xs i x e

pub item_of : {A : Type 0} {xs ys : List A} (i : ℕ) (x : A) → xs ≡ ys → x ≡ get_or xs i x → x ≡ get_or ys i x
item_of i x h e = e ∙ ap (λ l. get_or l i x) h

-- all but the first, as a slice
pub tail_of : {A : Type 0} (xs : List A) → take (length xs - 1) (drop 1 xs) ≡ drop 1 xs
tail_of xs = take_all (length xs - 1) (drop 1 xs) (omega (arith, length-drop 1 xs))

-- neither of two tests passes
pub neither : (a b : Bool) → (a || b) ≡ false → (a ≡ false) × (b ≡ false)
neither true b h = cc
neither false b h = (refl, h)

pub none_of : {A : Type 0} (o : Option A) → is_some o ≡ false → o ≡ None
none_of (Some x) h = cc
none_of None h = refl
