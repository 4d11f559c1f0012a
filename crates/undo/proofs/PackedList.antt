-- Coins packed one after the other, and read back.
use Rattle.std.proofs.Common.{◌≡◌, ℕ, zero, suc, ◌+◌, ◌≤◌, List, [], ◌∷◌, ◌++◌, length, map, take, drop, refl, sym, ap, ◌∙◌, arith}
use Rattle.std.specs.Prelude.{sum, sum_by}
use Rattle.std.proofs.lemmas.List.{append_assoc, append-nil, drop-append-le, length-append, length-drop, take-append-le}
use Rattle.std.proofs.lemmas.List.Sums.{sum_by-cons, sum_by_push}
use Rattle.std.proofs.Math.Seq.{drop-append_seam, take-append_seam, take-length}
use Rattle.coins.specs.declared.coin.Coin.{Coin}
use Rattle.undo.specs.declared.coin_head.CoinHead.{CoinHead}
use Rattle.undo.specs.inside.PackedCoins.{coin_at, grouped, head_of, packed_coins, AreWhole}

-- ---- coins in one list

abbrev len : CoinHead → ℕ
len h = h.script_len

pub packed-long : (heads : List CoinHead) (bytes : List ℕ) → length (packed_coins heads bytes) ≡ length heads
packed-long [] bytes = refl
packed-long (h ∷ heads) bytes = ap suc (packed-long heads (drop h.script_len bytes))

-- one more at the end
pub packed-push : (heads : List CoinHead) (bytes : List ℕ) (h : CoinHead) (script : List ℕ) → AreWhole heads bytes → h.script_len ≡ length script
    → packed_coins (heads ++ h ∷ []) (bytes ++ script) ≡ packed_coins heads bytes ++ coin_at h script ∷ []
packed-push [] [] h script whole e = refl
packed-push [] (b ∷ bytes) h script whole e = absurd (omega arith)
packed-push (k ∷ heads) bytes h script whole e =
    let s = sum_by-cons len k heads in
    let fits : k.script_len ≤ length bytes = omega arith in
    let left = length-drop k.script_len bytes in
    let rest : AreWhole heads (drop k.script_len bytes) = omega arith in
    ap (λ (t : List ℕ). record { value = k.value; script = t; height = k.height; coinbase = k.coinbase } ∷ packed_coins (heads ++ h ∷ []) (drop k.script_len (bytes ++ script))) (take-append-le k.script_len bytes script fits)
    ∙ ap (λ (t : List ℕ). coin_at k bytes ∷ packed_coins (heads ++ h ∷ []) t) (drop-append-le k.script_len bytes script fits)
    ∙ ap (λ (cs : List Coin). coin_at k bytes ∷ cs) (packed-push heads (drop k.script_len bytes) h script rest e)

-- a coin of its own head
pub own-head : (coin : Coin) → coin_at (head_of coin) coin.script ≡ coin
own-head coin = ap (λ (t : List ℕ). record coin { script = t }) (take-length coin.script)

pub whole-push : (heads : List CoinHead) (bytes : List ℕ) (h : CoinHead) (script : List ℕ) → AreWhole heads bytes → h.script_len ≡ length script → AreWhole (heads ++ h ∷ []) (bytes ++ script)
whole-push heads bytes h script whole e = let s = sum_by_push len heads h in let l = length-append bytes script in omega arith

-- the first one, and those behind it
pub first-fits : (h : CoinHead) (heads : List CoinHead) (bytes : List ℕ) → AreWhole (h ∷ heads) bytes → h.script_len ≤ length bytes
first-fits h heads bytes whole = let s = sum_by-cons len h heads in omega arith

pub rest-whole : (h : CoinHead) (heads : List CoinHead) (bytes : List ℕ) → AreWhole (h ∷ heads) bytes → AreWhole heads (drop h.script_len bytes)
rest-whole h heads bytes whole = let s = sum_by-cons len h heads in let l = length-drop h.script_len bytes in omega arith

-- the item at the front of what is left of a list, and what is left behind it
pub next-there : {A : Type 0} (i : ℕ) (xs : List A) (x : A) (rest : List A) → drop i xs ≡ x ∷ rest → (take (suc i) xs ≡ take i xs ++ x ∷ []) × (drop (suc i) xs ≡ rest)
next-there zero [] x rest e = absurd cc
next-there zero (y ∷ xs) x rest e = (cc, cc)
next-there (suc i) [] x rest e = absurd cc
next-there (suc i) (y ∷ xs) x rest e = let k = next-there i xs x rest e in (ap (λ l. y ∷ l) k.0, k.1)

-- ---- lists of them

-- lists one after the other
unfoldable pub flat : {A : Type 0} → List (List A) → List A
flat [] = []
flat (x ∷ xs) = x ++ flat xs

pub flat-push : {A : Type 0} (xs : List (List A)) (x : List A) → flat (xs ++ x ∷ []) ≡ flat xs ++ x
unfolding flat
flat-push [] x = append-nil x
flat-push (y ∷ xs) x = ap (λ l. y ++ l) (flat-push xs x) ∙ sym (append_assoc y (flat xs) x)

-- in lists of the lengths that they had
pub grouped-flat : (xs : List (List Coin)) → grouped (map length xs) (flat xs) ≡ xs
unfolding flat
grouped-flat [] = refl
grouped-flat (x ∷ xs) =
    ap (λ (l : List Coin). l ∷ grouped (map length xs) (drop (length x) (x ++ flat xs))) (take-append_seam x (flat xs))
    ∙ ap (λ (l : List Coin). x ∷ grouped (map length xs) l) (drop-append_seam x (flat xs))
    ∙ ap (λ (l : List (List Coin)). x ∷ l) (grouped-flat xs)

pub flat-long : (xs : List (List Coin)) → sum (map length xs) ≡ length (flat xs)
unfolding flat
flat-long [] = refl
flat-long (x ∷ xs) =
    let s = sum_by-cons (λ n. n) (length x) (map length xs) in
    let l = length-append x (flat xs) in
    let r = flat-long xs in
    omega arith
