-- The push of a height, by the number of its bytes.
use Rattle.std.proofs.Common.{◌≡◌, ℕ, zero, suc, ◌+◌, ◌/◌, ◌%◌, ◌<◌, ◌≤◌, List, [], ◌∷◌, length, nat_le, pos, refl, sym, ap, ◌∙◌, arith}
use Rattle.std.proofs.lemmas.Bool.{lt-ltb, le-ltb, le-leb, lt-leb, and_from, and_right}
use Rattle.script.specs.Num.{shortest_bytes, shortest_bytes_with}
use Rattle.rules.specs.Context.{height_push}

same : (x y : ℕ) (xs ys : List ℕ) → x ≡ y → xs ≡ ys → (x ∷ xs) ≡ (y ∷ ys)
same x y xs ys p q = cc

-- a byte, and the others
byte : (f n a : ℕ) (others : List ℕ) → 128 ≤ n → a ≡ n % 256 → shortest_bytes_with f 0 (n / 256) ≡ others → shortest_bytes_with (suc f) 0 n ≡ a ∷ others
unfolding shortest_bytes_with
byte f n a others past p q = rw (le-ltb n 128 past) (same (n % 256) a (shortest_bytes_with f 0 (n / 256)) others (sym p) q)

last : (f n a : ℕ) → n < 128 → a ≡ n → shortest_bytes_with (suc f) 0 n ≡ a ∷ []
unfolding shortest_bytes_with
last f n a below p = rw (lt-ltb n 128 below) (same (n + 0) a [] [] (omega arith) refl)

positive : (n : ℕ) → 0 < n → shortest_bytes (pos n) ≡ shortest_bytes_with 9 0 n
unfolding shortest_bytes
positive zero h = absurd (omega arith)
positive (suc n) h = refl

-- a height above 16 is pushed as a number
as_number : (height : ℕ) (bytes : List ℕ) → 16 < height → shortest_bytes_with 9 0 height ≡ bytes → height_push height ≡ length bytes ∷ bytes
unfolding height_push
as_number height bytes h e =
    rw (and_right (nat_le 1 height) (nat_le height 16) (lt-leb height 16 h)) (ap (λ b. length b ∷ b) (positive height (omega arith) ∙ e))

pub none : height_push 0 ≡ 0 ∷ []
unfolding height_push shortest_bytes
none = refl

pub opcode : (height a : ℕ) → 1 ≤ height → height ≤ 16 → a ≡ height → height_push height ≡ (80 + a) ∷ []
unfolding height_push
opcode height a low high p =
    rw (and_from (nat_le 1 height) (nat_le height 16) (le-leb 1 height low) (le-leb height 16 high)) (ap (λ n. (80 + n) ∷ []) (sym p))

pub one : (height a : ℕ) → 16 < height → height < 128 → a ≡ height → height_push height ≡ 1 ∷ a ∷ []
one height a low high p = as_number height (a ∷ []) low (last 8 height a high p)

pub two : (height a b : ℕ) → 128 ≤ height → height < 32768 → a ≡ height % 256 → b ≡ height / 256 → height_push height ≡ 2 ∷ a ∷ b ∷ []
two height a b low high p q =
    as_number height (a ∷ b ∷ []) (omega arith) (byte 8 height a (b ∷ []) low p (last 7 (height / 256) b (omega arith) q))

pub three : (height a b c : ℕ) → 32768 ≤ height → height < 8388608 → a ≡ height % 256 → b ≡ height / 256 % 256 → c ≡ height / 256 / 256 → height_push height ≡ 3 ∷ a ∷ b ∷ c ∷ []
three height a b c low high p q r =
    as_number height (a ∷ b ∷ c ∷ []) (omega arith)
    (byte 8 height a (b ∷ c ∷ []) (omega arith) p (byte 7 (height / 256) b (c ∷ []) (omega arith) q (last 6 (height / 256 / 256) c (omega arith) r)))

pub four : (height a b c d : ℕ) → 8388608 ≤ height → height < 2147483648 → a ≡ height % 256 → b ≡ height / 256 % 256 → c ≡ height / 256 / 256 % 256 → d ≡ height / 256 / 256 / 256 → height_push height ≡ 4 ∷ a ∷ b ∷ c ∷ d ∷ []
four height a b c d low high p q r s =
    as_number height (a ∷ b ∷ c ∷ d ∷ []) (omega arith)
    (byte 8 height a (b ∷ c ∷ d ∷ []) (omega arith) p (byte 7 (height / 256) b (c ∷ d ∷ []) (omega arith) q
    (byte 6 (height / 256 / 256) c (d ∷ []) (omega arith) r (last 5 (height / 256 / 256 / 256) d (omega arith) s))))

pub five : (height a b c d : ℕ) → 2147483648 ≤ height → height < 4294967296 → a ≡ height % 256 → b ≡ height / 256 % 256 → c ≡ height / 256 / 256 % 256 → d ≡ height / 256 / 256 / 256 → height_push height ≡ 5 ∷ a ∷ b ∷ c ∷ d ∷ 0 ∷ []
five height a b c d low high p q r s =
    as_number height (a ∷ b ∷ c ∷ d ∷ 0 ∷ []) (omega arith)
    (byte 8 height a (b ∷ c ∷ d ∷ 0 ∷ []) (omega arith) p (byte 7 (height / 256) b (c ∷ d ∷ 0 ∷ []) (omega arith) q
    (byte 6 (height / 256 / 256) c (d ∷ 0 ∷ []) (omega arith) r (byte 5 (height / 256 / 256 / 256) d (0 ∷ []) (omega arith) (omega arith)
    (last 4 (height / 256 / 256 / 256 / 256) 0 (omega arith) (omega arith))))))
