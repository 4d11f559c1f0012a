-- What elements mean: truths (Bitcoin Core's `CastToBool`), and numbers.
use Rattle.std.specs.Prelude.{ℕ, ◌==◌, [], ◌∷◌, Bool, true, false, not, ◌||◌, ◌&&◌, Option, Some, None, option_and_then, pos, negsuc, ℤ}
use Rattle.script.specs.Num.{operand}
use Rattle.interp.specs.Stack.{Bytes, Stack}

-- some byte isn't 0, but for a last one of 80
unfoldable pub truth : Bytes → Bool
truth [] = false
truth (b ∷ []) = not (b == 0) && not (b == 0x80)
truth (b ∷ c ∷ bytes) = not (b == 0) || truth (c ∷ bytes)

-- the top is there, and true
abbrev pub top_is_true : Stack → Bool
top_is_true [] = false
top_is_true (a ∷ rest) = truth a

-- T is the byte 01, F is no byte
abbrev pub truth_bytes : Bool → Bytes
truth_bytes true = 1 ∷ []
truth_bytes false = []

-- as a number, 1 or 0
abbrev pub flag : Bool → ℤ
flag true = pos 1
flag false = pos 0

-- a number that isn't negative
abbrev pub natural : ℤ → Option ℕ
natural (pos n) = Some n
natural (negsuc n) = None

-- the same of an element of at most so many bytes
abbrev pub natural_of : ℕ → Bytes → Option ℕ
natural_of most a = option_and_then natural (operand most a)
