-- What a file of lines stands for. No line has a zero byte, and a byte that was lost is zero or behind the file's end:
-- so an end of line that is reached over no zero byte ends a line that is whole.
use Rattle.std.specs.Prelude.{◌≡◌, ◌≢◌, ◌≤◌, ◌+◌, ◌||◌, ℕ, Bool, true, false, not, List, [], ◌∷◌, ◌++◌, length, take, if◌then◌else◌, ◌==◌}

-- the lines of a text, with this line begun, up to one that is not ended or has a zero byte
abbrev pub lines_on : List ℕ → List ℕ → List (List ℕ)
lines_on line [] = []
lines_on line (b ∷ text) = if b == 0 then [] else (if b == 10 then line ∷ lines_on [] text else lines_on (line ++ b ∷ []) text)

-- the lines that a file stands for
abbrev pub lines : List ℕ → List (List ℕ)
lines file = lines_on [] file

-- nothing but whole lines; the flag says whether a line is begun
abbrev pub AreWhole : Bool → List ℕ → Type 0
AreWhole begun [] = begun ≡ false
AreWhole begun (b ∷ text) = (b ≢ 0) × AreWhole (not (b == 10)) text

-- the whole lines of a file end behind so many bytes
abbrev pub IsEnd : List ℕ → ℕ → Type 0
IsEnd file n = (n ≤ length file) × AreWhole false (take n file) × (lines (take n file) ≡ lines file)

-- it can be a line: no byte is zero or ends one
abbrev pub IsLine : List ℕ → Type 0
IsLine [] = Unit {0}
IsLine (b ∷ line) = (b ≢ 0) × (b ≢ 10) × IsLine line

-- whether a line is ended that began behind an end of line and has no zero byte; the flag says that one is begun
abbrev pub has_whole_line : Bool → List ℕ → Bool
has_whole_line begun [] = false
has_whole_line begun (b ∷ text) =
    if b == 0 then has_whole_line false text else (if b == 10 then begun || has_whole_line true text else has_whole_line begun text)

-- Whether a whole line stands behind the first zero byte. What a crash loses of one line leaves none there.
abbrev pub is_spoiled : List ℕ → Bool
is_spoiled [] = false
is_spoiled (b ∷ text) = if b == 0 then has_whole_line false text else is_spoiled text

-- where the first zero byte is
abbrev pub first_zero : List ℕ → ℕ
first_zero [] = 0
first_zero (b ∷ text) = if b == 0 then 0 else first_zero text + 1
