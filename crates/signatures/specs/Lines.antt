-- The lines of a table file: a key, a signature and a digest in hexadecimal, parted by spaces.
use Rattle.std.specs.Prelude.{◌≡◌, ◌+◌, ◌==◌, ◌&&◌, ◌||◌, ◌⊎◌, ◌++◌, ℕ, Bool, true, IsTrue, nat_le, nat_lt, List, [], ◌∷◌, length, slice_index, codes, Ok, ◌↔◌}
use Rattle.std.specs.List.{All, AllPass, Any, filter, slice_split}
use Rattle.std.specs.FinSet as set
use Rattle.hex.specs.Hex.{decode_of}
use Rattle.signatures.specs.declared.fault.TableFault.{TableFault}
use Rattle.signatures.specs.declared.fault.TableFault.TheVariants.{BadLine, Memory}
use Rattle.signatures.specs.Triple.{Triple, Triples}

-- the lines of a text
abbrev pub lines : List ℕ → List (List ℕ)
lines text = slice_split (λ byte. byte == 10) text

-- the words of a line: its parts between spaces, but for the empty ones
abbrev pub words : List ℕ → List (List ℕ)
words line = filter (λ word. nat_lt 0 (length word)) (slice_split (λ byte. byte == 32) line)

-- a line without words, or whose first begins with `#`, is skipped
abbrev pub is_skipped : List (List ℕ) → Bool
is_skipped [] = true
is_skipped (word ∷ more) = slice_index word 0 == 35

-- one of 0123456789abcdef
abbrev pub is_digit : ℕ → Bool
is_digit c = nat_le 48 c && nat_le c 57 || nat_le 97 c && nat_le c 102

-- a word is the lower-case hexadecimal of bytes
abbrev pub IsHex : List ℕ → List ℕ → Type 0
IsHex word bytes = AllPass is_digit word × (decode_of word ≡ Ok bytes)

-- a word spells bytes, `-` none
abbrev pub StandsFor : List ℕ → List ℕ → Type 0
StandsFor word bytes = ((word ≡ codes "-") × (bytes ≡ [])) ⊎ IsHex word bytes

-- a word spells a digest, in 64 digits
abbrev pub IsDigest : List ℕ → List ℕ → Type 0
IsDigest word digest = (length word ≡ 64) × IsHex word digest

-- a line's words spell a triple
abbrev pub Spells : List (List ℕ) → Triple → Type 0
Spells (key ∷ signature ∷ digest ∷ []) t = StandsFor key t.key × StandsFor signature t.signature × IsDigest digest t.digest
Spells _ t = ⊥

-- a line can be read: it is skipped, or its words spell a triple
abbrev pub IsReadable : List ℕ → Type 0
IsReadable line = IsTrue (is_skipped (words line)) ⊎ ((t : Triple) × Spells (words line) t)

-- a table of lines: each can be read, and the triples are those that they spell
pub record IsTableOf (ls : List (List ℕ)) (table : Triples) : Type 0 where
  pub readable : All IsReadable ls
  pub triples : (t : Triple) → IsTrue (set.contains table t) ↔ Any (λ line. Spells (words line) t) ls

-- line n, counted from 1, is the first that can't be read
pub record IsFirstBad (ls : List (List ℕ)) (n : ℕ) : Type 0 where
  pub before : List (List ℕ)
  pub line : List ℕ
  pub after : List (List ℕ)
  pub place : ls ≡ before ++ line ∷ after
  pub number : n ≡ length before + 1
  pub readable : All IsReadable before
  pub bad : ¬ IsReadable line

-- why lines are no table; of running out of memory nothing is said
abbrev pub IsFaultOf : List (List ℕ) → TableFault → Type 0
IsFaultOf ls (BadLine n) = IsFirstBad ls n
IsFaultOf ls Memory = Unit {0}

-- why a line of this number isn't read; of running out of memory nothing is said
abbrev pub IsLineFault : List ℕ → ℕ → TableFault → Type 0
IsLineFault line number (BadLine n) = (n ≡ number) × ¬ IsReadable line
IsLineFault line number Memory = Unit {0}
