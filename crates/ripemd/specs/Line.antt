-- The two lines of RIPEMD-160 (Dobbertin, Bosselaers and Preneel, "RIPEMD-160: a strengthened version
-- of RIPEMD", 1996): five rounds of sixteen steps each, as tables. A word is a number below 2 ^ 32.
use Rattle.std.specs.Prelude.{ℕ, List, [], ◌∷◌, bit_and, bit_or, bit_xor}
use Rattle.std.specs.Int.{w32, bit_not}

-- x xor y xor z
abbrev pub f1 : ℕ → ℕ → ℕ → ℕ
f1 x y z = bit_xor (bit_xor x y) z

-- (x and y) or (not x and z)
abbrev pub f2 : ℕ → ℕ → ℕ → ℕ
f2 x y z = bit_or (bit_and x y) (bit_and (bit_not w32 x) z)

-- (x or not y) xor z
abbrev pub f3 : ℕ → ℕ → ℕ → ℕ
f3 x y z = bit_xor (bit_or x (bit_not w32 y)) z

-- (x and z) or (y and not z)
abbrev pub f4 : ℕ → ℕ → ℕ → ℕ
f4 x y z = bit_or (bit_and x z) (bit_and y (bit_not w32 z))

-- x xor (y or not z)
abbrev pub f5 : ℕ → ℕ → ℕ → ℕ
f5 x y z = bit_xor x (bit_or y (bit_not w32 z))

-- a line: for each round its function f and its constant K, and for each of the round's steps the
-- place r of the word that it reads and the places s by which it rotates
pub record Line : Type 0 where
  pub functions : List (ℕ → ℕ → ℕ → ℕ)
  pub constants : List ℕ
  pub reads : List (List ℕ)
  pub rotations : List (List ℕ)

-- r of the left line
abbrev pub left_reads : List (List ℕ)
left_reads =
    (0 ∷ 1 ∷ 2 ∷ 3 ∷ 4 ∷ 5 ∷ 6 ∷ 7 ∷ 8 ∷ 9 ∷ 10 ∷ 11 ∷ 12 ∷ 13 ∷ 14 ∷ 15 ∷ [])
    ∷ (7 ∷ 4 ∷ 13 ∷ 1 ∷ 10 ∷ 6 ∷ 15 ∷ 3 ∷ 12 ∷ 0 ∷ 9 ∷ 5 ∷ 2 ∷ 14 ∷ 11 ∷ 8 ∷ [])
    ∷ (3 ∷ 10 ∷ 14 ∷ 4 ∷ 9 ∷ 15 ∷ 8 ∷ 1 ∷ 2 ∷ 7 ∷ 0 ∷ 6 ∷ 13 ∷ 11 ∷ 5 ∷ 12 ∷ [])
    ∷ (1 ∷ 9 ∷ 11 ∷ 10 ∷ 0 ∷ 8 ∷ 12 ∷ 4 ∷ 13 ∷ 3 ∷ 7 ∷ 15 ∷ 14 ∷ 5 ∷ 6 ∷ 2 ∷ [])
    ∷ (4 ∷ 0 ∷ 5 ∷ 9 ∷ 7 ∷ 12 ∷ 2 ∷ 10 ∷ 14 ∷ 1 ∷ 3 ∷ 8 ∷ 11 ∷ 6 ∷ 15 ∷ 13 ∷ []) ∷ []

-- s of the left line
abbrev pub left_rotations : List (List ℕ)
left_rotations =
    (11 ∷ 14 ∷ 15 ∷ 12 ∷ 5 ∷ 8 ∷ 7 ∷ 9 ∷ 11 ∷ 13 ∷ 14 ∷ 15 ∷ 6 ∷ 7 ∷ 9 ∷ 8 ∷ [])
    ∷ (7 ∷ 6 ∷ 8 ∷ 13 ∷ 11 ∷ 9 ∷ 7 ∷ 15 ∷ 7 ∷ 12 ∷ 15 ∷ 9 ∷ 11 ∷ 7 ∷ 13 ∷ 12 ∷ [])
    ∷ (11 ∷ 13 ∷ 6 ∷ 7 ∷ 14 ∷ 9 ∷ 13 ∷ 15 ∷ 14 ∷ 8 ∷ 13 ∷ 6 ∷ 5 ∷ 12 ∷ 7 ∷ 5 ∷ [])
    ∷ (11 ∷ 12 ∷ 14 ∷ 15 ∷ 14 ∷ 15 ∷ 9 ∷ 8 ∷ 9 ∷ 14 ∷ 5 ∷ 6 ∷ 8 ∷ 6 ∷ 5 ∷ 12 ∷ [])
    ∷ (9 ∷ 15 ∷ 5 ∷ 11 ∷ 6 ∷ 8 ∷ 13 ∷ 12 ∷ 5 ∷ 12 ∷ 13 ∷ 14 ∷ 11 ∷ 8 ∷ 5 ∷ 6 ∷ []) ∷ []

-- r of the right line
abbrev pub right_reads : List (List ℕ)
right_reads =
    (5 ∷ 14 ∷ 7 ∷ 0 ∷ 9 ∷ 2 ∷ 11 ∷ 4 ∷ 13 ∷ 6 ∷ 15 ∷ 8 ∷ 1 ∷ 10 ∷ 3 ∷ 12 ∷ [])
    ∷ (6 ∷ 11 ∷ 3 ∷ 7 ∷ 0 ∷ 13 ∷ 5 ∷ 10 ∷ 14 ∷ 15 ∷ 8 ∷ 12 ∷ 4 ∷ 9 ∷ 1 ∷ 2 ∷ [])
    ∷ (15 ∷ 5 ∷ 1 ∷ 3 ∷ 7 ∷ 14 ∷ 6 ∷ 9 ∷ 11 ∷ 8 ∷ 12 ∷ 2 ∷ 10 ∷ 0 ∷ 4 ∷ 13 ∷ [])
    ∷ (8 ∷ 6 ∷ 4 ∷ 1 ∷ 3 ∷ 11 ∷ 15 ∷ 0 ∷ 5 ∷ 12 ∷ 2 ∷ 13 ∷ 9 ∷ 7 ∷ 10 ∷ 14 ∷ [])
    ∷ (12 ∷ 15 ∷ 10 ∷ 4 ∷ 1 ∷ 5 ∷ 8 ∷ 7 ∷ 6 ∷ 2 ∷ 13 ∷ 14 ∷ 0 ∷ 3 ∷ 9 ∷ 11 ∷ []) ∷ []

-- s of the right line
abbrev pub right_rotations : List (List ℕ)
right_rotations =
    (8 ∷ 9 ∷ 9 ∷ 11 ∷ 13 ∷ 15 ∷ 15 ∷ 5 ∷ 7 ∷ 7 ∷ 8 ∷ 11 ∷ 14 ∷ 14 ∷ 12 ∷ 6 ∷ [])
    ∷ (9 ∷ 13 ∷ 15 ∷ 7 ∷ 12 ∷ 8 ∷ 9 ∷ 11 ∷ 7 ∷ 7 ∷ 12 ∷ 7 ∷ 6 ∷ 15 ∷ 13 ∷ 11 ∷ [])
    ∷ (9 ∷ 7 ∷ 15 ∷ 11 ∷ 8 ∷ 6 ∷ 6 ∷ 14 ∷ 12 ∷ 13 ∷ 5 ∷ 14 ∷ 13 ∷ 13 ∷ 7 ∷ 5 ∷ [])
    ∷ (15 ∷ 5 ∷ 8 ∷ 11 ∷ 14 ∷ 14 ∷ 6 ∷ 14 ∷ 6 ∷ 9 ∷ 12 ∷ 9 ∷ 12 ∷ 5 ∷ 15 ∷ 8 ∷ [])
    ∷ (8 ∷ 5 ∷ 12 ∷ 9 ∷ 12 ∷ 5 ∷ 14 ∷ 6 ∷ 8 ∷ 13 ∷ 6 ∷ 5 ∷ 15 ∷ 13 ∷ 11 ∷ 11 ∷ []) ∷ []

-- the left line, with f1 to f5
abbrev pub left_line : Line
left_line = record {
  functions = f1 ∷ f2 ∷ f3 ∷ f4 ∷ f5 ∷ [];
  constants = 0x00000000 ∷ 0x5A827999 ∷ 0x6ED9EBA1 ∷ 0x8F1BBCDC ∷ 0xA953FD4E ∷ [];
  reads = left_reads;
  rotations = left_rotations;
}

-- the right line, with f5 to f1
abbrev pub right_line : Line
right_line = record {
  functions = f5 ∷ f4 ∷ f3 ∷ f2 ∷ f1 ∷ [];
  constants = 0x50A28BE6 ∷ 0x5C4DD124 ∷ 0x6D703EF3 ∷ 0x7A6D76E9 ∷ 0x00000000 ∷ [];
  reads = right_reads;
  rotations = right_rotations;
}
