-- What one block does to the five words of RIPEMD-160.
use Rattle.std.specs.Prelude.{ℕ, zero, suc, ◌+◌, ◌/◌, ◌%◌, ◌^◌, List, [], map, length, slice_index, slice_index_or}
use Rattle.std.specs.Int.{w32, rotate_left, from_le_bytes}
use Rattle.std.specs.Simd.{first_chunks}
use Rattle.ripemd.specs.Line.{Line, f1, left_line, right_line}
use Rattle.ripemd.specs.declared.state.State.{State}

-- the whole pieces of n bytes, in order
abbrev pub pieces : ℕ → List ℕ → List (List ℕ)
pieces n bytes = first_chunks n (length bytes / n) bytes

-- the words of a block, each of 4 bytes, the lowest first
abbrev pub words_of : List ℕ → List ℕ
words_of block = map (λ bytes. from_le_bytes w32 bytes) (pieces 4 block)

-- number j of a table's rows of sixteen
abbrev pub entry : List (List ℕ) → ℕ → ℕ
entry rows j = slice_index (slice_index_or rows (j / 16) []) (j % 16)

-- a step: T = rol(A + f(B, C, D) + X[r] + K, s) + E; A = E; E = D; D = rol(C, 10); C = B; B = T
abbrev pub step : (ℕ → ℕ → ℕ → ℕ) → ℕ → ℕ → ℕ → State → State
step f constant word rotation v =
    let sum = (v.a + f v.b v.c v.d + word + constant) % 2 ^ 32 in
    record {
      a = v.e;
      b = (rotate_left w32 sum rotation + v.e) % 2 ^ 32;
      c = v.b;
      d = rotate_left w32 v.c 10;
      e = v.d;
    }

-- step j of a line, from 0, over the words x of a block
abbrev pub line_step : Line → List ℕ → ℕ → State → State
line_step line x j v =
    step (slice_index_or line.functions (j / 16) f1) (slice_index line.constants (j / 16))
    (slice_index x (entry line.reads j)) (entry line.rotations j) v

-- A to E after the first n steps of a line that starts from h
unfoldable pub after_steps : Line → List ℕ → State → ℕ → State
after_steps line x h zero = h
after_steps line x h (suc n) = line_step line x n (after_steps line x h n)

-- the end of a block: h0 to h4, from those before and from A to E of both lines
abbrev pub end_of_block : State → State → State → State
end_of_block h l r = record {
  a = (h.b + l.c + r.d) % 2 ^ 32;
  b = (h.c + l.d + r.e) % 2 ^ 32;
  c = (h.d + l.e + r.a) % 2 ^ 32;
  d = (h.e + l.a + r.b) % 2 ^ 32;
  e = (h.a + l.b + r.c) % 2 ^ 32;
}

-- h0 to h4 after a block
unfoldable pub after_block : State → List ℕ → State
after_block h block =
    let x = words_of block in
    end_of_block h (after_steps left_line x h 80) (after_steps right_line x h 80)
