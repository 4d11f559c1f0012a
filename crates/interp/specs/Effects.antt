-- What opcodes do to stacks and conditions: None where the script fails.
use Rattle.std.specs.Prelude.{ℕ, List, [], ◌∷◌, ◌++◌, length, map, reverse, take, drop, remove, Bool, false, not, Option, Some, None, option_and_then, nat_lt, int_lt, ◌&&◌, if◌then◌else◌, pos, ℤ}
use Rattle.std.specs.Option.{option_map}
use Rattle.std.specs.Str.{bytes_eq}
use Rattle.script.specs.Num.{operand, shortest_bytes}
use Rattle.interp.specs.Limits.{max_number_size}
use Rattle.interp.specs.Stack.{Bytes, Stack, nth, pop}
use Rattle.interp.specs.Elements.{truth, truth_bytes, flag, natural_of}
use Rattle.interp.specs.State.{State}
use Rattle.interp.specs.Timelocks.{is_same, is_met}

infixl 10 ◌>>=◌
abbrev pub ◌>>=◌ : {A B : Type 0} → Option A → (A → Option B) → Option B
o >>= f = option_and_then f o

-- ---- the main stack
abbrev pub push : Bytes → Stack → Option Stack
push x s = Some (x ∷ s)

-- takes so many elements; in their place come the ones of these numbers, the first lowest, where the lowest is number 0
unfoldable pub moves : ℕ → List ℕ → Stack → Option Stack
moves n left s =
    let taken = reverse (take n s) in
    if nat_lt (length s) n then None else Some (reverse (map (nth taken) left) ++ drop n s)

-- takes the top, and fails if it is false
abbrev pub verify : Stack → Option Stack
verify [] = None
verify (a ∷ rest) = if truth a then Some rest else None

-- `a -> a a` if a is true
abbrev pub if_dup : Stack → Option Stack
if_dup [] = None
if_dup (a ∷ rest) = Some (if truth a then a ∷ a ∷ rest else a ∷ rest)

-- `a -> a length(a)`
abbrev pub size : Stack → Option Stack
size [] = None
size (a ∷ rest) = Some (shortest_bytes (pos (length a)) ∷ a ∷ rest)

-- `a b -> T or F`: whether they have the same bytes
abbrev pub equal_bytes : Stack → Option Stack
equal_bytes (b ∷ a ∷ rest) = Some (truth_bytes (bytes_eq a b) ∷ rest)
equal_bytes s = None

-- `a -> hash(a)`
abbrev pub digest : (Bytes → Bytes) → Stack → Option Stack
digest hash [] = None
digest hash (a ∷ rest) = Some (hash a ∷ rest)

-- pushes the number of elements
abbrev pub depth : Stack → Option Stack
depth s = Some (shortest_bytes (pos (length s)) ∷ s)

-- the number on top, of at most four bytes, and the others
unfoldable pub pop_number : Stack → Option (ℤ × Stack)
pop_number [] = None
pop_number (a ∷ rest) = option_map (λ x. (x, rest)) (operand max_number_size a)

-- takes numbers, and pushes one that is made of them
unfoldable pub one_number : (ℤ → ℤ) → Stack → Option Stack
one_number f s = do
  x ← pop_number s
  Some (shortest_bytes (f x.0) ∷ x.1)

unfoldable pub two_numbers : (ℤ → ℤ → ℤ) → Stack → Option Stack
two_numbers f s = do
  y ← pop_number s
  x ← pop_number y.1
  Some (shortest_bytes (f x.0 y.0) ∷ x.1)

-- `x min max -> min <= x and x < max`, as 1 or 0
unfoldable pub within : Stack → Option Stack
within s = do
  max ← pop_number s
  min ← pop_number max.1
  x ← pop_number min.1
  Some (shortest_bytes (flag (not (int_lt x.0 min.0) && int_lt x.0 max.0)) ∷ x.1)

-- the number on top, if it is a place among the others, where 0 is their top; and the others
unfoldable pub pop_place : Stack → Option (ℕ × Stack)
pop_place [] = None
pop_place (a ∷ rest) = option_and_then (λ n. if nat_lt n (length rest) then Some (n, rest) else None) (natural_of max_number_size a)

-- copies, or moves, to the top the element at this place
unfoldable pub pick : Stack → Option Stack
pick s = option_map (λ place. nth place.1 place.0 ∷ place.1) (pop_place s)

unfoldable pub roll : Stack → Option Stack
roll s = option_map (λ place. nth place.1 place.0 ∷ remove place.1 place.0) (pop_place s)

-- ---- states
-- the main stack alone changes
abbrev pub on_main : (Stack → Option Stack) → State → Option State
on_main f s = option_map (λ main. record s { main = main }) (f s.main)

abbrev pub to_alt : State → Option State
to_alt s = do
  top ← pop s.main
  Some (record s { main = top.1; alt = top.0 ∷ s.alt })

abbrev pub from_alt : State → Option State
from_alt s = do
  top ← pop s.alt
  Some (record s { main = top.0 ∷ s.main; alt = top.1 })

-- takes the top, and opens a branch that is taken if that has this truth
abbrev pub branch : Bool → State → Option State
branch at s = do
  top ← pop s.main
  Some (record s { main = top.1; conditions = is_same at (truth top.0) ∷ s.conditions })

-- opens a branch that isn't taken
abbrev pub untaken_branch : State → Option State
untaken_branch s = Some (record s { conditions = false ∷ s.conditions })

-- turns the innermost condition
abbrev pub turn : State → Option State
turn s = do
  top ← pop s.conditions
  Some (record s { conditions = not top.0 ∷ top.1 })

abbrev pub close : State → Option State
close s = do
  top ← pop s.conditions
  Some (record s { conditions = top.1 })

-- fails unless the number on top, which stays, passes the test
unfoldable pub ask : (ℕ → Bool) → State → Option State
ask test s = do
  top ← pop s.main
  if is_met test top.0 then Some s else None

-- the same where the rule is in force, and else nothing
abbrev pub ask_if : Bool → (ℕ → Bool) → State → Option State
ask_if in_force test s = if in_force then ask test s else Some s
