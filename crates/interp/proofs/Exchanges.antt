-- Rows that rearrange the stack, by what they do to the elements in their places.
use Rattle.std.proofs.Common.{◌≡◌, ℕ, ◌<◌, ◌≤◌, List, [], ◌∷◌, ◌++◌, length, map, reverse, take, drop, Some, None, refl, arith}
use Rattle.std.specs.List.{swap}
use borrow.Author.Tests.{lt-ltb, le-ltb}
use Rattle.interp.specs.Stack.{Stack, nth}
use Rattle.interp.specs.Effects.{moves}

pub moved_short : (n : ℕ) (left : List ℕ) (s : Stack) → length s < n → moves n left s ≡ None
unfolding moves
moved_short n left s h = rw (lt-ltb (length s) n h) refl

there : (n : ℕ) (left : List ℕ) (s : Stack) → n ≤ length s → moves n left s ≡ Some (reverse (map (nth (reverse (take n s))) left) ++ drop n s)
unfolding moves
there n left s h = rw (le-ltb (length s) n h) refl

pub moved_Drop2 : (s : Stack) → 2 ≤ length s → moves 2 [] s ≡ Some (drop 2 s)
moved_Drop2 [] h = absurd (omega arith)
moved_Drop2 (a ∷ []) h = absurd (omega arith)
moved_Drop2 (a ∷ b ∷ rest) h = there 2 [] (a ∷ b ∷ rest) h

pub moved_Dup2 : (s : Stack) → 2 ≤ length s → moves 2 (0 ∷ 1 ∷ 0 ∷ 1 ∷ []) s ≡ Some (nth (nth s 1 ∷ s) 1 ∷ (nth s 1 ∷ s))
moved_Dup2 [] h = absurd (omega arith)
moved_Dup2 (a ∷ []) h = absurd (omega arith)
moved_Dup2 (a ∷ b ∷ rest) h = there 2 (0 ∷ 1 ∷ 0 ∷ 1 ∷ []) (a ∷ b ∷ rest) h

pub moved_Dup3 : (s : Stack) → 3 ≤ length s → moves 3 (0 ∷ 1 ∷ 2 ∷ 0 ∷ 1 ∷ 2 ∷ []) s ≡ Some (nth (nth (nth s 2 ∷ s) 2 ∷ (nth s 2 ∷ s)) 2 ∷ (nth (nth s 2 ∷ s) 2 ∷ (nth s 2 ∷ s)))
moved_Dup3 [] h = absurd (omega arith)
moved_Dup3 (a ∷ []) h = absurd (omega arith)
moved_Dup3 (a ∷ b ∷ []) h = absurd (omega arith)
moved_Dup3 (a ∷ b ∷ c ∷ rest) h = there 3 (0 ∷ 1 ∷ 2 ∷ 0 ∷ 1 ∷ 2 ∷ []) (a ∷ b ∷ c ∷ rest) h

pub moved_Over2 : (s : Stack) → 4 ≤ length s → moves 4 (0 ∷ 1 ∷ 2 ∷ 3 ∷ 0 ∷ 1 ∷ []) s ≡ Some (nth (nth s 3 ∷ s) 3 ∷ (nth s 3 ∷ s))
moved_Over2 [] h = absurd (omega arith)
moved_Over2 (a ∷ []) h = absurd (omega arith)
moved_Over2 (a ∷ b ∷ []) h = absurd (omega arith)
moved_Over2 (a ∷ b ∷ c ∷ []) h = absurd (omega arith)
moved_Over2 (a ∷ b ∷ c ∷ d ∷ rest) h = there 4 (0 ∷ 1 ∷ 2 ∷ 3 ∷ 0 ∷ 1 ∷ []) (a ∷ b ∷ c ∷ d ∷ rest) h

pub moved_Rot2 : (s : Stack) → 6 ≤ length s → moves 6 (2 ∷ 3 ∷ 4 ∷ 5 ∷ 0 ∷ 1 ∷ []) s ≡ Some (swap (swap (swap (swap s 0 2) 1 3) 0 4) 1 5)
moved_Rot2 [] h = absurd (omega arith)
moved_Rot2 (a ∷ []) h = absurd (omega arith)
moved_Rot2 (a ∷ b ∷ []) h = absurd (omega arith)
moved_Rot2 (a ∷ b ∷ c ∷ []) h = absurd (omega arith)
moved_Rot2 (a ∷ b ∷ c ∷ d ∷ []) h = absurd (omega arith)
moved_Rot2 (a ∷ b ∷ c ∷ d ∷ e ∷ []) h = absurd (omega arith)
moved_Rot2 (a ∷ b ∷ c ∷ d ∷ e ∷ f ∷ rest) h = there 6 (2 ∷ 3 ∷ 4 ∷ 5 ∷ 0 ∷ 1 ∷ []) (a ∷ b ∷ c ∷ d ∷ e ∷ f ∷ rest) h

pub moved_Swap2 : (s : Stack) → 4 ≤ length s → moves 4 (2 ∷ 3 ∷ 0 ∷ 1 ∷ []) s ≡ Some (swap (swap s 0 2) 1 3)
moved_Swap2 [] h = absurd (omega arith)
moved_Swap2 (a ∷ []) h = absurd (omega arith)
moved_Swap2 (a ∷ b ∷ []) h = absurd (omega arith)
moved_Swap2 (a ∷ b ∷ c ∷ []) h = absurd (omega arith)
moved_Swap2 (a ∷ b ∷ c ∷ d ∷ rest) h = there 4 (2 ∷ 3 ∷ 0 ∷ 1 ∷ []) (a ∷ b ∷ c ∷ d ∷ rest) h

pub moved_Drop1 : (s : Stack) → 1 ≤ length s → moves 1 [] s ≡ Some (drop 1 s)
moved_Drop1 [] h = absurd (omega arith)
moved_Drop1 (a ∷ rest) h = there 1 [] (a ∷ rest) h

pub moved_Dup : (s : Stack) → 1 ≤ length s → moves 1 (0 ∷ 0 ∷ []) s ≡ Some (nth s 0 ∷ s)
moved_Dup [] h = absurd (omega arith)
moved_Dup (a ∷ rest) h = there 1 (0 ∷ 0 ∷ []) (a ∷ rest) h

pub moved_Nip : (s : Stack) → 2 ≤ length s → moves 2 (1 ∷ []) s ≡ Some (drop 1 (swap s 0 1))
moved_Nip [] h = absurd (omega arith)
moved_Nip (a ∷ []) h = absurd (omega arith)
moved_Nip (a ∷ b ∷ rest) h = there 2 (1 ∷ []) (a ∷ b ∷ rest) h

pub moved_Over : (s : Stack) → 2 ≤ length s → moves 2 (0 ∷ 1 ∷ 0 ∷ []) s ≡ Some (nth s 1 ∷ s)
moved_Over [] h = absurd (omega arith)
moved_Over (a ∷ []) h = absurd (omega arith)
moved_Over (a ∷ b ∷ rest) h = there 2 (0 ∷ 1 ∷ 0 ∷ []) (a ∷ b ∷ rest) h

pub moved_Rot : (s : Stack) → 3 ≤ length s → moves 3 (1 ∷ 2 ∷ 0 ∷ []) s ≡ Some (swap (swap s 0 1) 0 2)
moved_Rot [] h = absurd (omega arith)
moved_Rot (a ∷ []) h = absurd (omega arith)
moved_Rot (a ∷ b ∷ []) h = absurd (omega arith)
moved_Rot (a ∷ b ∷ c ∷ rest) h = there 3 (1 ∷ 2 ∷ 0 ∷ []) (a ∷ b ∷ c ∷ rest) h

pub moved_Swap : (s : Stack) → 2 ≤ length s → moves 2 (1 ∷ 0 ∷ []) s ≡ Some (swap s 0 1)
moved_Swap [] h = absurd (omega arith)
moved_Swap (a ∷ []) h = absurd (omega arith)
moved_Swap (a ∷ b ∷ rest) h = there 2 (1 ∷ 0 ∷ []) (a ∷ b ∷ rest) h

pub moved_Tuck : (s : Stack) → 2 ≤ length s → moves 2 (1 ∷ 0 ∷ 1 ∷ []) s ≡ Some (nth (swap s 0 1) 1 ∷ (swap s 0 1))
moved_Tuck [] h = absurd (omega arith)
moved_Tuck (a ∷ []) h = absurd (omega arith)
moved_Tuck (a ∷ b ∷ rest) h = there 2 (1 ∷ 0 ∷ 1 ∷ []) (a ∷ b ∷ rest) h

pub ruleset moved = (moved_short, moved_Drop2, moved_Dup2, moved_Dup3, moved_Over2, moved_Rot2, moved_Swap2, moved_Drop1, moved_Dup, moved_Nip, moved_Over, moved_Rot, moved_Swap, moved_Tuck)
