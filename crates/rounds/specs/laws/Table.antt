-- No opcode lowers the count of opcodes, and those that ask for signatures are counted.
use Rattle.std.specs.Prelude.{⊤, if◌then◌else◌, ◌&&◌, nat_le}
use Rattle.std.proofs.Common.{◌≡◌, ◌⊎◌, inl, inr, ℕ, ◌+◌, ◌-◌, ◌<◌, ◌≤◌, List, [], ◌∷◌, Bool, true, false, ltb, eqb, Option, Some, None, length, refl, sym, subst, ⊎_elim, arith}
use Rattle.std.proofs.lemmas.Bool.{cases_lt}
use borrow.Author.Tests.{lt-ltb, le-ltb, eqb-true}
use Rattle.std.specs.Option.{option_map, option_and_then}
use Rattle.script.specs.Op.{pushed_of}
use Rattle.interp.specs.Limits.{max_ops}
use Rattle.interp.specs.Stack.{Stack, Bytes, pop}
use Rattle.interp.specs.State.{State}
use Rattle.interp.specs.Effects.{push, depth, on_main, to_alt, from_alt, branch, untaken_branch, turn, close, ask, ask_if}
use Rattle.interp.specs.Timelocks.{is_met}
use Rattle.interp.specs.Row.{Check, Of, Sig, Multisig, Row, Does, Controls, Tests, AndVerifies, Separates, Asks, disabled, nothing, changes, rows, row_among, row_at, push_row, row_of}
use Rattle.interp.specs.Rules.{skipped, with_count}
use Rattle.rounds.specs.laws.Inquiry.{left_in}

-- opcodes and keys that may still be counted
abbrev pub room : State → ℕ
room s = max_ops - s.count

-- there is no more room after it
abbrev pub Stays : State → Option State → Type 0
Stays s o = left_in room o ≤ room s

abbrev pub Keeps : (State → Option State) → Type 0
Keeps f = (s : State) → Stays s (f s)

-- ---- what opcodes do
map-keeps : {A : Type 0} (s : State) (o : Option A) (f : A → State) → ((x : A) → (f x).count ≡ s.count) → Stays s (option_map f o)
map-keeps s (Some x) f same = rw (same x) (omega arith)
map-keeps s None f same = omega arith

then-keeps : {A : Type 0} (s : State) (o : Option A) (f : A → Option State) → ((x : A) → Stays s (f x)) → Stays s (option_and_then f o)
then-keeps s (Some x) f each = each x
then-keeps s None f each = omega arith

pub main-keeps : (f : Stack → Option Stack) → Keeps (on_main f)
main-keeps f s = map-keeps s (f s.main) (λ main. record s { main = main }) (λ main. refl)

to_alt-keeps : Keeps to_alt
to_alt-keeps s = then-keeps s (pop s.main) _ (λ top. omega arith)

from_alt-keeps : Keeps from_alt
from_alt-keeps s = then-keeps s (pop s.alt) _ (λ top. omega arith)

branch-keeps : (at : Bool) → Keeps (branch at)
branch-keeps at s = then-keeps s (pop s.main) _ (λ top. omega arith)

untaken-keeps : Keeps untaken_branch
untaken-keeps s = omega arith

turn-keeps : Keeps turn
turn-keeps s = then-keeps s (pop s.conditions) _ (λ top. omega arith)

close-keeps : Keeps close
close-keeps s = then-keeps s (pop s.conditions) _ (λ top. omega arith)

if-keeps : (b : Bool) (s : State) → Stays s (if b then Some s else None)
if-keeps true s = omega arith
if-keeps false s = omega arith

pub ask-keeps : (in_force : Bool) (test : ℕ → Bool) → Keeps (ask_if in_force test)
unfolding ask
ask-keeps true test s = then-keeps s (pop s.main) _ (λ top. if-keeps (is_met test top.0) s)
ask-keeps false test s = omega arith

-- ---- the table
-- a check that asks for signatures stands at an opcode that is counted
abbrev pub IsCounted : ℕ → Check → Type 0
IsCounted number (Of f) = ⊤
IsCounted number Sig = 0x60 < number
IsCounted number Multisig = 0x60 < number

-- what the row of this number does makes no room, and it is counted where it asks for signatures
abbrev pub IsOrderly : ℕ → Row → Type 0
IsOrderly number (Does f) = Keeps f
IsOrderly number (Controls f untaken) = Keeps f × Keeps untaken
IsOrderly number (Tests check) = IsCounted number check
IsOrderly number (AndVerifies check) = IsCounted number check
IsOrderly number Separates = ⊤
IsOrderly number (Asks in_force test) = ⊤

abbrev AreOrderly : List (ℕ × Row) → Type 0
AreOrderly [] = ⊤
AreOrderly (row ∷ others) = IsOrderly row.0 row.1 × AreOrderly others

none-keeps : Keeps (λ s. None)
none-keeps s = omega arith

some-keeps : Keeps (λ s. Some s)
some-keeps s = omega arith

disabled-keeps : Keeps (λ s. None) × Keeps (λ s. None)
disabled-keeps = (none-keeps, none-keeps)

-- the proof of the first and those of the others
infixr 20 ◌&◌
abbrev ◌&◌ : {A B : Type 0} → A → B → A × B
first & others = (first, others)

rows-orderly : AreOrderly rows
rows-orderly =
    main-keeps (push (0x81 ∷ [])) & some-keeps & (branch-keeps true, untaken-keeps) & (branch-keeps false, untaken-keeps)
    & disabled-keeps & disabled-keeps & (turn-keeps, turn-keeps) & (close-keeps, close-keeps) & main-keeps _ & to_alt-keeps
    & from_alt-keeps & main-keeps _ & main-keeps _ & main-keeps _ & main-keeps _ & main-keeps _ & main-keeps _ & main-keeps _
    & main-keeps depth & main-keeps _ & main-keeps _ & main-keeps _ & main-keeps _ & main-keeps _ & main-keeps _ & main-keeps _
    & main-keeps _ & main-keeps _ & disabled-keeps & disabled-keeps & disabled-keeps & disabled-keeps & main-keeps _
    & disabled-keeps & disabled-keeps & disabled-keeps & disabled-keeps & tt & tt & main-keeps _ & main-keeps _ & disabled-keeps
    & disabled-keeps & main-keeps _ & main-keeps _ & main-keeps _ & main-keeps _ & main-keeps _ & main-keeps _ & disabled-keeps
    & disabled-keeps & disabled-keeps & disabled-keeps & disabled-keeps & main-keeps _ & main-keeps _ & tt & tt & main-keeps _
    & main-keeps _ & main-keeps _ & main-keeps _ & main-keeps _ & main-keeps _ & main-keeps _ & main-keeps _ & main-keeps _
    & main-keeps _ & main-keeps _ & main-keeps _ & main-keeps _ & tt & omega arith & omega arith & omega arith & omega arith
    & some-keeps & tt & tt & tt

among-orderly : (list : List (ℕ × Row)) (number : ℕ) → AreOrderly list → IsOrderly number (row_among list number)
among-orderly [] number each = none-keeps
among-orderly (row ∷ others) number each = by (eqb number row.0) refl (among-orderly others number each.1)
  where
    by : (same : Bool) → eqb number row.0 ≡ same → IsOrderly number (row_among others number) → IsOrderly number (if same then row.1 else row_among others number)
    by true is rest = subst (λ n. IsOrderly n row.1) (sym (eqb-true number row.0 is)) each.0
    by false is rest = rest

at-orderly : (number : ℕ) → IsOrderly number (row_at number)
unfolding row_at
at-orderly number = by (nat_le 0x51 number && nat_le number 0x60) (nat_le 0xb3 number && nat_le number 0xb9)
  where
    by : (small nop : Bool) → IsOrderly number (if small then changes (push ((number - 0x50) ∷ [])) else (if nop then nothing else row_among rows number))
    by true nop = main-keeps (push ((number - 0x50) ∷ []))
    by false true = some-keeps
    by false false = among-orderly rows number rows-orderly

push-orderly : (number : ℕ) (bytes : Bytes) → IsOrderly number (push_row bytes)
unfolding push_row
push-orderly number bytes = by (ltb 520 (length bytes))
  where
    by : (long : Bool) → IsOrderly number (if long then disabled else changes (push bytes))
    by true = disabled-keeps
    by false = main-keeps (push bytes)

pub row-orderly : (number : ℕ) (bytes : List ℕ) → IsOrderly number (row_of (number ∷ bytes))
unfolding row_of
row-orderly number bytes = by (ltb number 0x4f)
  where
    by : (push : Bool) → IsOrderly number (if push then push_row (pushed_of (number ∷ bytes)) else row_at number)
    by true = push-orderly number (pushed_of (number ∷ bytes))
    by false = at-orderly number

-- ---- what a row asks for
-- whether it asks for a signature in its own place; a CHECKMULTISIG has places for its keys
abbrev pub places : Check → ℕ
places (Of f) = 0
places Sig = 1
places Multisig = 0

abbrev pub places_in : Row → ℕ
places_in (Does f) = 0
places_in (Controls f untaken) = 0
places_in (Tests check) = places check
places_in (AndVerifies check) = places check
places_in Separates = 0
places_in (Asks in_force test) = 0

few-places-of : (check : Check) → places check ≤ 1
few-places-of (Of f) = omega arith
few-places-of Sig = omega arith
few-places-of Multisig = omega arith

few-places : (row : Row) → places_in row ≤ 1
few-places (Does f) = omega arith
few-places (Controls f untaken) = omega arith
few-places (Tests check) = few-places-of check
few-places (AndVerifies check) = few-places-of check
few-places Separates = omega arith
few-places (Asks in_force test) = omega arith

no-place-of : (number : ℕ) (check : Check) → IsCounted number check → number ≤ 96 → places check ≡ 0
no-place-of number (Of f) counted low = refl
no-place-of number Sig counted low = absurd (omega (arith, counted, low))
no-place-of number Multisig counted low = refl

no-place : (number : ℕ) (row : Row) → IsOrderly number row → number ≤ 96 → places_in row ≡ 0
no-place number (Does f) orderly low = refl
no-place number (Controls f untaken) orderly low = refl
no-place number (Tests check) orderly low = no-place-of number check orderly low
no-place number (AndVerifies check) orderly low = no-place-of number check orderly low
no-place number Separates orderly low = refl
no-place number (Asks in_force test) orderly low = refl

-- in a branch that isn't taken
pub skipped-keeps : (number : ℕ) (row : Row) → IsOrderly number row → Keeps (skipped row)
skipped-keeps number (Does f) orderly = some-keeps
skipped-keeps number (Controls f untaken) orderly = orderly.1
skipped-keeps number (Tests check) orderly = some-keeps
skipped-keeps number (AndVerifies check) orderly = some-keeps
skipped-keeps number Separates orderly = some-keeps
skipped-keeps number (Asks in_force test) orderly = some-keeps

-- an opcode that asks in its own place is counted
counted-sound : (number : ℕ) (s counted : State) → with_count number s ≡ Some counted
    → ((number ≤ 96) × (s ≡ counted)) ⊎ ((96 < number) × (s.count < 201) × (counted.count ≡ s.count + 1))
unfolding with_count
counted-sound number s counted e =
    ⊎_elim
    (λ above. inr (⊎_elim (λ few. let g = rw (lt-ltb 96 number above, lt-ltb s.count 201 few) at e in (above, few, cc))
    (λ many. let g = rw (lt-ltb 96 number above, le-ltb s.count 201 many) at e in cc) (cases_lt s.count 201)))
    (λ low. let g = rw (le-ltb 96 number low) at e in inl (low, cc)) (cases_lt 96 number)

pub counted-room : (number : ℕ) (bytes : List ℕ) (s counted : State) → with_count number s ≡ Some counted → places_in (row_of (number ∷ bytes)) + room counted ≤ room s
counted-room number bytes s counted e =
    ⊎_elim
    (λ low. let none = no-place number (row_of (number ∷ bytes)) (row-orderly number bytes) low.0 in rw (none, low.1) (omega arith))
    (λ above. let few = few-places (row_of (number ∷ bytes)) in let less = above.1 in rw above.2 (omega (arith, few, less))) (counted-sound number s counted e)
