-- Histories that are put together, and their beginnings: for any chainstate.
use Rattle.std.proofs.Common.{◌≡◌, ℕ, ◌≤◌, ◌==◌, Bool, true, false, cond, List, [], ◌∷◌, ◌++◌, length, Option, refl, ap, arith}
use Rattle.std.proofs.lemmas.Bool.{eq-eqb}
use mathlib.Core.List.{IsPrefix}
use Rattle.model.specs.declared.command.Command.{Command}
use Rattle.model.specs.declared.reply.Reply.{Reply}
use Rattle.model.specs.declared.entry.Entry.{Entry}
use Rattle.model.specs.Machine.{Machine}
use Rattle.model.specs.History.{state_left, state_after_entries, Stands, LegalFrom, own_of, entry_of}

pub state_after-append : (m : Machine) (s : m.State) (xs ys : List Entry) → state_after_entries m s (xs ++ ys) ≡ state_after_entries m (state_after_entries m s xs) ys
state_after-append m s [] ys = refl
state_after-append m s (x ∷ xs) ys = state_after-append m (state_left s (m.step s x.command)) xs ys

-- an entry that stands after the others may be added
pub legal_push : (m : Machine) (seats : ℕ) (s : m.State) (xs : List Entry) (e : Entry) → LegalFrom m seats s xs → Stands m seats (state_after_entries m s xs) e → LegalFrom m seats s (xs ++ e ∷ [])
legal_push m seats s [] e h stands = (stands, tt)
legal_push m seats s (x ∷ xs) e h stands = (h.0, legal_push m seats (state_left s (m.step s x.command)) xs e h.1 stands)

pub legal_front : (m : Machine) (seats : ℕ) (s : m.State) (xs ys : List Entry) → LegalFrom m seats s (xs ++ ys) → LegalFrom m seats s xs
legal_front m seats s [] ys h = tt
legal_front m seats s (x ∷ xs) ys h = (h.0, legal_front m seats (state_left s (m.step s x.command)) xs ys h.1)

pub stands_within : (m : Machine) (seats : ℕ) (s : m.State) (xs ys : List Entry) (e : Entry) → LegalFrom m seats s (xs ++ e ∷ ys) → Stands m seats (state_after_entries m s xs) e
stands_within m seats s [] ys e h = h.0
stands_within m seats s (x ∷ xs) ys e h = stands_within m seats (state_left s (m.step s x.command)) xs ys e h.1

pub own_of-append : (seat : ℕ) (xs ys : List Entry) → own_of seat (xs ++ ys) ≡ own_of seat xs ++ own_of seat ys
own_of-append seat [] ys = refl
own_of-append seat (x ∷ xs) ys = at (x.seat == seat) (own_of-append seat xs ys)
  where
    at : (b : Bool) → own_of seat (xs ++ ys) ≡ own_of seat xs ++ own_of seat ys
        → cond b (x ∷ own_of seat (xs ++ ys)) (own_of seat (xs ++ ys)) ≡ cond b (x ∷ own_of seat xs) (own_of seat xs) ++ own_of seat ys
    at true h = ap (λ (zs : List Entry). x ∷ zs) h
    at false h = h

pub own_of-one : (seat : ℕ) (command : Command) (r : Option Reply) → own_of seat (entry_of seat command r ∷ []) ≡ entry_of seat command r ∷ []
own_of-one seat command r = rw (eq-eqb seat seat refl) refl

-- of two beginnings of one list the shorter begins the longer
pub prefix_shorter : {A : Type 0} (xs ys zs : List A) → IsPrefix xs zs → IsPrefix ys zs → length xs ≤ length ys → IsPrefix xs ys
prefix_shorter [] ys zs p q le = (ys, refl)
prefix_shorter (x ∷ xs) [] zs p q le = absurd (omega arith)
prefix_shorter (x ∷ xs) (y ∷ ys) [] p q le = absurd (cc (p.1))
prefix_shorter (x ∷ xs) (y ∷ ys) (z ∷ zs) p q le =
    let heads : x ≡ y = cc (p.1, q.1) in
    let rest = prefix_shorter xs ys zs (p.0, cc (p.1)) (q.0, cc (q.1)) (omega arith) in
    (rest.0, cc (heads, rest.1))
