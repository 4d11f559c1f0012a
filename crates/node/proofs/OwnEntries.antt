-- A seat's own entries in a history that grows.
use Rattle.std.proofs.Common.{arith, ◌&&◌, ◌==◌, ◌≡◌, ℕ, zero, suc, ◌≤◌, Bool, true, false, cond, List, [], ◌∷◌, ◌++◌, length, length-append, take, drop, map, refl, ap, sym, ◌∙◌, subst, append_assoc}
use Rattle.std.proofs.lemmas.List.{take-append-le, take-append-drop}
use Rattle.std.proofs.lemmas.Bool.Decides.{nat_tests}
use Rattle.std.specs.Prelude.{is_none, slice_get, Some}
use mathlib.Core.List.{IsPrefix}
use Rattle.model.specs.declared.command.Command.{Command}
use Rattle.model.specs.declared.reply.Reply.{Reply}
use Rattle.model.specs.declared.entry.Entry.{Entry}
use Rattle.model.specs.History.{own_of, entry_of}
use Rattle.model.specs.laws.History.{own_of-append, own_of-one}
use Rattle.node.specs.Pass.{owed_entry, all_owed, up_to_last_answered}

-- what begins a beginning begins the whole
pub begins_whole : {A : Type 0} (xs ys zs : List A) → IsPrefix xs ys → IsPrefix ys zs → IsPrefix xs zs
begins_whole xs ys zs p q = (p.0 ++ q.0, sym (append_assoc xs p.0 q.0) ∙ ap (λ (l : List _). l ++ q.0) p.1 ∙ q.1)

-- the first entries stay where a history grows
pub take_kept : (n : ℕ) (xs ys : List Entry) → n ≤ length xs → IsPrefix xs ys → take n ys ≡ take n xs
take_kept n xs ys le p = ap (take n) (sym p.1) ∙ take-append-le n xs p.0 le

-- the entries of a seat are those up to a place that it has seen, and then the owed ones
pub own_all : (n place : ℕ) (seen log : List Entry) (owed : List Command) → place ≤ length seen → IsPrefix seen log → own_of n (drop place log) ≡ map (owed_entry n) owed
    → own_of n log ≡ own_of n (take place seen) ++ map (owed_entry n) owed
own_all n place seen log owed le p rest =
    ap (own_of n) (sym (take-append-drop place log)) ∙ own_of-append n (take place log) (drop place log) ∙ (λ i. own_of n (take_kept place seen log le p i) ++ rest i)

-- a place of a beginning is one of the whole
pub within_more : (place : ℕ) (xs ys : List Entry) → place ≤ length xs → IsPrefix xs ys → place ≤ length ys
within_more place xs ys le p = omega (arith, le, length-append xs p.0, ap length p.1)

-- the seat's entry at the end
pub own_push : (n : ℕ) (log : List Entry) (c : Command) (r : Reply) → own_of n (log ++ entry_of n c (Some r) ∷ []) ≡ own_of n log ++ entry_of n c (Some r) ∷ []
own_push n log c r = own_of-append n log (entry_of n c (Some r) ∷ []) ∙ ap (λ (xs : List Entry). own_of n log ++ xs) (own_of-one n c (Some r))

answered_begin : (xs : List Entry) → IsPrefix (up_to_last_answered xs) xs
answered_begin [] = ([], refl)
answered_begin (x ∷ xs) = by (all_owed (x ∷ xs)) (answered_begin xs)
  where
    by : (b : Bool) → IsPrefix (up_to_last_answered xs) xs → IsPrefix (cond b [] (x ∷ up_to_last_answered xs)) (x ∷ xs)
    by true r = (x ∷ xs, refl)
    by false r = (r.0, ap (λ ys. x ∷ ys) r.1)

owed_only : (n : ℕ) (owed : List Command) → all_owed (map (owed_entry n) owed) ≡ true
owed_only n [] = refl
owed_only n (c ∷ cs) = owed_only n cs

owed_behind : (xs ys : List Entry) → all_owed ys ≡ true → all_owed (xs ++ ys) ≡ all_owed xs
owed_behind [] ys h = h
owed_behind (x ∷ xs) ys h = ap (λ b. is_none x.reply && b) (owed_behind xs ys h)

none_answered : (ys : List Entry) → all_owed ys ≡ true → up_to_last_answered ys ≡ []
none_answered [] h = refl
none_answered (y ∷ ys) h = ap (λ b. cond b [] (y ∷ up_to_last_answered ys)) h

-- what is owed at the end isn't among the answered ones
answered_behind : (xs ys : List Entry) → all_owed ys ≡ true → up_to_last_answered (xs ++ ys) ≡ up_to_last_answered xs
answered_behind [] ys h = none_answered ys h
answered_behind (x ∷ xs) ys h = λ i. cond (is_none x.reply && owed_behind xs ys h i) [] (x ∷ answered_behind xs ys h i)

-- of a seat's own entries those up to the last answered one begin its entries in what it has seen
pub own_begins : (n place : ℕ) (seen : List Entry) (owed : List Command) → IsPrefix (up_to_last_answered (own_of n (take place seen) ++ map (owed_entry n) owed)) (own_of n seen)
own_begins n place seen owed =
    let xs = own_of n (take place seen) in
    let front : IsPrefix xs (own_of n seen) = (own_of n (drop place seen), sym (own_of-append n (take place seen) (drop place seen)) ∙ ap (own_of n) (take-append-drop place seen)) in
    subst (λ (l : List Entry). IsPrefix l (own_of n seen)) (sym (answered_behind xs (map (owed_entry n) owed) (owed_only n owed))) (begins_whole _ _ _ (answered_begin xs) front)

-- what stands next among the owed ones, where it and those before it begin them
next_owed : (n k : ℕ) (owed : List Command) (e : Entry) → k ≤ length owed → IsPrefix (map (owed_entry n) (take k owed) ++ e ∷ []) (map (owed_entry n) owed) → (c : Command) × (slice_get owed k ≡ Some c) × (e ≡ owed_entry n c)
next_owed n zero [] e le p = absurd (cc (p.1))
next_owed n zero (c ∷ cs) e le p = (c, refl, cc (p.1))
next_owed n (suc k) [] e le p = absurd (omega arith)
next_owed n (suc k) (c ∷ cs) e le p = next_owed n k cs e (omega arith) (p.0, cc (p.1))

pub own_next : (n k : ℕ) (owed : List Command) (e : Entry) → k ≤ length owed → e.seat ≡ n → IsPrefix (map (owed_entry n) (take k owed) ++ own_of n (e ∷ [])) (map (owed_entry n) owed) → (c : Command) × (slice_get owed k ≡ Some c) × (e ≡ owed_entry n c)
own_next n k owed e le same p =
    let test : (e.seat == n) ≡ true = grind (arith, nat_tests) in
    let one : own_of n (e ∷ []) ≡ e ∷ [] = ap (λ (b : Bool). cond b (e ∷ []) []) test in
    next_owed n k owed e le (subst (λ (es : List Entry). IsPrefix (map (owed_entry n) (take k owed) ++ es) (map (owed_entry n) owed)) one p)
