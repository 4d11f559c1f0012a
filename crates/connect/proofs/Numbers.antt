-- Jobs that stand at one place of a block are of one transaction.
use Rattle.std.proofs.Common.{◌≡◌, inl, inr, ℕ, zero, suc, ◌+◌, ◌-◌, ◌≤◌, List, [], ◌∷◌, ◌++◌, map, Option, Some, None, refl, sym, ap, ap₂, subst, ◌∙◌, ⊎_elim, arith}
use Rattle.std.specs.Prelude.{◌⊎◌, slice_get}
use Rattle.std.specs.Option.{option_map}
use Rattle.std.specs.List.{zip, enumerate_from}
use Rattle.std.proofs.lemmas.Option.{slice_get-map}
use Rattle.txn.specs.Tx.{Tx}
use Rattle.coins.specs.declared.coin.Coin.{Coin}
use Rattle.interp.specs.declared.flags.Flags.{Flags}
use Rattle.interp.specs.declared.job.Job.{Job}
use Rattle.interp.specs.Question.{question, question_of}
use Rattle.queue.specs.Jobs.{AreNumbered}
use Rattle.connect.specs.Scripts.{Check, input_checks}
use Rattle.connect.specs.inside.ScriptLists.{checks_from}

some_is : {A : Type 0} (x y : A) → ◌≡◌ {A = Option A} (Some x) (Some y) → x ≡ y
some_is x y h = cc

-- an element of two lists is one of either
either : {A : Type 0} (xs ys : List A) (k : ℕ) (y : A) → slice_get (xs ++ ys) k ≡ Some y → (slice_get xs k ≡ Some y) ⊎ ((j : ℕ) × (slice_get ys j ≡ Some y))
either [] ys k y h = inr (k, h)
either (x ∷ xs) ys zero y h = inl h
either (x ∷ xs) ys (suc k) y h = either xs ys k y h

-- an element of a list of pairs
paired : (places : List ℕ) (jobs : List Job) (k place : ℕ) (job : Job) → slice_get places k ≡ Some place → slice_get jobs k ≡ Some job → slice_get (zip places (map question_of jobs)) k ≡ Some (place, question_of job)
paired [] jobs k place job p j = absurd cc
paired (x ∷ places) [] k place job p j = absurd cc
paired (x ∷ places) (y ∷ jobs) zero place job p j = ap₂ (λ n (z : Job). Some (n, question_of z)) (some_is x place p) (some_is y job j)
paired (x ∷ places) (y ∷ jobs) (suc k) place job p j = paired places jobs k place job p j

-- a check is of the transaction at its place
record IsOfPlace (from : ℕ) (txs : List Tx) (check : Check) : Type 0 where
  above : from ≤ check.0
  there : slice_get txs (check.0 - from) ≡ Some check.1.tx

none_above : (n : ℕ) → n - n ≡ 0
none_above n = omega arith

of_input : (flags : Flags) (place : ℕ) (tx : Tx) (coins : List Coin) (txs : List Tx) (k : ℕ) (check : Check) → slice_get (input_checks flags place tx coins) k ≡ Some check → IsOfPlace place (tx ∷ txs) check
of_input flags place tx coins txs k check h = by (slice_get (enumerate_from 0 coins) k) refl
  where
    f : ℕ × Coin → Check
    f c = (place, question tx c.0 c.1.script flags)

    by : (c : Option (ℕ × Coin)) → slice_get (enumerate_from 0 coins) k ≡ c → IsOfPlace place (tx ∷ txs) check
    by (Some c) e =
        let is : f c ≡ check = some_is (f c) check (sym (slice_get-map f (enumerate_from 0 coins) k ∙ ap (option_map f) e) ∙ h) in
        subst (IsOfPlace place (tx ∷ txs)) is record { above = omega arith; there = ap (slice_get (tx ∷ txs)) (none_above place) }
    by None e =
        let none : ◌≡◌ {A = Option Check} None (Some check) = sym (slice_get-map f (enumerate_from 0 coins) k ∙ ap (option_map f) e) ∙ h in
        absurd cc

of_later : (place : ℕ) (tx : Tx) (txs : List Tx) (check : Check) → IsOfPlace (place + 1) txs check → IsOfPlace place (tx ∷ txs) check
of_later place tx txs check is = record {
  above = omega (arith, is.above);
  there = ap (slice_get (tx ∷ txs)) (the_place is.above) ∙ is.there;
}
  where
    the_place : place + 1 ≤ check.0 → check.0 - place ≡ suc (check.0 - (place + 1))
    the_place h = omega arith

of_place : (flags : Flags) (place : ℕ) (txs : List Tx) (undo : List (List Coin)) (k : ℕ) (check : Check) → slice_get (checks_from flags place txs undo) k ≡ Some check → IsOfPlace place txs check
unfolding checks_from
of_place flags place [] undo k check h = absurd cc
of_place flags place (tx ∷ txs) [] k check h = absurd cc
of_place flags place (tx ∷ txs) (coins ∷ undo) k check h =
    ⊎_elim
    (λ here. of_input flags place tx coins txs k check here)
    (λ (later : (j : ℕ) × (slice_get (checks_from flags (place + 1) txs undo) j ≡ Some check)). of_later place tx txs check (of_place flags (place + 1) txs undo later.0 check later.1))
    (either (input_checks flags place tx coins) (checks_from flags (place + 1) txs undo) k check h)

pub numbered : (flags : Flags) (txs : List Tx) (undo : List (List Coin)) (places : List ℕ) (jobs : List Job) → zip places (map question_of jobs) ≡ checks_from flags 1 txs undo → AreNumbered places jobs
numbered flags txs undo places jobs e i j place a b at_a at_b of_a of_b =
    let checked : (k : ℕ) (job : Job) → slice_get jobs k ≡ Some job → slice_get places k ≡ Some place → slice_get txs (place - 1) ≡ Some job.tx.now =
    (λ k job at of. (of_place flags 1 txs undo k (place, question_of job) (ap (λ (l : List Check). slice_get l k) (sym e) ∙ paired places jobs k place job of at)).there) in
    some_is a.tx.now b.tx.now (sym (checked i a at_a of_a) ∙ checked j b at_b of_b)
