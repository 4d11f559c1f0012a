-- The first broken rule of some transactions, one after the other.
use Rattle.std.proofs.Common.{◌≡◌, ℕ, suc, ◌+◌, ◌<◌, List, ◌∷◌, ◌++◌, length, get_or, drop, Option, Some, None, sym, ap, ◌∙◌, add-one}
use Rattle.std.proofs.Math.Seq.{drop-cons}
use Rattle.std.specs.List.{flat_map}
use Rattle.std.specs.Option.{option_or}
use Rattle.txn.specs.declared.reason.Reason.{Reason}
use Rattle.txn.specs.Tx.{Tx}
use Rattle.txn.specs.Check.{tx_rules}
use Rattle.txn.specs.First.{Rules, first_broken}
use Rattle.txn.specs.laws.First.{first_of_both}

-- the transaction at a place begins the rest
drop_item : (txs : List Tx) (i : ℕ) (tx : Tx) → i < length txs → tx ≡ get_or txs i tx → drop i txs ≡ tx ∷ drop (i + 1) txs
drop_item txs i tx lt e = drop-cons txs i tx lt ∙ ap (λ (t : Tx). t ∷ drop (suc i) txs) (sym e) ∙ ap (λ (n : ℕ). tx ∷ drop n txs) (sym (add-one i))

pub next : (txs : List Tx) (i : ℕ) (tx : Tx) → i < length txs → tx ≡ get_or txs i tx
    → first_broken (flat_map tx_rules (drop i txs)) ≡ option_or (first_broken (tx_rules tx)) (first_broken (flat_map tx_rules (drop (i + 1) txs)))
next txs i tx lt e = ap (λ (ts : List Tx). first_broken (flat_map tx_rules ts)) (drop_item txs i tx lt e) ∙ first_of_both (tx_rules tx) (flat_map tx_rules (drop (i + 1) txs))

pub among : (xs ys : Rules) (reason : Reason) → Some reason ≡ first_broken xs → Some reason ≡ first_broken (xs ++ ys)
among xs ys reason e = sym (first_of_both xs ys ∙ ap (λ (o : Option Reason). option_or o (first_broken ys)) (sym e))

pub after : (xs ys : Rules) (found : Option Reason) → None ≡ first_broken xs → found ≡ first_broken ys → found ≡ first_broken (xs ++ ys)
after xs ys found none e = e ∙ sym (first_of_both xs ys ∙ ap (λ (o : Option Reason). option_or o (first_broken ys)) (sym none))
