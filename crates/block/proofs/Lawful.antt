-- Transactions within the limits, each of which is lawful.
use Rattle.std.proofs.Common.{◌≡◌, Bool, ℕ, ◌+◌, ◌<◌, ◌≤◌, List, [], ◌∷◌, ◌++◌, length, take, get_or, refl, sym, subst, ap, ◌∙◌}
use Rattle.std.specs.List.{All}
use Rattle.std.proofs.lemmas.Grind.{take_at_read}
use Rattle.std.proofs.lemmas.List.{take_all}
use Rattle.std.proofs.lemmas.List.Elements.{All-push, recursion_from_All}
use Rattle.wire.specs.Grammar.{counted_list}
use Rattle.txn.specs.Tx.{Tx}
use Rattle.txn.specs.WitnessGrammar.{transaction_by}
use Rattle.txn.specs.Limits as txn
use Rattle.block.specs.Limits.{AreWithin}

-- lawful where it is within the limits
abbrev pub IfWithin : Bool → Tx → Type 0
IfWithin by tx = txn.IsWithinLimitsBy by tx → (transaction_by by).Lawful tx

-- one transaction more
pub one_more : (by : Bool) (txs : List Tx) (k : ℕ) (tx : Tx) → k < length txs → tx ≡ get_or txs k tx → All (IfWithin by) (take k txs) → IfWithin by tx → All (IfWithin by) (take (k + 1) txs)
one_more by txs k tx lt is before this =
    let next : take (k + 1) txs ≡ take k txs ++ tx ∷ [] = (take_at_read txs k tx lt).1 ∙ ap (λ (t : Tx). take k txs ++ t ∷ []) (sym is) in
    subst (All (IfWithin by)) (sym next) (All-push (IfWithin by) (take k txs) tx before this)

-- all of them
pub all_lawful : (by : Bool) (txs ys : List Tx) (k : ℕ) → length ys ≤ k → txs ≡ ys → All (IfWithin by) (take k ys) → AreWithin by txs → (counted_list (transaction_by by)).Lawful txs
all_lawful by txs ys k whole same each (count, within) =
    let every : All (IfWithin by) txs = subst (All (IfWithin by)) (take_all k ys whole ∙ sym same) each in
    (count, (refl, recursion_from_All (transaction_by by).Lawful txs (λ k d lt. every k d lt (within k d lt))))
