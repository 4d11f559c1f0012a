-- The transactions of the tests can be applied.
use Rattle.std.proofs.Common.{◌≡◌, ℕ, ◌≤◌, ◌^◌, cond, List, [], ◌∷◌, length, replicate, IsSome, sym, ap, subst, ◌∙◌, arith}
use Rattle.std.specs.List.{AllByRecursion, IsDistinct}
use Rattle.std.specs.FinMap as coin_map
use Rattle.std.specs.FinMap.{get-empty}
use Rattle.hash.specs.declared.id.Id.{Id}
use Rattle.txn.specs.declared.outpoint.OutPoint.{OutPoint}
use Rattle.txn.specs.declared.input.TxIn.{TxIn}
use Rattle.txn.specs.Tx.{Tx}
use Rattle.txn.specs.Check.{is_only_null, prevs}
use Rattle.txn.specs.Coinbase.{null}
use Rattle.coins.specs.Coins.{Coins, outpoint_cmp, same}
use Rattle.undo.specs.Effect.{outpoint_at, IsApplicable}

abbrev pub input_of : OutPoint → TxIn
input_of prev = record { prev = prev; script = []; sequence = 0 }

abbrev pub id_of_sevens : Id
id_of_sevens = record { 0 = replicate 32 7 }

few : (n : ℕ) → n ≡ 2 → n ≤ 2 ^ 32
few n h = omega arith

pub coinbase_applies : (m : Coins) (tx : Tx) (id : Id) → m ≡ coin_map.empty → tx.inputs ≡ input_of null ∷ [] → length tx.outputs ≡ 2 → IsApplicable m tx id
unfolding IsDistinct
coinbase_applies m tx id e input outputs = record {
  coins = subst (λ (is : List TxIn). AllByRecursion (λ p. IsSome (coin_map.get m p)) (cond (is_only_null is) [] (prevs is))) (sym input) tt;
  once = subst (λ (is : List TxIn). IsDistinct same (cond (is_only_null is) [] (prevs is))) (sym input) tt;
  new = λ i l. ap (λ (x : Coins). coin_map.get x (outpoint_at id i)) e ∙ get-empty outpoint_cmp (outpoint_at id i);
  numbered = few (length tx.outputs) outputs;
}
