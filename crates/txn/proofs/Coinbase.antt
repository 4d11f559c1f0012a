-- A list of one input is a coinbase's where that input's outpoint is null.
use Rattle.std.proofs.Common.{◌≡◌, ◌<◌, ◌≤◌, List, [], ◌∷◌, length, get_or, sym, ap, arith}
use Rattle.txn.specs.declared.input.TxIn.{TxIn}

pub one_input : (xs : List TxIn) (x : TxIn) → 1 ≤ length xs → length xs < 2 → x ≡ get_or xs 0 x → xs ≡ x ∷ []
one_input [] x le lt e = absurd (omega (arith, le))
one_input (y ∷ []) x le lt e = ap (λ (z : TxIn). z ∷ []) (sym e)
one_input (y ∷ z ∷ zs) x le lt e = absurd (omega (arith, lt))

pub same_head : (x y : TxIn) → (x ∷ []) ≡ (y ∷ []) → x ≡ y
same_head x y e = cc
