-- A transaction with an input and no witness has one spelling.
use Rattle.std.proofs.Common.{◌≡◌, false, List, [], ◌∷◌, refl}
use Rattle.txn.specs.declared.input.TxIn.{TxIn}
use Rattle.txn.specs.Tx.{Tx}
use Rattle.txn.specs.Grammar.{transaction}
use Rattle.txn.specs.WitnessGrammar.{has_witness, witness_transaction}
use Rattle.txn.specs.laws.WitnessSpelling.{without_witness}

by_inputs : (t : Tx) (inputs : List TxIn) → t.inputs ≡ inputs → ¬ (inputs ≡ []) → has_witness t.witnesses ≡ false → witness_transaction.spell t ≡ transaction.spell t
by_inputs t [] is some none = absurd (some refl)
by_inputs t (i ∷ others) is some none = without_witness t i others none is

pub one_spelling : (t : Tx) → ¬ (t.inputs ≡ []) → has_witness t.witnesses ≡ false → witness_transaction.spell t ≡ transaction.spell t
one_spelling t some none = by_inputs t t.inputs refl some none
