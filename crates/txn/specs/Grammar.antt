-- A transaction and its parts, in order.
use Rattle.std.specs.Prelude.{◌≡◌, List, []}
use Rattle.wire.specs.Grammar.{Grammar, piece, number, signed32, signed64, pair, counted_list, sized_bytes, fields}
use Rattle.txn.specs.declared.outpoint.OutPoint.{OutPoint}
use Rattle.txn.specs.declared.input.TxIn.{TxIn}
use Rattle.txn.specs.declared.output.TxOut.{TxOut}
use Rattle.txn.specs.Tx.{Tx}

-- an id of 32 bytes, and an index
abbrev pub outpoint : Grammar OutPoint
outpoint = fields (λ p. (p.id.0, p.index)) (pair (piece 32) (number 4))

abbrev pub input : Grammar TxIn
input = fields (λ i. (i.prev, (i.script, i.sequence))) (pair outpoint (pair sized_bytes (number 4)))

abbrev pub output : Grammar TxOut
output = fields (λ o. (o.value, o.script)) (pair signed64 sized_bytes)

-- the empty list, in no bytes
abbrev pub nothing : {A : Type 0} → Grammar (List A)
nothing = record { spell = λ _. []; Lawful = λ xs. xs ≡ []; Faulty = λ _ _. ⊥ }

-- without witnesses: the only spelling before BIP 144, and the one that an id is taken of
abbrev pub transaction : Grammar Tx
transaction = fields (λ t. (t.version, (t.inputs, (t.outputs, (t.witnesses, t.lock_time))))) (pair signed32 (pair (counted_list input) (pair (counted_list output) (pair nothing (number 4)))))
