-- A transaction with its witnesses (BIP 144; Bitcoin Core's `SerializeTransaction` and `UnserializeTransaction`).
use Rattle.std.specs.Prelude.{◌≡◌, ◌<◌, ℕ, zero, suc, ℤ, List, [], ◌∷◌, length, Bool, true, false, if◌then◌else◌}
use Rattle.std.specs.List.{list_any}
use Rattle.wire.specs.declared.fault.WireFault.{WireFault}
use Rattle.wire.specs.declared.fault.WireFault.TheVariants.{Short, LongForm, TooLarge}
use Rattle.wire.specs.Grammar.{Grammar, number, signed32, pair, after, times, count, counted_list, sized_bytes, fields}
use Rattle.txn.specs.declared.input.TxIn.{TxIn}
use Rattle.txn.specs.declared.output.TxOut.{TxOut}
use Rattle.txn.specs.Tx.{Tx, Witness}
use Rattle.txn.specs.Parts.{only, pair_by}
use Rattle.txn.specs.Grammar.{input, output, nothing, transaction}

-- inputs, outputs, witnesses and lock time: a transaction but for its version
abbrev pub Body : Type 0
Body = List TxIn × (List TxOut × (List Witness × ℕ))

abbrev pub parts_of : Tx → ℤ × Body
parts_of t = (t.version, (t.inputs, (t.outputs, (t.witnesses, t.lock_time))))

-- a count of strings, each after its length
abbrev pub witness : Grammar Witness
witness = counted_list sized_bytes

abbrev pub is_some : Witness → Bool
is_some [] = false
is_some (string ∷ strings) = true

-- one of the witnesses isn't empty (`HasWitness`)
abbrev pub has_witness : List Witness → Bool
has_witness witnesses = list_any is_some witnesses

abbrev pub bit_of : Bool → ℕ
bit_of true = 1
bit_of false = 0

-- what has no meaning yet is refused (`Unknown transaction optional data`)
abbrev pub FlagFaulty : WireFault → List ℕ → Type 0
FlagFaulty Short bytes = bytes ≡ []
FlagFaulty LongForm bytes = ⊥
FlagFaulty TooLarge bytes = (byte : ℕ) × (rest : List ℕ) × (1 < byte) × (byte < 256) × (bytes ≡ byte ∷ rest)

-- a byte: 1 where witnesses follow, else 0
abbrev pub flag : Grammar Bool
flag = record { spell = λ has. bit_of has ∷ []; Lawful = λ _. Unit {0}; Faulty = FlagFaulty }

-- after a count of inputs that isn't 0: no witnesses
abbrev pub plain_body : ℕ → Grammar Body
plain_body n = pair (times input n) (pair (counted_list output) (pair nothing (number 4)))

-- neither inputs nor outputs: the flag stands where the count of outputs would
abbrev pub empty_body : Grammar Body
empty_body = pair nothing (pair nothing (pair nothing (number 4)))

-- one for each input. Where all are empty the spelling is longer than it need be (`Superfluous witness record`).
abbrev pub witnesses_of : List TxIn → Grammar (List Witness)
witnesses_of inputs = only LongForm has_witness (times witness (length inputs))

abbrev pub witness_body : Grammar Body
witness_body = pair_by (counted_list input) (λ inputs. pair (counted_list output) (pair (witnesses_of inputs) (number 4)))

abbrev pub flagged_by : Bool → Grammar Body
flagged_by true = witness_body
flagged_by false = empty_body

-- after a count of 0: the flag, and what it says
abbrev pub flagged_body : Grammar Body
flagged_body = after flag (λ b. has_witness b.1.1.0) flagged_by

abbrev pub body_after : ℕ → Grammar Body
body_after zero = flagged_body
body_after (suc n) = plain_body (suc n)

-- the count in front: 0 where witnesses follow
abbrev pub front_count : Body → ℕ
front_count b = if has_witness b.1.1.0 then 0 else length b.0

abbrev pub body : Grammar Body
body = after count front_count body_after

abbrev pub witness_transaction : Grammar Tx
witness_transaction = fields parts_of (pair signed32 body)

-- with witnesses, or without, where a count of 0 inputs is read as such
abbrev pub transaction_by : Bool → Grammar Tx
transaction_by true = witness_transaction
transaction_by false = transaction
