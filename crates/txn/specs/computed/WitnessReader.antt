-- Reading with witnesses from left to right, with the first fault that is met.
use Rattle.std.specs.Prelude.{ℕ, zero, suc, List, [], Result, Ok, Err, length, slice_index, Bool, true, false, if◌then◌else◌}
use Rattle.wire.specs.declared.fault.WireFault.{WireFault}
use Rattle.wire.specs.declared.fault.WireFault.TheVariants.{LongForm, TooLarge}
use Rattle.wire.specs.computed.Reader.{◌>>=◌, Part, piece_at, number_at, i32_at, compact_at, many_at, counted_at, sized_at}
use Rattle.txn.specs.Tx.{Tx, Witness}
use Rattle.txn.specs.WitnessGrammar.{Body, has_witness}
use Rattle.txn.specs.computed.Reader.{tx_in_at, tx_out_at, tx_at}

unfoldable pub witness_at : Part Witness
witness_at bytes = counted_at sized_at bytes

-- what passes a test, or else a fault
abbrev pub only_at : {A : Type 0} → WireFault → (A → Bool) → Part A → Part A
only_at fault test part bytes = do
  x ← part bytes
  if test x.0 then Ok x else Err fault

unfoldable pub witnesses_at : ℕ → Part (List Witness)
witnesses_at n bytes = only_at LongForm has_witness (many_at witness_at n) bytes

-- what a byte says of witnesses
abbrev pub flag_in : ℕ → List ℕ → Result (Bool × List ℕ) WireFault
flag_in zero rest = Ok (false, rest)
flag_in (suc zero) rest = Ok (true, rest)
flag_in (suc (suc n)) rest = Err TooLarge

unfoldable pub flag_at : Part Bool
flag_at bytes = do
  byte ← piece_at 1 bytes
  flag_in (slice_index byte.0 0) byte.1

unfoldable pub plain_at : ℕ → Part Body
plain_at n bytes = do
  inputs ← many_at tx_in_at n bytes
  outputs ← counted_at tx_out_at inputs.1
  lock_time ← number_at 4 outputs.1
  Ok ((inputs.0, (outputs.0, ([], lock_time.0))), lock_time.1)

unfoldable pub empty_at : Part Body
empty_at bytes = do
  lock_time ← number_at 4 bytes
  Ok (([], ([], ([], lock_time.0))), lock_time.1)

unfoldable pub witness_body_at : Part Body
witness_body_at bytes = do
  inputs ← counted_at tx_in_at bytes
  outputs ← counted_at tx_out_at inputs.1
  witnesses ← witnesses_at (length inputs.0) outputs.1
  lock_time ← number_at 4 witnesses.1
  Ok ((inputs.0, (outputs.0, (witnesses.0, lock_time.0))), lock_time.1)

abbrev pub flagged_by_at : Bool → Part Body
flagged_by_at true = witness_body_at
flagged_by_at false = empty_at

unfoldable pub flagged_at : Part Body
flagged_at bytes = do
  has ← flag_at bytes
  flagged_by_at has.0 has.1

abbrev pub body_after_at : ℕ → Part Body
body_after_at zero = flagged_at
body_after_at (suc n) = plain_at (suc n)

unfoldable pub witness_tx_at : Part Tx
witness_tx_at bytes = do
  version ← i32_at bytes
  n ← compact_at version.1
  body ← body_after_at n.0 n.1
  Ok (record { version = version.0; inputs = body.0.0; outputs = body.0.1.0; lock_time = body.0.1.1.1; witnesses = body.0.1.1.0 }, body.1)

-- with witnesses, or without
abbrev pub tx_by_at : Bool → Part Tx
tx_by_at true = witness_tx_at
tx_by_at false = tx_at
