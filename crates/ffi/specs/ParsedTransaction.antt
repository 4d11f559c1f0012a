-- A transaction that is read once and asked many times.
use Rattle.std.specs.Prelude.{◌≡◌, ◌≢◌, ℕ, ◌+◌, ◌<◌, ◌⊎◌, List, [], ◌∷◌, length, map, Option, None, Some, Ok, Err}
use Rattle.std.specs.List.{flat_map}
use Rattle.std.specs.Option.{option_map}
use Rattle.signatures.specs.Known.{Known, verdict_in}
use Rattle.signatures.specs.Lines.{lines}
use Rattle.interp.specs.Answer.{Answer, Says, Wants}
use Rattle.interp.specs.Question.{question}
use Rattle.interp.specs.computed.NamedFailures.{Named, verify_script}
use Rattle.interp.specs.declared.flags.Flags.{Flags}
use Rattle.interp.specs.declared.script_error.ScriptError.{ScriptError}
use Rattle.sighash.specs.declared.precomputed_tx.PrecomputedTx.{PrecomputedTx}
use Rattle.txn.specs.Tx.{Tx}
use Rattle.txn.specs.Grammar.{transaction}
use Rattle.txn.specs.computed.Reader.{tx_at}
use Rattle.ffi.specs.declared.shown.AllQuestion.{AllQuestion}
use Rattle.ffi.specs.declared.shown.AllTold.{AllTold}
use Rattle.ffi.specs.Known.{Asked, asked_of}
use Rattle.ffi.specs.NamedFailures.{IsAnswered, IsByTables, all_sizes, flags_in, number_of}
use Rattle.ffi.specs.Refusals.{IsTold}

-- the transaction that is kept, with what the digests of its inputs share
abbrev pub tx_kept : Option PrecomputedTx → Option Tx
tx_kept kept = option_map (λ (it : PrecomputedTx). it.tx) kept

-- A slot that is full stays so. Into another one comes the transaction at the front of the bytes, and how many of them it
-- takes is reported; or their fault is reported.
abbrev pub IsRead : List ℕ → Option Tx → Option Tx → ℕ → ℕ → ℕ → Type 0
IsRead bytes (Some tx) after before used result = (result ≡ 6) × (after ≡ Some tx) × (used ≡ before)
IsRead bytes None after before used result =
    let kept = (after ≡ None) × (used ≡ before) in
    IsTold (tx_at bytes) (λ tx. (result ≡ 0) × (after ≡ Some tx) × (used ≡ length (transaction.spell tx))) kept result

-- there is nothing behind the transaction, or nothing is read
abbrev pub IsWhole : List ℕ → Tx → Option Tx → ℕ → Type 0
IsWhole bytes tx after result =
    let size = length (transaction.spell tx) in
    ((size ≡ length bytes) × (result ≡ 0) × (after ≡ Some tx)) ⊎ ((size < length bytes) × (result ≡ 23) × (after ≡ None))

-- the same for the transaction that all the bytes spell
abbrev pub IsReadWhole : List ℕ → Option Tx → Option Tx → ℕ → Type 0
IsReadWhole bytes (Some tx) after result = (result ≡ 6) × (after ≡ Some tx)
IsReadWhole bytes None after result = IsTold (tx_at bytes) (λ tx. IsWhole bytes tx after result) (after ≡ None) result

-- what is reported about what is in a slot; where there is nothing in it nothing is
abbrev pub IsOfKept : {A : Type 0} → Option A → (A → Type 0) → Type 0 → ℕ → Type 0
IsOfKept None told kept result = (result ≡ 2) × kept
IsOfKept (Some x) told kept result = told x

-- ---- all inputs

-- what the input at a place says, before those that follow it
abbrev pub before_others : ℕ → Named (Unit {0}) → Answer (Option (ℕ × ScriptError)) → Answer (Option (ℕ × ScriptError))
before_others place (Wants t) others = Wants t
before_others place (Says (Ok u)) others = others
before_others place (Says (Err name)) others = Says (Some (place, name))

-- the first input from a place on that may not spend its script, and why; the scripts are those of the inputs from there on
abbrev pub first_refused : Known → Flags → Tx → ℕ → List (List ℕ) → Answer (Option (ℕ × ScriptError))
first_refused known flags tx place [] = Says None
first_refused known flags tx place (script ∷ scripts) =
    before_others place (verify_script known (question tx place script flags)) (first_refused known flags tx (place + 1) scripts)

-- what is reported about all inputs: the line of a table that can't be read, the input, the number of its failure, and the line
-- that is asked for
pub record ToldAll : Type 0 where
  pub line : ℕ
  pub input : ℕ
  pub error : ℕ
  pub asked : Asked

abbrev pub told_all : AllTold → List ℕ → ToldAll
told_all told room = record { line = told.line; input = told.input; error = told.error; asked = asked_of room told.count }

-- the input, and the number of its failure; both are 0 where there is none
abbrev pub IsRefusalTold : Option (ℕ × ScriptError) → ToldAll → Type 0
IsRefusalTold None after = (after.input ≡ 0) × (after.error ≡ 0)
IsRefusalTold (Some refused) after = (after.input ≡ refused.0) × (after.error ≡ number_of refused.1)

-- what is known suffices for it, or a triple is asked for
abbrev pub IsRefusalAnswered : Answer (Option (ℕ × ScriptError)) → ToldAll → ToldAll → ℕ → Type 0
IsRefusalAnswered answer before after result =
    IsAnswered answer (λ refused. (result ≡ 0) × IsRefusalTold refused after)
    ((after.input ≡ before.input) × (after.error ≡ before.error)) before.asked after.asked result

-- There is a script for each input, and bytes for each script; or that is reported, or there was no memory.
abbrev pub IsOfScripts : Tx → List ℕ → List ℕ → (List (List ℕ) → Type 0) → Type 0 → ℕ → Type 0
IsOfScripts tx sizes bytes told kept result =
    ((scripts : List (List ℕ)) × (length scripts ≡ length tx.inputs) × (map (λ script. length script) scripts ≡ sizes)
    × (flat_map (λ script. script) scripts ≡ bytes) × told scripts)
    ⊎ ((((result ≡ 25) × ((length sizes ≢ length tx.inputs) ⊎ (all_sizes sizes ≢ length bytes))) ⊎ (result ≡ 1)) × kept)

-- the same by two tables
abbrev pub AreInputsNamed : Tx → AllQuestion → ToldAll → ToldAll → ℕ → Type 0
AreInputsNamed tx q before after result =
    let kept = (after.asked ≡ before.asked) × (after.input ≡ before.input) × (after.error ≡ before.error) in
    IsOfScripts tx q.sizes.now q.scripts.now (λ scripts. IsByTables (lines q.valid.now) (lines q.invalid.now)
    (λ found. IsRefusalAnswered (first_refused (verdict_in found) (flags_in q.flags) tx 0 scripts) before after result) before.line after.line kept result)
    ((after.line ≡ before.line) × kept) result
