-- What is reported about an input by what is known of signatures: those of one table are valid, those of another aren't.
use Rattle.std.specs.Prelude.{◌≡◌, ◌⊎◌, ◌↔◌, ℕ, ◌<◌, Bool, IsTrue, List, length}
use Rattle.txn.specs.Tx.{Tx}
use Rattle.signatures.specs.Known.{Under, Verdicts, AreApart, verdict_in}
use Rattle.signatures.specs.Lines.{IsFirstBad, IsTableOf}
use Rattle.signatures.specs.Triple.{Triple}
use Rattle.interp.specs.Answer.{Wants}
use Rattle.interp.specs.Question.{question}
use Rattle.interp.specs.computed.Step.{verdict}
use Rattle.interp.specs.Rules.{Accepts}
use Rattle.interp.specs.declared.flags.Flags.{Flags}
use Rattle.ffi.specs.Refusals.{bit}
use Rattle.ffi.specs.Room.{IsAtFront}
use Rattle.ffi.specs.Tables.{line_of}

-- the triples of both tables
pub record AreOf (valid invalid : List (List ℕ)) (found : Verdicts) : Type 0 where
  pub valid_are : IsTableOf valid found.valid
  pub invalid_are : IsTableOf invalid found.invalid

-- a verdict is reported, which is the same whatever else is valid
pub record IsAgreed (tx : Tx) (input : ℕ) (spent : List ℕ) (flags : Flags) (found : Verdicts) (told : ℕ) : Type 0 where
  pub yes : Bool
  pub told_is : told ≡ bit yes
  pub verdict : Under (verdict_in found) (λ triples. IsTrue yes ↔ Accepts tx input spent flags triples)

-- what is known doesn't suffice for a verdict: whether this triple is valid has to be found out first
abbrev pub IsWanted : Tx → ℕ → List ℕ → Flags → Verdicts → Triple → Type 0
IsWanted tx input spent flags found t = verdict (verdict_in found) (question tx input spent flags) ≡ Wants t

-- what is passed for a triple's line: its room and the number of its bytes, before a call and after it
pub record Asked : Type 0 where
  pub room : List ℕ
  pub count : ℕ

abbrev pub asked_of : List ℕ → ℕ → Asked
asked_of room count = record { room = room; count = count }

-- a triple's line is there, or there is no room for it; how many bytes it has is reported in both cases
abbrev pub IsLineTold : Triple → Asked → Asked → ℕ → Type 0
IsLineTold t before after result =
    let line = line_of t.key t.signature t.digest in
    (((result ≡ 29) × IsAtFront line before.room after.room)
    ⊎ ((result ≡ 5) × (length before.room < length line) × (after.room ≡ before.room)))
    × (after.count ≡ length line)

-- the verdict, or a triple's line; or there was no memory
abbrev pub IsFound : Tx → ℕ → List ℕ → Flags → Verdicts → ℕ → Type 0 → Asked → Asked → ℕ → Type 0
IsFound tx input spent flags found told kept before after result =
    ((result ≡ 0) × IsAgreed tx input spent flags found told × (after ≡ before))
    ⊎ (((t : Triple) × IsWanted tx input spent flags found t × IsLineTold t before after result × kept)
    ⊎ ((result ≡ 1) × (after ≡ before) × kept))

-- The same by two tables. A line of one can't be read, and only that is reported; or a triple is in both.
abbrev pub IsFoundBy : Tx → ℕ → List ℕ → Flags → List (List ℕ) → List (List ℕ) → ℕ → ℕ → ℕ → Type 0 → Asked → Asked → ℕ → Type 0
IsFoundBy tx input spent flags valid invalid before line told kept asked asked' result =
    ((found : Verdicts) × AreOf valid invalid found × (line ≡ before) × IsFound tx input spent flags found told kept asked asked' result)
    ⊎ ((((found : Verdicts) × AreOf valid invalid found × (AreApart found.valid found.invalid → ⊥) × (line ≡ before) × (result ≡ 30))
    ⊎ (((IsFirstBad valid line ⊎ IsFirstBad invalid line) × (result ≡ 3))
    ⊎ ((line ≡ before) × (result ≡ 1)))) × (asked' ≡ asked) × kept)

-- of an input that there is; for another one nothing is reported
abbrev pub IsInputFound : Tx → ℕ → List ℕ → Flags → List (List ℕ) → List (List ℕ) → ℕ → ℕ → ℕ → Type 0 → Asked → Asked → ℕ → Type 0
IsInputFound tx input spent flags valid invalid before line told kept asked asked' result =
    ((input < length tx.inputs) × IsFoundBy tx input spent flags valid invalid before line told kept asked asked' result)
    ⊎ (((input < length tx.inputs) → ⊥) × (result ≡ 24) × (line ≡ before) × (asked' ≡ asked) × kept)
