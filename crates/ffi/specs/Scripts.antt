-- What is reported about scripts, the digests that signatures sign, and what an input may spend.
use Rattle.std.specs.Prelude.{◌≡◌, ℕ, ℤ, ◌-◌, ◌==◌, ◌<◌, ◌⊎◌, ◌↔◌, Bool, true, false, IsTrue, not, List, [], ◌∷◌, length, take, drop, Option, None, Some}
use Rattle.script.specs.Kinds.{is_p2sh, is_push_only, is_unspendable}
use Rattle.script.specs.Op.{number_of, pushed_of}
use Rattle.script.specs.Ops.{ops}
use Rattle.script.specs.Signatures.{sigops}
use Rattle.script.specs.declared.signatures.Counting.TheVariants.{Plain, Accurate}
use Rattle.txn.specs.Tx.{Tx}
use Rattle.sighash.specs.Digest.{digest_of}
use Rattle.signatures.specs.Triple.{Triples}
use Rattle.interp.specs.Rules.{Accepts}
use Rattle.interp.specs.declared.flags.Flags.{Flags}
use Rattle.ffi.specs.declared.shown.ShownFlags.{ShownFlags}
use Rattle.ffi.specs.declared.shown.ShownOp.{ShownOp}
use Rattle.ffi.specs.declared.shown.ShownScript.{ShownScript}
use Rattle.ffi.specs.Refusals.{bit}
use Rattle.ffi.specs.Tables.{IsByTable}
use Rattle.ffi.specs.Transactions.{counted}

-- an opcode at the front of a script: its number, its bytes, and those that it pushes, which are its last
pub record ShowsOp (script op : List ℕ) (shown : ShownOp) : Type 0 where
  pub number : shown.number ≡ number_of op
  pub bytes : shown.length ≡ length op
  pub front : take shown.length script ≡ op
  pub pushed : shown.pushed ≡ length (pushed_of op)
  pub last : drop (shown.length - shown.pushed) op ≡ pushed_of op

-- the first of a script's opcodes, and the others are the opcodes of what is behind it; or the script is empty
abbrev pub IsOpShown : List ℕ → List (List ℕ) → ShownOp → Type 0 → ℕ → Type 0
IsOpShown script [] shown kept result = (result ≡ 4) × kept
IsOpShown script (op ∷ others) shown kept result =
    (result ≡ 0) × ShowsOp script op shown × (ops (drop shown.length script) ≡ others)

pub record ShowsScript (script : List ℕ) (shown : ShownScript) : Type 0 where
  pub plain : shown.plain ≡ counted (sigops Plain script)
  pub accurate : shown.accurate ≡ counted (sigops Accurate script)
  pub push_only : shown.push_only ≡ bit (is_push_only script)
  pub p2sh : shown.p2sh ≡ bit (is_p2sh script)
  pub unspendable : shown.unspendable ≡ bit (is_unspendable script)

-- a number that bytes spell, or none
abbrev pub IsNumberTold : Option ℤ → ℤ → Type 0 → ℕ → Type 0
IsNumberTold None value kept result = (result ≡ 4) × kept
IsNumberTold (Some n) value kept result = (result ≡ 0) × (value ≡ n)

-- what is reported about an input, where there is one
abbrev pub IsOfInput : Tx → ℕ → Type 0 → Type 0 → ℕ → Type 0
IsOfInput tx input told kept result =
    ((input < length tx.inputs) × (result ≡ 0) × told) ⊎ (((input < length tx.inputs) → ⊥) × (result ≡ 24) × kept)

-- rules whose numbers aren't 0
abbrev pub flags_of : ShownFlags → Flags
flags_of f = record { p2sh = true; dersig = not (f.dersig == 0); cltv = not (f.cltv == 0); csv = not (f.csv == 0); nulldummy = false }

-- whether the input may spend the script is reported, by these valid signatures
pub record IsVerdict (tx : Tx) (input : ℕ) (spent : List ℕ) (flags : Flags) (triples : Triples) (told : ℕ) : Type 0 where
  pub yes : Bool
  pub told_is : told ≡ bit yes
  pub verdict : IsTrue yes ↔ Accepts tx input spent flags triples

-- the same, by a table of these lines
abbrev pub IsJudged : Tx → ℕ → List ℕ → Flags → List (List ℕ) → ℕ → ℕ → ℕ → Type 0 → ℕ → Type 0
IsJudged tx input spent flags ls before line told kept result =
    IsByTable ls (λ triples. IsVerdict tx input spent flags triples told) before line kept result

-- of an input that there is; for another one nothing is reported
abbrev pub IsInputJudged : Tx → ℕ → List ℕ → Flags → List (List ℕ) → ℕ → ℕ → ℕ → Type 0 → ℕ → Type 0
IsInputJudged tx input spent flags ls before line told kept result =
    ((input < length tx.inputs) × IsJudged tx input spent flags ls before line told kept result)
    ⊎ (((input < length tx.inputs) → ⊥) × (result ≡ 24) × (line ≡ before) × kept)
