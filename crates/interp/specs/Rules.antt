-- What scripts do, as relations between states (Bitcoin Core's `EvalScript` and `VerifyScript`).
use Rattle.std.specs.Prelude.{◌≡◌, ◌⊎◌, ℕ, ◌+◌, ◌≤◌, List, [], ◌∷◌, length, take, drop, Bool, true, false, Option, Some, None, nat_lt, if◌then◌else◌, slice_get}
use Rattle.std.specs.List.{concat}
use Rattle.script.specs.Ops.{ops, rest}
use Rattle.script.specs.Kinds.{is_push_only, is_p2sh, max_script_size}
use Rattle.txn.specs.Tx.{Tx}
use Rattle.txn.specs.declared.input.TxIn.{TxIn}
use Rattle.signatures.specs.Triple.{Triples}
use Rattle.interp.specs.Limits.{max_ops, max_keys, max_elements, max_number_size}
use Rattle.interp.specs.Stack.{Stack, Bytes, pop}
use Rattle.interp.specs.Elements.{truth_bytes, top_is_true, natural_of}
use Rattle.interp.specs.ScriptContext.{Spending, spending_of}
use Rattle.interp.specs.declared.flags.Flags.{Flags}
use Rattle.interp.specs.State.{State, is_executing, start}
use Rattle.interp.specs.Signatures.{signed_code, is_valid, MayBeTried, MayBeDummy, Tries}
use Rattle.interp.specs.Effects.{◌>>=◌, verify, on_main, ask_if}
use Rattle.interp.specs.Row.{Check, Of, Sig, Multisig, Row, Does, Controls, Tests, AndVerifies, Separates, Asks, row_of}

-- ---- signatures
-- `sig key -> T or F`
abbrev pub ChecksOne : Spending → State → State → Type 0
ChecksOne p s t =
    (signature key : Bytes) × (rest : Stack) × (s.main ≡ key ∷ signature ∷ rest) × MayBeTried p.flags signature
    × (t ≡ record s { main = truth_bytes (is_valid p (signed_code s.code (signature ∷ [])) signature key) ∷ rest })

-- what CHECKMULTISIG takes: keys, signatures and one element more, the dummy; and what lies below them
pub record Taken : Type 0 where
  pub keys : List Bytes
  pub signatures : List Bytes
  pub dummy : Bytes
  pub below : Stack

-- a number from 0 to so many, and the others
abbrev pub pop_count : ℕ → Stack → Option (ℕ × Stack)
pop_count most s = do
  top ← pop s
  n ← natural_of max_number_size top.0
  if nat_lt most n then None else Some (n, top.1)

-- so many elements, and the others
abbrev pub pop_many : ℕ → Stack → Option (List Bytes × Stack)
pop_many n s = if nat_lt (length s) n then None else Some (take n s, drop n s)

-- from the top: the number of keys, the keys, the number of signatures, the signatures, and one more
unfoldable pub multisig_of : State → Option Taken
multisig_of s = do
  n ← pop_count max_keys s.main
  keys ← pop_many n.0 n.1
  m ← pop_count n.0 keys.1
  signatures ← pop_many m.0 m.1
  dummy ← pop signatures.1
  if nat_lt max_ops (s.count + n.0) then None else Some (record { keys = keys.0; signatures = signatures.0; dummy = dummy.0; below = dummy.1 })

-- the answer comes in their place, and the keys are counted
abbrev pub with_answer : State → Taken → Bool → State
with_answer s taken answer = record s { main = truth_bytes answer ∷ taken.below; count = s.count + length taken.keys }

abbrev pub ChecksMany : Spending → State → State → Type 0
ChecksMany p s t =
    (taken : Taken) × (answer : Bool) × (multisig_of s ≡ Some taken)
    × Tries p (signed_code s.code taken.signatures) taken.signatures taken.keys answer
    × MayBeDummy p.flags taken.dummy × (t ≡ with_answer s taken answer)

abbrev pub Checks : Spending → Check → State → State → Type 0
Checks p (Of f) s t = on_main f s ≡ Some t
Checks p Sig s t = ChecksOne p s t
Checks p Multisig s t = ChecksMany p s t

-- ---- one opcode
-- a row that is executed; what follows the opcode in the script is `after`
abbrev pub Executed : Spending → List ℕ → Row → State → State → Type 0
Executed p after (Does f) s t = f s ≡ Some t
Executed p after (Controls f untaken) s t = f s ≡ Some t
Executed p after (Tests check) s t = Checks p check s t
Executed p after (AndVerifies check) s t = (mid : State) × Checks p check s mid × (on_main verify mid ≡ Some t)
Executed p after Separates s t = t ≡ record s { code = after }
Executed p after (Asks in_force test) s t = ask_if (in_force p.flags) (test p.tx p.input) s ≡ Some t

-- in a branch that isn't taken
abbrev pub skipped : Row → State → Option State
skipped (Controls f untaken) s = untaken s
skipped row s = Some s

abbrev pub Acts : Spending → List ℕ → Row → State → State → Type 0
Acts p after row s t = ((is_executing s ≡ true) × Executed p after row s t) ⊎ ((is_executing s ≡ false) × (skipped row s ≡ Some t))

-- an opcode above 60 is counted, and there are at most 201
unfoldable pub with_count : ℕ → State → Option State
with_count number s = if nat_lt 0x60 number then (if nat_lt s.count max_ops then Some (record s { count = s.count + 1 }) else None) else Some s

-- one opcode with its bytes, and what follows it in the script; after it both stacks have at most 1,000 elements
abbrev pub Step1 : Spending → List ℕ → List ℕ → State → State → Type 0
Step1 p after [] s t = ⊥
Step1 p after (number ∷ bytes) s t =
    (counted : State) × (with_count number s ≡ Some counted) × Acts p after (row_of (number ∷ bytes)) counted t
    × (length t.main + length t.alt ≤ max_elements)

-- ---- a script
abbrev pub Steps : Spending → List (List ℕ) → State → State → Type 0
Steps p [] s t = t ≡ s
Steps p (op ∷ others) s t = (mid : State) × Step1 p (concat others) op s mid × Steps p others mid t

-- the script runs on the stack over all its opcodes, and leaves this stack
pub record Run (p : Spending) (script : List ℕ) (stack end : Stack) : Type 0 where
  pub short : length script ≤ max_script_size
  -- no push is cut short
  pub whole : rest script ≡ []
  pub last : State
  pub steps : Steps p (ops script) (start script stack) last
  -- no condition is left open
  pub closed : last.conditions ≡ []
  pub left : end ≡ last.main

abbrev pub RunsToTrue : Spending → List ℕ → Stack → Type 0
RunsToTrue p script stack = (end : Stack) × Run p script stack end × (top_is_true end ≡ true)

-- ---- an input
-- BIP 16: the input script only pushes, and the top of the stack that it left, run as a script on the others, ends with
-- a true top
abbrev pub AcceptsInner : Spending → List ℕ → Stack → Type 0
AcceptsInner p script left =
    (is_push_only script ≡ true) × ((inner : Bytes) × (others : Stack) × (left ≡ inner ∷ others) × RunsToTrue p inner others)

-- the input script runs from an empty stack; the spent script, on the stack that it left, ends with a true top; and
-- so does the inner script, where BIP 16 is in force and the spent script is its
abbrev pub Accepts : Tx → ℕ → List ℕ → Flags → Triples → Type 0
Accepts tx input spent flags triples =
    let p = spending_of tx input flags triples in
    (own : TxIn) × (slice_get tx.inputs input ≡ Some own)
    × ((left : Stack) × Run p own.script [] left × RunsToTrue p spent left
    × (flags.p2sh ≡ true → is_p2sh spent ≡ true → AcceptsInner p own.script left))
