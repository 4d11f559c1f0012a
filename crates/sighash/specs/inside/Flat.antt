-- What the messages of a transaction's inputs have in common, where their hash type is ALL.
use Rattle.std.specs.Prelude.{◌≡◌, ℕ, ◌+◌, ◌-◌, ◌*◌, ◌≤◌, List, ◌++◌, length, take, drop}
use denote.Struct.Props as logic
use Rattle.wire.specs.Grammar.{number, sized_bytes, counted_list}
use Rattle.txn.specs.Tx.{Tx}
use Rattle.txn.specs.Grammar.{output}
use Rattle.sighash.specs.inside.MessageFront.{beginning}

-- what is behind the inputs
abbrev pub behind : Tx → List ℕ
behind t = ((counted_list output).spell t.outputs ++ (number 4).spell t.lock_time) ++ (number 4).spell 1

-- the transaction without scripts of inputs is spelled, and its inputs have 41 bytes each
abbrev pub IsFlat : Tx → List ℕ → ℕ → Type 0
IsFlat t flat first = (flat ≡ beginning t (length t.inputs) ++ behind t) × ((k : ℕ) → k ≤ length t.inputs → first + 41 * k ≡ length (beginning t k))

pub IsFlat-prop : (t : Tx) (flat : List ℕ) (first : ℕ) → IsProp (IsFlat t flat first)
IsFlat-prop t flat first = Prim.hlevel logic.props

-- what is between two places, with a script in place of the empty one, whose length is the byte at `empty`
abbrev pub with_script : List ℕ → ℕ → ℕ → ℕ → List ℕ → List ℕ
with_script flat from empty to script = take (empty - from) (drop from flat) ++ (sized_bytes.spell script ++ take (to - (empty + 1)) (drop (empty + 1) flat))
