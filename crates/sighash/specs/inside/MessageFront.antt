-- What the messages of a transaction's inputs begin with, where the other inputs are signed with their sequences.
use Rattle.std.specs.Prelude.{◌≡◌, ℕ, ◌+◌, ◌*◌, List, ◌++◌, map, take, drop, length, Some, slice_get}
use Rattle.std.specs.List.{flat_map}
use denote.Struct.Props as logic
use Rattle.sha2.specs.declared.Sha256.{Sha256}
use Rattle.sha2.specs.Hashers.{Holds256}
use Rattle.sha2.specs.Sha256.{Holds}
use Rattle.wire.specs.Grammar.{signed32}
use Rattle.wire.specs.Numbers.{compact_size}
use Rattle.txn.specs.declared.input.TxIn.{TxIn}
use Rattle.txn.specs.Tx.{Tx}
use Rattle.txn.specs.Grammar.{input}
use Rattle.sighash.specs.Digest.{own_input, other_input}

-- the input of number n with the code, among the others
abbrev pub among : ℕ → ℕ → List ℕ → List TxIn → List TxIn
among kind n code inputs = map (other_input kind) (take n inputs) ++ map (own_input code) (take 1 (drop n inputs)) ++ map (other_input kind) (drop (n + 1) inputs)

-- what is before input n: the version, the count of inputs, and the earlier inputs without scripts
abbrev pub beginning : Tx → ℕ → List ℕ
beginning t n = signed32.spell t.version ++ compact_size (length t.inputs) ++ flat_map input.spell (map (other_input 1) (take n t.inputs))

-- each state was fed what is before one of the inputs 16, 32, 48 and so on
abbrev pub AreMidstates : Tx → List Sha256 → Type 0
AreMidstates t states = (k : ℕ) (state : Sha256) → slice_get states k ≡ Some state → Holds256 state (beginning t (16 * (k + 1)))

pub AreMidstates-prop : (t : Tx) (states : List Sha256) → IsProp (AreMidstates t states)
unfolding Holds
AreMidstates-prop t states = Prim.hlevel logic.props
