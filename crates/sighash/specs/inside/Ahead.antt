-- Digests that are found before they are asked for.
use Rattle.std.specs.Prelude.{◌≡◌, ℕ, ◌+◌, ◌*◌, ◌%◌, ◌<◌, ◌≤◌, List, [], length, take, Option, Some, slice_get, slice_index_or}
use Rattle.std.specs.Borrow.{Bor}
use denote.Struct.Props as logic
use Rattle.hash.specs.declared.id.Id.{Id}
use Rattle.lanes.specs.Lane.{lanes}
use Rattle.lanes.specs.Midstate.{IsAfter, part}
use Rattle.script.specs.Removal.{bytes_of}
use Rattle.txn.specs.Tx.{Tx}
use Rattle.sighash.specs.Digest.{digest_of}
use Rattle.sighash.specs.declared.ahead.Begun.{Begun}
use Rattle.sighash.specs.declared.ahead.Group.{Group}

-- code l of eight that are lent
abbrev pub code_at : List (Bor (List ℕ)) → ℕ → List ℕ
code_at codes l = slice_index_or (bytes_of codes) l []

-- eight codes of one length, for which digests are found ahead
abbrev pub AreOfLength : ℕ → List (Bor (List ℕ)) → Type 0
AreOfLength len codes = (len ≤ 1000) × ((l : ℕ) → l < lanes → length (code_at codes l) ≡ len)

-- each of eight inputs from number n on has the digest of its code, with hash type ALL
abbrev pub AreDigests : Tx → ℕ → (ℕ → List ℕ) → List Id → Type 0
AreDigests t n code digests = (l : ℕ) → l < lanes → (d : Id) → (slice_index_or digests l d).0 ≡ digest_of t (n + l) (code l) 1

-- group g is of the inputs 8g to 8g + 7, whose codes lie one after the other
abbrev pub AreGroups : Tx → List (Option Group) → Type 0
AreGroups t groups = (g : ℕ) (group : Group) → slice_get groups g ≡ Some (Some group) → AreDigests t (8 * g) (part group.codes.items) group.digests

pub AreGroups-prop : (t : Tx) (groups : List (Option Group)) → IsProp (AreGroups t groups)
AreGroups-prop t groups = Prim.hlevel logic.props

-- so many bytes of a spelling were taken in, in whole blocks
abbrev pub IsBegun : List ℕ → Begun → Type 0
IsBegun flat begun = (begun.fed % 64 ≡ 0) × IsAfter begun.midstate (take begun.fed flat)
