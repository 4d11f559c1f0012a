-- What is reported about a Merkle tree.
use Rattle.std.specs.Prelude.{◌≡◌, ℕ, ◌⊎◌, List}
use Rattle.hash.specs.declared.id.Id.{Id}
use Rattle.block.specs.Merkle.{root, twin}
use Rattle.ffi.specs.declared.answers.Name.{Name}
use Rattle.ffi.specs.Answers.{id_of}
use Rattle.ffi.specs.Refusals.{bit}

-- its root, and whether another list of ids has it too; or there was no memory, and nothing is written
abbrev pub IsMerkleTold : List Id → Name → Name → ℕ → ℕ → ℕ → Type 0
IsMerkleTold ids before found unknown known result =
    ((result ≡ 0) × (id_of found ≡ root ids) × (known ≡ bit (twin ids)))
    ⊎ ((result ≡ 1) × (found ≡ before) × (known ≡ unknown))
