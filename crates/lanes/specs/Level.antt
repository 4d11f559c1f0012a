-- A level of a Merkle tree (Bitcoin Core's `ComputeMerkleRoot`, which hashes by `SHA256D64`).
use Rattle.std.specs.Prelude.{List, [], ◌∷◌, ◌++◌}
use Rattle.hash.specs.declared.id.Id.{Id}
use Rattle.lanes.specs.Messages.{message_id}

-- each two neighbours hashed, one after the other, from left to right; an odd level's last id is in no pair
abbrev pub pair_ids : List Id → List Id
pair_ids [] = []
pair_ids (a ∷ []) = []
pair_ids (a ∷ b ∷ ids) = message_id (a.0 ++ b.0) ∷ pair_ids ids
