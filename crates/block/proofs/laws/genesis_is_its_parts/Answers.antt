use Rattle.std.proofs.Common.{refl}
use Rattle.wire.specs.Numbers.{compact_size}
use Rattle.sha2.specs.Sha256.{first_words, schedule, rounds, compress, hash_after, digest_bytes, sha256}
use Rattle.block.proofs.laws.genesis_is_its_parts.Goals as goal

pub returns-clause-bytes : goal.returns-clause-bytes
unfolding compact_size
returns-clause-bytes c = refl

pub returns-clause-root : goal.returns-clause-root
unfolding compact_size first_words schedule rounds compress hash_after digest_bytes sha256
returns-clause-root c = (refl, refl)

pub returns-clause-id : goal.returns-clause-id
unfolding compact_size first_words schedule rounds compress hash_after digest_bytes sha256
returns-clause-id c = (refl, refl)
