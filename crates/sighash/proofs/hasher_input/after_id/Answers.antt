use Rattle.std.proofs.Common.{refl}
use Rattle.wire.specs.Numbers.{compact_size}
use Rattle.sighash.proofs.hasher_input.after_id.Goals as goal

pub returns : goal.returns
unfolding compact_size
returns c = rw (c.to_le_bytes-index.ensures, c.to_le_bytes-last.ensures) refl
