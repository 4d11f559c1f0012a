-- The bytes of a script, in place or apart.
use Rattle.std.specs.Prelude.{ℕ, List, take}
use Rattle.txn.specs.declared.script.Stored.{Stored}
use Rattle.txn.specs.declared.script.Stored.TheVariants.{InPlace, Apart}

abbrev pub bytes_of : Stored → List ℕ
bytes_of (InPlace short) = take short.len short.bytes
bytes_of (Apart bytes) = bytes.items
