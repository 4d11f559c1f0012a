-- What a session knows of signatures.
use Rattle.std.specs.Prelude.{Some}
use Rattle.std.specs.FinSet as set
use Rattle.signatures.specs.Known.{Known, verdict_in}
use Rattle.ffi.specs.declared.signature_sources.Signatures.{Signatures}
use Rattle.ffi.specs.declared.signature_sources.Signatures.TheVariants.{Listed, Found}

abbrev pub known_in : Signatures → Known
known_in (Listed table) = λ t. Some (set.contains table t)
known_in (Found found) = verdict_in found
