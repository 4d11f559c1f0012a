-- A set of valid signatures that agrees with what a session knows.
use Rattle.signatures.specs.Known.{Agrees}
use Rattle.signatures.specs.laws.Agreement.{table_agrees, found_agrees}
use Rattle.ffi.specs.declared.signature_sources.Signatures.{Signatures}
use Rattle.ffi.specs.declared.signature_sources.Signatures.TheVariants.{Listed, Found}
use Rattle.ffi.specs.Signatures.{valid_in}
use Rattle.ffi.specs.inside.Signatures.{known_in}

pub agrees_in : (it : Signatures) → Agrees (known_in it) (valid_in it)
agrees_in (Listed table) = table_agrees table
agrees_in (Found found) = found_agrees found
