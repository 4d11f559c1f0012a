-- What a session has of signatures, as it is kept.
use Rattle.std.specs.Prelude.{Bool, true, false}
use Rattle.std.specs.FinSet as set
use Rattle.signatures.specs.Triple.{Triples}
use Rattle.ffi.specs.declared.signature_sources.Signatures.{Signatures}
use Rattle.ffi.specs.declared.signature_sources.Signatures.TheVariants.{Listed, Found}

-- those that are known to be valid, and others that are known not to be
abbrev pub valid_in : Signatures → Triples
valid_in (Listed table) = table
valid_in (Found found) = found.valid

abbrev pub invalid_in : Signatures → Triples
invalid_in (Listed table) = set.empty
invalid_in (Found found) = found.invalid

-- whether nothing is known of all others
abbrev pub is_by_need : Signatures → Bool
is_by_need (Listed table) = false
is_by_need (Found found) = true
