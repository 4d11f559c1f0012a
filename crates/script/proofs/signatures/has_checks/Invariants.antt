use Rattle.std.proofs.Common.{◌≡◌, take}
use Rattle.std.specs.List.{list_any}
use Rattle.script.specs.inside.Signatures.{is_check}
use Rattle.script.proofs.signatures.has_checks.Given as goal

abbrev pub invariant-loop-byte : goal.invariant-loop-byte
invariant-loop-byte l = l.found ≡ list_any is_check (take l.byte-index l.script)
