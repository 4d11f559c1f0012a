-- The inputs before this one may spend their scripts.
use Rattle.std.proofs.Common.{◌≡◌, drop}
use Rattle.signatures.specs.Known.{verdict_in}
use Rattle.ffi.specs.NamedFailures.{flags_in}
use Rattle.ffi.specs.ParsedTransaction.{first_refused}
use Rattle.ffi.proofs.parsed_transaction.first_refused.Given as goal

abbrev pub invariant-loop-place : goal.invariant-loop-place
invariant-loop-place l = first_refused (verdict_in l.known) (flags_in l.flags) l.kept.tx 0 l.scripts
    ≡ first_refused (verdict_in l.known) (flags_in l.flags) l.kept.tx l.place (drop l.place l.scripts)
