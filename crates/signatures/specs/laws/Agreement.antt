-- A set that agrees with what is known of signatures.
use Rattle.std.specs.Prelude.{◌≡◌, Bool, true, false, cond, Some, None}
use Rattle.std.proofs.Common.{ap}
use Rattle.std.specs.FinSet as set
use Rattle.signatures.specs.Known.{Agrees, Verdicts, all_known, verdict_in}
use Rattle.signatures.specs.Triple.{Triples}

same_some : {a b : Bool} → Some a ≡ Some b → a ≡ b
same_some e = ap (elim [ Some x ↦ x | None ↦ true ]) e

-- with a table that of its triples
pub table_agrees : (table : Triples) → Agrees (all_known table) table
table_agrees table t valid is = same_some is

at : (a b valid : Bool) → (cond a (Some true) (cond b (Some false) None)) ≡ Some valid → a ≡ valid
at true b valid is = same_some is
at false true valid is = same_some is
at false false valid is = cc

-- with what was found out those that were found valid
pub found_agrees : (found : Verdicts) → Agrees (verdict_in found) found.valid
found_agrees found t valid is = at (set.contains found.valid t) (set.contains found.invalid t) valid is
