-- At a table what holds under each set that agrees is what holds of the table.
use Rattle.std.specs.Prelude.{◌≡◌, All, List, Some}
use Rattle.std.proofs.Common.{subst, sym}
use Rattle.queue.specs.Jobs.{Answered, IsEarly, known_then}
use Rattle.signatures.specs.Known.{Known, Under, all_known}
use Rattle.signatures.specs.Triple.{Triples}
use Rattle.signatures.specs.laws.Growth.{table-alone}
use Rattle.signatures.specs.laws.Agreement.{table_agrees}

pub at_table : (table : Triples) (P : Triples → Type 0) → P table → Under (all_known table) P
at_table table P holds triples agrees = subst P (sym ((table-alone table triples).0 agrees)) holds

pub of_table : (table : Triples) (P : Triples → Type 0) → Under (all_known table) P → P table
of_table table P under = under table (table_agrees table)

-- verdicts of the table are early ones
pub tables_early : (table : Triples) (list : List Answered) → All (λ v. known_then v ≡ all_known table) list → All (IsEarly (all_known table)) list
tables_early table list same = λ k d within t valid is. subst (λ (known : Known). known t ≡ Some valid) (same k d within) is
