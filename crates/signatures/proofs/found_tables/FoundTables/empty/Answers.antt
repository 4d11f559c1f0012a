use Rattle.std.proofs.Common.{ap, ◌∙◌}
use Rattle.std.specs.FinSet as set
use Rattle.signatures.specs.Triple.{triple_cmp}
use Rattle.signatures.proofs.found_tables.FoundTables.empty.Goals as goal

pub invariant_of-result : goal.invariant_of-result
invariant_of-result c t is = ap (λ s. set.contains s t) c.new-2.ensures ∙ set.contains-empty triple_cmp t
