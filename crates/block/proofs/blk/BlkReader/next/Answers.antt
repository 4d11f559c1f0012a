use Rattle.std.proofs.Common.{List, ℕ, sym, ap, subst}
use Rattle.block.specs.Blk.{IsRecord}
use Rattle.block.specs.Progress.{Progress}
use Rattle.block.proofs.UniqueRecord.{told_record}
use Rattle.block.proofs.blk.BlkReader.next.Goals as goal

pub returns-in-Ok-Some-clause-reads : goal.returns-in-Ok-Some-clause-reads
returns-in-Ok-Some-clause-reads g c = λ block after reading is.
    let same = ap (λ (p : Progress). p.to_come) c.self.view_is in
    told_record (λ b. b.items) c.self.inside.offset _ _ c.next_record-found.result c.next_record-found.ensures.found c.next_record-found.ensures.refused block after
    (subst (λ (rest : List ℕ). IsRecord block rest after) (sym same) is)
