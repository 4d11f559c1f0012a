use Rattle.std.proofs.Common.{ap, ◌∙◌}
use Rattle.signatures.specs.Known.{verdict_in}
use Rattle.signatures.proofs.NewVerdict.{apart-valid, apart-invalid}
use Rattle.signatures.proofs.found_tables.FoundTables.learn.Goals as goal

pub invariant_of-self : goal.invariant_of-self
invariant_of-self c =
    let t = c.args.triple.now in
    apart-valid c.add_kept.result c.self.inside.valid c.self.inside.invalid _ t c.self.invariant (ap (λ found. verdict_in found t) c.self.view_is ∙ c.requires) c.add_kept.ensures.ok c.add_kept.ensures.err

pub invariant_of-self-else-valid : goal.invariant_of-self-else-valid
invariant_of-self-else-valid c =
    let t = c.args.triple.now in
    apart-invalid c.add_kept-else-valid.result c.self.inside.valid c.self.inside.invalid _ t c.self.invariant (ap (λ found. verdict_in found t) c.self.view_is ∙ c.requires) c.add_kept-else-valid.ensures.ok c.add_kept-else-valid.ensures.err
