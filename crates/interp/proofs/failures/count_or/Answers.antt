use Rattle.std.proofs.Common.{◌∙◌, ap, sym}
use Rattle.interp.specs.Failures.{count_of}
use Rattle.interp.proofs.Counts.{count_there}
use Rattle.interp.proofs.failures.count_or.Goals as goal

pub returns-clause-value : goal.returns-clause-value
returns-clause-value c =
    c.count_of.ensures.value ∙ ap (count_of c.args.most c.args.beyond) c.as_slice.ensures
    ∙ sym (count_there c.args.most c.args.at c.args.beyond c.args.main.now c.at.result.now c.at.ensures)
