use Rattle.durable.proofs.Whole.{lines_rest}
use Rattle.durable.proofs.uncut_log.UncutLog.read.Goals as goal

pub returns-clause-end : goal.returns-clause-end
returns-clause-end g c =
    let f = c.whole_lines.ensures in
    (f.end, f.whole, lines_rest c.whole_lines.result.end c.args.bytes.now f.whole f.rest)
