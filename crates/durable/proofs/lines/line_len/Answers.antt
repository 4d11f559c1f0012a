use Rattle.std.proofs.Common.{rules}
use Rattle.durable.proofs.Whole.{none_here, line_more, lines_open, line_all}
use Rattle.durable.proofs.lines.line_len.Goals as goal

pub returns-then-byte-eq0 : goal.returns-then-byte-eq0
returns-then-byte-eq0 c = none_here c.args.text.now c.loop-place.place (search rules) c.loop-place.invariant (search rules)

pub loop-place-preserved : goal.loop-place-preserved
loop-place-preserved c = line_more c.args.text.now c.loop-place.place (search rules) c.loop-place.invariant (search rules) (search rules)

pub returns : goal.returns
returns c = lines_open c.args.text.now (line_all c.loop-place.place c.args.text.now (search rules) c.loop-place.invariant)
