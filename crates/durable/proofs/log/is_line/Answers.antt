use Rattle.std.proofs.Common.{rules}
use Rattle.durable.proofs.Whole.{no_line, line_more}
use Rattle.durable.proofs.log.is_line.Goals as goal

pub returns-then-byte-eq0 : goal.returns-then-byte-eq0
returns-then-byte-eq0 c = (λ (no : _). absurd (search rules), λ (is : _). absurd (no_line c.args.bytes.now c.loop-place.place (search rules) c.then-byte-eq0.either is))

pub loop-place-preserved : goal.loop-place-preserved
loop-place-preserved c = line_more c.args.bytes.now c.loop-place.place (search rules) c.loop-place.invariant (search rules) (search rules)
