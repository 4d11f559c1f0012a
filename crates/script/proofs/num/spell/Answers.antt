use Rattle.std.proofs.Common.{◌∙◌, ap, ◌++◌, ◌/◌, arith}
use Rattle.script.proofs.NumberBytes.{spelled_more, spelled_last}
use Rattle.script.specs.Num.{shortest_bytes_with}
use Rattle.script.proofs.num.spell.Goals as goal

pub loop-left-preserved : goal.loop-left-preserved
loop-left-preserved c =
    ap (λ bytes. bytes ++ shortest_bytes_with 9 c.args.sign (c.loop-left.left / 256)) c.in_ok-push.ensures.items
    ∙ spelled_more c.loop-left.bytes.items c.args.sign c.loop-left.left (omega arith) (omega arith) ∙ c.loop-left.invariant

pub returns : goal.returns
returns c =
    c.in_ok-push-2.ensures.items ∙ spelled_last c.loop-left.bytes.items c.args.sign c.loop-left.left (omega arith) ∙ c.loop-left.invariant
