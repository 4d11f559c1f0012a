use Rattle.std.proofs.Common.{arith}
use Rattle.script.proofs.NumberBytes.{others_below}
use Rattle.script.proofs.num.+magnitude.Goals as goal

pub overflow_mul-result : goal.overflow_mul-result
overflow_mul-result t c =
    let below = others_below c.args.bytes.now (λ i. omega (arith, c.type_inv.bytes i)) c.requires in omega (arith, c.magnitude.ensures.value)

pub overflow_add-result : goal.overflow_add-result
overflow_add-result t c =
    let below = others_below c.args.bytes.now (λ i. omega (arith, c.type_inv.bytes i)) c.requires in omega (arith, c.magnitude.ensures.value, c.type_inv.bytes 0)

pub returns-in-len1-up-clause-bound : goal.returns-in-len1-up-clause-bound
returns-in-len1-up-clause-bound t c =
    let below = others_below c.args.bytes.now (λ i. omega (arith, c.type_inv.bytes i)) c.requires in omega (arith, c.magnitude.ensures.value, c.type_inv.bytes 0)
