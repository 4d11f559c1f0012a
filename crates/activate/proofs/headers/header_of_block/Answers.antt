use Rattle.std.proofs.Common.{◌∙◌, arith}
use Rattle.activate.proofs.FirstBytes.{at_front, front_is, front_long}
use Rattle.activate.proofs.headers.header_of_block.Goals as goal

pub header_at_front-requires : goal.header_at_front-requires
header_at_front-requires c =
    let b = c.requires.0 in
    let w = c.what_is_read_is_spelled.ensures c.args.bytes.now b (λ i. omega (arith, c.type_inv.bytes i)) c.requires.1 in
    front_long b.header c.args.bytes.now (at_front b c.args.bytes.now w.0 w.1)

pub returns : goal.returns
returns c b e =
    let w = c.what_is_read_is_spelled.ensures c.args.bytes.now b (λ i. omega (arith, c.type_inv.bytes i)) e in
    c.header_at_front.ensures ∙ front_is b.header c.args.bytes.now (at_front b c.args.bytes.now w.0 w.1)
