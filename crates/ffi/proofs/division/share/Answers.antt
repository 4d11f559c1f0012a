-- All bits are divided.
use Rattle.std.proofs.Common.{◌≡◌, ℕ, ◌^◌, ◌∙◌, ap, arith}
use Rattle.ffi.specs.inside.Wide.{value}
use Rattle.ffi.proofs.Halves.{quotient_is, quotient_room}
use Rattle.ffi.proofs.division.share.Goals as goal

pub next-found-requires-clause-room : goal.next-found-requires-clause-room
next-found-requires-clause-room c =
    let found = c.loop.found in
    quotient_room (value found.quotient) (value found.rest) (value c.args.by) c.loop.counter (omega arith) (omega arith) c.loop.invariant.sum

pub returns : goal.returns
returns c =
    let found = c.loop.found in
    let e : c.loop.counter ≡ 256 = omega arith in
    quotient_is (value found.quotient) (value found.rest) (value c.args.by) c.loop.invariant.rest
    (c.loop.invariant.sum ∙ ap (λ (n : ℕ). 2 ^ n) e)
