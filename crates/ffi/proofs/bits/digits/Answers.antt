-- One byte more of the number.
use Rattle.std.proofs.Common.{◌∙◌, arith}
use Rattle.std.proofs.lemmas.List.{length-set}
use Rattle.ffi.specs.Bits.{scaled}
use Rattle.ffi.proofs.Digits.{filled}
use Rattle.ffi.proofs.bits.digits.Goals as goal

pub loop-place-preserved : goal.loop-place-preserved
loop-place-preserved c =
    let i = c.loop-place.invariant in
    record {
      bytes = length-set c.loop-place.bytes c.loop-place.place c.digit.result ∙ i.bytes;
      filled = filled c.loop-place.bytes (scaled c.args.size c.args.word) c.loop-place.place c.digit.result (omega arith) i.filled c.digit.ensures;
    }
