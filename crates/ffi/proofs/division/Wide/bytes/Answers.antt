-- By its halves.
use Rattle.std.proofs.Common.{◌≡◌, ◌∙◌, refl, arith}
use Rattle.std.specs.Int.{to_le_bytes, w128}
use Rattle.ffi.proofs.Halves.{join_is, written_half}
use Rattle.ffi.proofs.division.Wide.bytes.Goals as goal

pub returns : goal.returns
returns c =
    let low = c.args.self.low in
    let high = c.args.self.high in
    let l : c.copy_from_slice.new.self ≡ to_le_bytes w128 low = c.copy_from_slice.ensures.after ∙ c.to_le_bytes.ensures in
    let h : c.copy_from_slice-2.new.self ≡ to_le_bytes w128 high = c.copy_from_slice-2.ensures.after ∙ c.to_le_bytes-2.ensures in
    rw (l, h) (join_is (to_le_bytes w128 low) (to_le_bytes w128 high) low high refl
    (written_half low (omega arith)) (written_half high (omega arith)))
