-- By its halves.
use Rattle.std.proofs.Common.{◌≡◌, ◌∙◌}
use Rattle.ffi.specs.Bits.{number}
use Rattle.ffi.proofs.Halves.{read_half, read_halves}
use Rattle.ffi.proofs.division.Wide.of_bytes.Goals as goal

pub returns : goal.returns
returns c =
    let low = c.copy_from_slice in
    let high = c.copy_from_slice-2 in
    let h : c.from_le_bytes.result ≡ number high.new.self = c.from_le_bytes.ensures ∙ read_half high.new.self high.ensures.len in
    let l : c.from_le_bytes-2.result ≡ number low.new.self = c.from_le_bytes-2.ensures ∙ read_half low.new.self low.ensures.len in
    rw (h, l) (read_halves c.args.bytes.now low.new.self high.new.self c.told-bytes low.ensures.after high.ensures.after)
