-- Numbers of 256 bits as halves.
use Rattle.std.specs.Prelude.{ℕ, ◌+◌, ◌*◌, ◌^◌}
use Rattle.ffi.specs.declared.division.Wide.{Wide}

abbrev pub value : Wide → ℕ
value w = w.high * 2 ^ 128 + w.low
