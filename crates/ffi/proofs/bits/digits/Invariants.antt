-- The bytes before this place are the number's.
use Rattle.std.proofs.Common.{◌≡◌, ◌%◌, ◌^◌, length, take}
use Rattle.ffi.specs.Bits.{number, scaled}
use Rattle.ffi.proofs.bits.digits.Given as goal

abbrev pub invariant-loop-place : goal.invariant-loop-place
invariant-loop-place l = record {
  bytes : length l.bytes ≡ 32;
  filled : number (take l.place l.bytes) ≡ scaled l.size l.word % 256 ^ l.place;
}
