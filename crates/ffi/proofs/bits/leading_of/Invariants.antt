-- What was found is of the bytes before this place.
use Rattle.std.proofs.Common.{◌≡◌, ◌≤◌, take}
use Rattle.ffi.specs.Bits.{IsSize, front, number}
use Rattle.ffi.proofs.bits.leading_of.Given as goal

abbrev pub invariant-loop-place : goal.invariant-loop-place
invariant-loop-place l = record {
  within : l.found.size ≤ l.place;
  size : IsSize (number (take l.place l.bytes)) l.found.size;
  word : l.found.word ≡ front l.found.size (number (take l.place l.bytes));
  window : l.window ≡ front l.place (number (take l.place l.bytes));
}
