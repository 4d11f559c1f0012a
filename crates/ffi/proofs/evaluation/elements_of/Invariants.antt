-- What was made has the lengths before this one, and the bytes that were taken.
use Rattle.std.proofs.Common.{◌≡◌, ◌+◌, ◌++◌, length, map, take}
use Rattle.std.specs.List.{flat_map}
use Rattle.ffi.specs.NamedFailures.{all_sizes}
use Rattle.ffi.proofs.evaluation.elements_of.Given as goal

abbrev pub invariant-loop-size : goal.invariant-loop-size
invariant-loop-size l = record {
  sizes : map (λ element. length element) l.list.items ≡ take l.size-index l.sizes;
  bytes : l.fn.bytes ≡ flat_map (λ element. element) l.list.items ++ l.bytes;
  count : length l.fn.bytes ≡ all_sizes (take l.size-index l.sizes) + length l.bytes;
}
