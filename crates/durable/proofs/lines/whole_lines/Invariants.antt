use Rattle.std.proofs.Common.{◌≡◌, ◌≤◌, false, length, take, drop}
use Rattle.durable.specs.Lines.{lines, AreWhole}
use Rattle.durable.proofs.lines.whole_lines.Given as goal

abbrev pub invariant-loop-len : goal.invariant-loop-len
invariant-loop-len l = record {
  rest_is : l.rest ≡ drop l.end l.bytes;
  within : l.end ≤ length l.bytes;
  whole : AreWhole false (take l.end l.bytes);
  count_is : l.count ≡ length (lines (take l.end l.bytes));
  few : l.count ≤ l.end;
}

abbrev pub decreases-loop-len : goal.decreases-loop-len
decreases-loop-len l = length l.rest
