use Rattle.std.proofs.Common.{◌≡◌, ◌*◌, length}
use Rattle.sha2.specs.Hashers.{Holds256}
use Rattle.sighash.specs.inside.MessageFront.{beginning, AreMidstates}
use Rattle.sighash.proofs.midstates.states_of.Given as goal

abbrev pub invariant-loop-place : goal.invariant-loop-place
invariant-loop-place l = record {
  fed : Holds256 l.hasher (beginning l.tx (16 * l.place));
  states : AreMidstates l.tx l.states.items;
  count : length l.states.items ≡ l.place;
}
