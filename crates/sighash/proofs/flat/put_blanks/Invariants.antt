use Rattle.std.proofs.Common.{◌≡◌, ◌≤◌, ◌*◌, ◌++◌, ℕ, length, map, take}
use Rattle.std.specs.List.{flat_map}
use Rattle.txn.specs.Grammar.{input}
use Rattle.sighash.specs.Digest.{other_input}
use Rattle.sighash.proofs.flat.put_blanks.Given as goal

abbrev pub invariant-loop-input : goal.invariant-loop-input
invariant-loop-input l = record {
  written : l.out.items ≡ l.fn.out.items ++ flat_map input.spell (map (other_input 1) (take l.input-index l.inputs));
  places : (k : ℕ) → k ≤ l.input-index → length (flat_map input.spell (map (other_input 1) (take k l.inputs))) ≡ 41 * k;
}
