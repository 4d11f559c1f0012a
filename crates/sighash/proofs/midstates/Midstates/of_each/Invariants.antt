use Rattle.std.proofs.Common.{◌≡◌, map, take}
use Rattle.sighash.specs.declared.midstates.Midstates.{Midstates}
use Rattle.sighash.proofs.midstates.Midstates.of_each.Given as goal

abbrev pub invariant-loop-place : goal.invariant-loop-place
invariant-loop-place g l = map (λ (m : Midstates). m.tx.now) l.list.items ≡ take l.place l.txs
