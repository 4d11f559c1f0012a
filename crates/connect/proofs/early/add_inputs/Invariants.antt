use Rattle.std.proofs.Common.{◌≡◌, ◌++◌, take}
use Rattle.std.specs.List.{flat_map, enumerate_from}
use Rattle.connect.specs.Early.{early_input}
use Rattle.connect.proofs.early.add_inputs.Given as goal

abbrev pub invariant-loop-input : goal.invariant-loop-input
invariant-loop-input g l = l.jobs ≡ record l.initial.jobs {
  spendings = l.initial.jobs.spendings ++ flat_map (early_input (g.B.Base.coins l.base) (take l.place l.txs) l.place) (enumerate_from 0 (take l.input l.inputs));
}
