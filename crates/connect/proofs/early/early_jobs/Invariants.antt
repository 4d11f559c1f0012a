use Rattle.std.proofs.Common.{◌≡◌, take}
use Rattle.std.specs.List.{flat_map, enumerate_from}
use Rattle.connect.specs.Scripts.{flags_of}
use Rattle.connect.specs.Early.{early_inputs}
use Rattle.connect.specs.inside.Early.{ArePlaces}
use Rattle.connect.proofs.early.early_jobs.Given as goal

abbrev pub invariant-loop-place : goal.invariant-loop-place
invariant-loop-place g l = record {
  jobs : l.jobs ≡ record {
    txs = l.txs;
    flags = flags_of l.fn.rules;
    spendings = flat_map (λ t. early_inputs (g.B.Base.coins l.base) (take t.0 l.txs) t.0 t.1) (enumerate_from 0 (take l.place l.txs));
  };
  places : ArePlaces l.txs (take l.place l.txs) l.places.entries;
}
