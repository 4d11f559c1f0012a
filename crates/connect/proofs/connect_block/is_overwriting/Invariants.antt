use Rattle.std.proofs.Common.{◌≡◌, drop}
use Rattle.std.specs.List.{AllByRecursion, list_any}
use Rattle.txn.specs.Identity.{ids_of}
use Rattle.connect.specs.Faults.{overwrites}
use Rattle.connect.specs.inside.Turns.{IsLawful}
use Rattle.connect.proofs.connect_block.is_overwriting.Given as goal

abbrev pub invariant-loop-index : goal.invariant-loop-index
invariant-loop-index g l = record {
  lawful : AllByRecursion IsLawful (drop l.index l.txs);
  ids : drop l.index l.ids ≡ ids_of (drop l.index l.txs);
  rest : list_any (overwrites l.layer.coins) (drop l.index l.txs) ≡ list_any (overwrites l.layer.coins) l.txs;
}
