use Rattle.std.proofs.Common.{◌≡◌, ◌*◌, ◌≤◌, ◌++◌, false, drop, map, pos, neg_ℤ, ◌≤ℤ◌, ◌+ℤ◌}
use Rattle.std.specs.List.{AllByRecursion, flat_map, fold, list_any}
use Rattle.txn.specs.First.{first_broken}
use Rattle.txn.specs.Identity.{ids_of}
use Rattle.rules.specs.Alone.{max_block_sigops}
use Rattle.connect.specs.BlockContext.{setting}
use Rattle.connect.specs.Turns.{spent_in, turns, effect}
use Rattle.connect.specs.Faults.{fee, fees, overwrites, turn_rules}
use Rattle.connect.specs.inside.Turns.{IsLawful}
use Rattle.connect.specs.declared.lookups.Lookup.TheVariants.{Above}
use Rattle.connect.proofs.connect_block.connect_others.Given as goal

abbrev pub invariant-loop-index : goal.invariant-loop-index
invariant-loop-index g l = record {
  base : l.layer.base ≡ l.initial.layer.base;
  below : l.place.lookup ≡ Above → list_any (overwrites l.layer.base) (drop l.index l.txs) ≡ false;
  lawful : AllByRecursion IsLawful (drop l.index l.txs);
  ids : drop l.index l.ids ≡ ids_of (drop l.index l.txs);
  rules : first_broken (flat_map (turn_rules (setting l.place.context.now)) (turns l.place.context.now.height l.layer.coins l.so_far (drop l.index l.txs)))
      ≡ first_broken (flat_map (turn_rules (setting l.place.context.now)) (turns l.place.context.now.height l.initial.layer.coins l.initial.so_far l.txs));
  undo : l.undo ++ map spent_in (turns l.place.context.now.height l.layer.coins l.so_far (drop l.index l.txs)) ≡ map spent_in (turns l.place.context.now.height l.initial.layer.coins l.initial.so_far l.txs);
  fees : fold (λ sum turn. sum +ℤ fee turn) l.fees (turns l.place.context.now.height l.layer.coins l.so_far (drop l.index l.txs)) ≡ fees (turns l.place.context.now.height l.initial.layer.coins l.initial.so_far l.txs);
  few : l.so_far ≤ max_block_sigops;
  low : neg_ℤ (pos (19342813113834066795298816 * l.index)) ≤ℤ l.fees;
  high : l.fees ≤ℤ pos (19342813113834066795298816 * l.index);
  after : effect l.place.context.now.height l.layer.coins (drop l.index l.txs) ≡ effect l.place.context.now.height l.initial.layer.coins l.txs;
}
