use Rattle.std.proofs.Common.{◌≡◌, ◌≤◌, true, is_some}
use Rattle.std.specs.Option.{option_copied}
use Rattle.std.specs.FinMap as map
use Rattle.txn.specs.declared.outpoint.OutPoint.{OutPoint}
use Rattle.coins.specs.Next.{IsAbove}
use Rattle.coins.specs.inside.Shards.{place}
use Rattle.coins.proofs.shards.Shards.after.Given as goal

abbrev pub invariant-loop-index : goal.invariant-loop-index
invariant-loop-index l = (q : OutPoint) → IsAbove (option_copied l.at) q → is_some (map.get l.self q) ≡ true → l.index ≤ place q
