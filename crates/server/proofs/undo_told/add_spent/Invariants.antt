-- They are of the coins before this one.
use Rattle.std.proofs.Common.{◌≡◌, ◌++◌, map, take}
use Rattle.json.specs.Json.{object}
use Rattle.serving.specs.Answers.{spent_members}
use Rattle.server.specs.inside.Lists.{spent_json}
use Rattle.server.proofs.undo_told.add_spent.Given as goal

abbrev pub invariant-loop-coin : goal.invariant-loop-coin
invariant-loop-coin l = map (λ row. object (spent_members row)) l.rows.items
    ≡ map (λ row. object (spent_members row)) l.fn.rows.items ++ map spent_json (take l.coin-index l.coins)
