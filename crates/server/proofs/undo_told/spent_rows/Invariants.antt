-- They are of the transactions before this one.
use Rattle.std.proofs.Common.{◌≡◌, map, take}
use Rattle.std.specs.List.{flat_map}
use Rattle.json.specs.Json.{object}
use Rattle.serving.specs.Answers.{spent_members}
use Rattle.server.specs.inside.Lists.{spent_json}
use Rattle.server.proofs.undo_told.spent_rows.Given as goal

abbrev pub invariant-loop-spent : goal.invariant-loop-spent
invariant-loop-spent l = map (λ row. object (spent_members row)) l.rows.items ≡ map spent_json (flat_map (λ coins. coins) (take l.spent-index l.txs))
