-- They are of the coins before this one.
use Rattle.std.proofs.Common.{◌≡◌, map, take}
use Rattle.json.specs.Json.{object}
use Rattle.serving.specs.Answers.{coin_members}
use Rattle.server.specs.inside.Lists.{coin_json}
use Rattle.server.proofs.lookups.rows.Given as goal

abbrev pub invariant-loop-coin : goal.invariant-loop-coin
invariant-loop-coin l = map (λ row. object (coin_members row)) l.rows.items ≡ map coin_json (take l.coin-index l.coins)
