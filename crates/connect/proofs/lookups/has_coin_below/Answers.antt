use Rattle.std.proofs.Common.{rules, ◌≡◌, ◌+◌, ◌-◌, ◌||◌, suc, false, map, sym, ap, ◌∙◌, arith}
use Rattle.std.specs.List.{list_any, range_with_len}
use Rattle.undo.specs.Effect.{outpoint_at}
use Rattle.connect.specs.Faults.{has_coin}
use Rattle.connect.proofs.lookups.has_coin_below.Goals as goal

pub loop-index-preserved : goal.loop-index-preserved
loop-index-preserved g c =
    let m = c.args.layer.now.coins in
    let k = c.loop-index.index in
    let more : c.args.count - k ≡ suc (c.args.count - (k + 1)) = omega arith in
    let none : has_coin m (outpoint_at c.args.id k) ≡ false = search rules in
    sym (ap (λ n. list_any (has_coin m) (map (outpoint_at c.args.id) (range_with_len k n))) more
    ∙ ap (λ b. b || list_any (has_coin m) (map (outpoint_at c.args.id) (range_with_len (k + 1) (c.args.count - (k + 1))))) none)
    ∙ c.loop-index.invariant
