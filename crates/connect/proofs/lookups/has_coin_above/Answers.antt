use Rattle.std.proofs.Common.{rules, ◌≡◌, ◌+◌, ◌-◌, ◌||◌, suc, false, map, sym, ap, ◌∙◌, arith}
use Rattle.std.specs.List.{list_any, range_with_len}
use Rattle.std.specs.FinMap as coin_map
use Rattle.undo.specs.Effect.{outpoint_at}
use Rattle.connect.specs.Faults.{has_coin}
use Rattle.connect.proofs.Steps.{neither, none_of}
use Rattle.connect.proofs.lookups.has_coin_above.Goals as goal

pub has_above-requires : goal.has_above-requires
has_above-requires g c =
    let m = c.args.layer.now.base in
    let k = c.loop-index.index in
    let more : c.args.count - k ≡ suc (c.args.count - (k + 1)) = omega arith in
    let here = sym (ap (λ n. list_any (has_coin m) (map (outpoint_at c.args.id) (range_with_len k n))) more) ∙ c.loop-index.invariant.below in
    none_of (coin_map.get m (outpoint_at c.args.id k)) (neither (has_coin m (outpoint_at c.args.id k)) (list_any (has_coin m) (map (outpoint_at c.args.id) (range_with_len (k + 1) (c.args.count - (k + 1))))) here).0

pub loop-index-preserved : goal.loop-index-preserved
loop-index-preserved g c =
    let b = c.args.layer.now.base in
    let m = c.args.layer.now.coins in
    let k = c.loop-index.index in
    let more : c.args.count - k ≡ suc (c.args.count - (k + 1)) = omega arith in
    let here = sym (ap (λ n. list_any (has_coin b) (map (outpoint_at c.args.id) (range_with_len k n))) more) ∙ c.loop-index.invariant.below in
    let none : has_coin m (outpoint_at c.args.id k) ≡ false = search rules in
    record {
      below = (neither (has_coin b (outpoint_at c.args.id k)) (list_any (has_coin b) (map (outpoint_at c.args.id) (range_with_len (k + 1) (c.args.count - (k + 1))))) here).1;
      rest = sym (ap (λ n. list_any (has_coin m) (map (outpoint_at c.args.id) (range_with_len k n))) more
          ∙ ap (λ b. b || list_any (has_coin m) (map (outpoint_at c.args.id) (range_with_len (k + 1) (c.args.count - (k + 1))))) none)
          ∙ c.loop-index.invariant.rest;
    }
