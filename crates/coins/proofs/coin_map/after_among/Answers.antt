use Rattle.std.proofs.Common.{sym, ◌∙◌}
use Rattle.coins.proofs.NextCoins.{few_follow, first_follows, many_follow, not_less, second_follows}
use Rattle.coins.proofs.coin_map.after_among.Goals as goal

pub returns-in_default : goal.returns-in_default
returns-in_default c = many_follow _ _ _ _ c.in_default.ensures c.after.ensures

pub returns-in_default-after : goal.returns-in_default-after
returns-in_default-after c = few_follow _ _ _ _ c.in-Some.ensures c.in_default-after.ensures

pub returns-in-Less : goal.returns-in-Less
returns-in-Less c = second_follows _ _ _ _ _ c.in-Some.ensures c.in-Some-after.ensures (sym c.cmp.ensures ∙ c.in-Less.is)

pub returns-in-Equal : goal.returns-in-Equal
returns-in-Equal c = first_follows _ _ _ _ _ c.in-Some.ensures c.in-Some-after.ensures (not_less _ _ c.cmp.ensures c.in-Equal.is)
