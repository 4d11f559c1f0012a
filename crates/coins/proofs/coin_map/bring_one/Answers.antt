use Rattle.std.proofs.Common.{◌≡◌, Some, sym, ap, ◌∙◌}
use Rattle.std.specs.FinMap as map
use Rattle.coins.specs.Coins.{Coin, Coins, few_and_many}
use Rattle.coins.proofs.MovedCoins.{brought, there}
use Rattle.coins.proofs.Rooms.{none_from}
use Rattle.coins.proofs.coin_map.bring_one.Goals.{then-not-has+in_ok-copy+in_ok-insert, else-not-has}
use Rattle.coins.proofs.coin_map.bring_one.Goals as goal

pub returns-clause-coins : goal.returns-clause-coins
returns-clause-coins c =
    let es = c.args.few.now.entries in
    let fs = c.drop_first.new.entries.entries in
    let m = c.args.shards.now in
    let k = c.in-Some.at.now in
    let gone = c.drop_first.ensures.changed k c.in-Some.coin.now c.in-Some.ensures.first in
    elim c.if-not-has.branch [
      | then-not-has+in_ok-copy+in_ok-insert w ↦
          let n = w.insert.new.self in
          let x : Coin = w.in_ok-copy.field-0 in
          let same : x ≡ c.in-Some.coin.now = w.in_ok-copy.ensures in
          ap (λ (s : Coins). few_and_many fs (Some s)) w.shards-is
          ∙ brought es fs m n k x gone w.in_ok-insert.ensures.ok (none_from (map.get m k) (sym c.has.ensures ∙ w.if-not-has.true)) (c.in-Some.ensures.value ∙ ap (λ (y : Coin). Some y) (sym same))
      | else-not-has w ↦
          ap (λ (s : Coins). few_and_many fs (Some s)) w.shards-is
          ∙ there es fs m k gone (sym c.has.ensures ∙ w.if-not-has.false)
    ]
