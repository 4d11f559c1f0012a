use Rattle.std.specs.Prelude.{List, map, IfOk, codes}
use Rattle.std.proofs.Common.{◌∙◌, ap, subst, sym}
use Rattle.json.specs.Json.{Items, array, no_members, member}
use Rattle.txn.specs.declared.outpoint.OutPoint.{OutPoint}
use Rattle.coins.specs.declared.coin.Coin.{Coin}
use Rattle.serving.specs.Answers.{coin_items}
use Rattle.server.specs.inside.Lists.{coin_json, items}
use Rattle.server.specs.inside.Answers.{IsReadLine, TellsRead, coins_answer}
use Rattle.server.proofs.Steps.{coins_are}
use Rattle.server.proofs.lookups.listed_coins.Goals as goal

pub returns-in-Ok-rows : goal.returns-in-Ok-rows
returns-in-Ok-rows c =
    let are = ap coin_items c.as_slice-in-Ok-rows.ensures.value ∙ coins_are c.in-Ok-rows.rows.items
    ∙ ap items (c.in-Ok-rows.ensures ∙ ap (λ (l : List (OutPoint × Coin)). map coin_json l) c.as_slice.ensures.value) in
    let told = subst (λ (its : Items). IfOk c.read.result (λ line. IsReadLine c.args.blank c.in-Ok.field-0.at (member (codes "answer") (array its) no_members) line.items)) are c.read.ensures in
    subst (λ r. IfOk c.read.result (λ line. TellsRead coins_answer c.args.blank r line.items)) (sym c.in-Ok.is) told
