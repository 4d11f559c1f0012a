-- The rows are of the coins behind the look-up.
use Rattle.std.specs.Prelude.{List, Option, map, IfOk, codes}
use Rattle.std.specs.List.{flat_map}
use Rattle.std.proofs.Common.{◌∙◌, ap, subst, sym}
use Rattle.json.specs.Json.{Items, array, no_members, member}
use Rattle.coins.specs.declared.coin.Coin.{Coin}
use Rattle.serving.specs.Answers.{spent_items}
use Rattle.server.specs.inside.Lists.{spent_json, items}
use Rattle.server.specs.inside.Answers.{IsReadLine, spent_answer}
use Rattle.server.proofs.Steps.{spent_are}
use Rattle.server.proofs.undo_told.spent_line.Goals as goal

pub returns-in-Ok : goal.returns-in-Ok
returns-in-Ok c =
    let are = ap spent_items c.as_slice-in-Ok.ensures.value ∙ spent_are c.in-Ok.rows.items
    ∙ ap items (c.in-Ok.ensures ∙ ap (λ (l : List (List Coin)). map spent_json (flat_map (λ coins. coins) l)) c.as_slice.ensures) in
    let told = subst (λ (its : Items). IfOk c.read-in-Ok.result (λ line. IsReadLine c.args.blank c.args.at (member (codes "answer") (array its) no_members) line.items)) are c.read-in-Ok.ensures in
    subst (λ (v : Option (List (List Coin))). IfOk c.read-in-Ok.result (λ line. IsReadLine c.args.blank c.args.at (spent_answer v) line.items)) (sym c.in-Some.is) told
