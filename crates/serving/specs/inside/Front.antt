-- The tokens of a response before its object, and of the parts of lists.
use Rattle.std.specs.Prelude.{◌∷◌, [], List, codes}
use Rattle.json.specs.Token.{Token, begin_object, key, string}
use Rattle.json.specs.Tree.{json_tokens}
use Rattle.json.specs.Json.{object}
use Rattle.hash.specs.Id.{hex_of_id}
use Rattle.signatures.specs.Triple.{Triple}
use Rattle.tree.specs.declared.tip.Tip.{Tip}
use Rattle.serving.specs.Answers.{id_json, text, coin_members, spent_members, tip_members, step_members, triple_line}
use Rattle.serving.specs.declared.answer.CoinAt.{CoinAt}
use Rattle.serving.specs.declared.answer.SpentCoin.{SpentCoin}
use Rattle.serving.specs.declared.answer.Step.{Step}
use Rattle.serving.specs.declared.request_id.RequestId.{RequestId}

-- the version and the request's id
abbrev pub front : RequestId → List Token
front i = begin_object ∷ key (codes "jsonrpc") ∷ string (codes "2.0") ∷ key (codes "id") ∷ json_tokens (id_json i)

abbrev pub tip_tokens : Tip → List Token
tip_tokens t = json_tokens (object (text (codes "hash") (hex_of_id t.id) (tip_members t)))

abbrev pub coin_tokens : CoinAt → List Token
coin_tokens c = json_tokens (object (coin_members c))

abbrev pub spent_tokens : SpentCoin → List Token
spent_tokens c = json_tokens (object (spent_members c))

abbrev pub line_tokens : Triple → List Token
line_tokens t = string (triple_line t) ∷ []

abbrev pub step_tokens : Step → List Token
step_tokens s = json_tokens (object (step_members s))
