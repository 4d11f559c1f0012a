-- Coins and steps of the history, spelled.
use Rattle.std.specs.Prelude.{◌≡◌, ℕ, suc, List, [], ◌∷◌, codes, Some}
use Rattle.std.specs.Fmt.{signed_decimal}
use Rattle.std.specs.String.{string_bytes}
use Rattle.hex.specs.Hex.{encode_lower}
use Rattle.json.specs.Json.{Json, object, boolean, number, Items, no_items, item, Members, no_members, member}
use Rattle.hash.specs.Id.{hex_of_id}
use Rattle.hash.specs.declared.id.Id.{Id}
use Rattle.txn.specs.declared.outpoint.OutPoint.{OutPoint}
use Rattle.coins.specs.declared.coin.Coin.{Coin}
use Rattle.model.specs.declared.entry.Entry.{Entry}
use Rattle.journal.specs.Line.{asked_of, named_by, when_of, word_of, text_of_answer}
use Rattle.serving.specs.Answers.{text, count, now_of}
use Rattle.server.specs.declared.lists.EntryText.{EntryText}

-- a coin with its outpoint
abbrev pub coin_json : OutPoint × Coin → Json
coin_json (at, coin) = object (text (codes "txid") (hex_of_id at.id) (count (codes "n") at.index
    (member (codes "value") (number (signed_decimal coin.value)) (text (codes "script") (encode_lower coin.script)
    (count (codes "height") coin.height (member (codes "coinbase") (boolean coin.coinbase) no_members))))))

-- a coin that a block spent
abbrev pub spent_json : Coin → Json
spent_json coin = object (member (codes "value") (number (signed_decimal coin.value)) (text (codes "script") (encode_lower coin.script)
    (count (codes "height") coin.height (member (codes "coinbase") (boolean coin.coinbase) no_members))))

-- the elements of an array
abbrev pub items : List Json → Items
items [] = no_items
items (j ∷ js) = item j (items js)

-- a step of the history by its number: who asked for it, by some name, what it asked, of which block, and its reply
abbrev pub step_json : ℕ → List ℕ → Entry → Id → Json
step_json n client e block = object (count (codes "step") n (text (codes "client") client
    (text (codes "command") (word_of (asked_of e.command)) (text (codes "block") (hex_of_id block)
    (now_of (when_of (asked_of e.command)) (text (codes "reply") (text_of_answer e.reply) no_members))))))

-- it is the step of this number
abbrev pub IsTextOf : ℕ → Entry → Json → Type 0
IsTextOf n e j = (client : List ℕ) × (block : Id) × (named_by e.command ≡ Some block) × (j ≡ step_json n client e block)

-- each is a step, of which the first has this number
abbrev pub AreSteps : ℕ → List Entry → List Json → Type 0
AreSteps n [] [] = Unit {0}
AreSteps n (e ∷ es) [] = ⊥
AreSteps n [] (j ∷ js) = ⊥
AreSteps n (e ∷ es) (j ∷ js) = ((client : List ℕ) × (block : Id) × (named_by e.command ≡ Some block) × (j ≡ step_json n client e block))
    × AreSteps (suc n) es js

-- the members of a step's object
abbrev pub text_members : EntryText → Members
text_members t = count (codes "step") t.number (text (codes "client") (string_bytes t.client)
    (text (codes "command") (word_of t.asked) (text (codes "block") (string_bytes t.block)
    (now_of (when_of t.asked) (text (codes "reply") (string_bytes t.reply) no_members)))))

abbrev pub text_json : EntryText → Json
text_json t = object (text_members t)
