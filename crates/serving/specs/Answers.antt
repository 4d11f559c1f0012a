-- The objects that are answered.
use Rattle.std.specs.Prelude.{◌≡◌, ◌++◌, ◌∷◌, ℕ, pos, neg_ℤ, List, [], codes, decimal, Option, Some, None, Result, OnOk}
use Rattle.std.specs.Fmt.{signed_decimal}
use Rattle.std.specs.String.{string_bytes}
use Rattle.hex.specs.Hex.{encode_lower}
use Rattle.json.specs.Json.{Json, null, boolean, number, string, array, object, Items, no_items, item, Members, no_members, member}
use Rattle.json.specs.Token.{Token}
use Rattle.json.specs.Tree.{json_tokens}
use Rattle.json.specs.Print.{print}
use Rattle.json.specs.Written.{Written}
use Rattle.hash.specs.Id.{hex_of_id}
use Rattle.signatures.specs.Triple.{Triple}
use Rattle.tree.specs.declared.tip.Tip.{Tip}
use Rattle.tree.specs.declared.tip.Status.{Status}
use Rattle.tree.specs.declared.tip.Status.TheVariants.{Active, Invalid, ValidFork, ValidHeaders}
use Rattle.serving.specs.declared.answer.Answer.{Answer}
use Rattle.serving.specs.declared.answer.Answer.TheVariants as answer
use Rattle.serving.specs.declared.answer.CoinAt.{CoinAt}
use Rattle.serving.specs.declared.answer.Header.{Header}
use Rattle.serving.specs.declared.answer.Info.{Info}
use Rattle.serving.specs.declared.answer.Output.{Output}
use Rattle.serving.specs.declared.answer.SpentCoin.{SpentCoin}
use Rattle.serving.specs.declared.answer.Stamped.{Stamped}
use Rattle.serving.specs.declared.answer.Step.{Step}
use Rattle.serving.specs.declared.refusal.Refusal.{Refusal}
use Rattle.serving.specs.declared.refusal.Refusal.TheVariants as refusal
use Rattle.serving.specs.declared.request_id.RequestId.{RequestId}
use Rattle.serving.specs.declared.request_id.RequestId.TheVariants as id

-- the tokens of an object's members
abbrev pub members : Members → List Token
members no_members = []
members (member name j rest) = Token.key name ∷ (json_tokens j ++ members rest)

-- what is written so far goes on by these tokens, unless memory was refused
pub record Adds {E : Type 0} (r : Result (Unit {0}) E) (old new : Written) (ts : List Token) : Type 0 where
  pub before : OnOk r (new.before ≡ old.before)
  pub tokens : OnOk r (new.tokens ≡ old.tokens ++ ts)

-- a member, before others
abbrev pub text : List ℕ → List ℕ → Members → Members
text name value rest = member name (string value) rest

abbrev pub count : List ℕ → ℕ → Members → Members
count name n rest = member name (number (decimal n)) rest

-- an id of JSON-RPC
abbrev pub id_json : RequestId → Json
id_json id.Null = null
id_json (id.Number digits) = number (string_bytes digits.text)
id_json (id.Text t) = string (string_bytes t)

-- JSON-RPC 2.0: the version, the request's id, and an object under this name, which is "result" or "error"
abbrev pub response : List ℕ → RequestId → Members → Json
response name i ms =
    object (text (codes "jsonrpc") (codes "2.0") (member (codes "id") (id_json i) (member name (object ms) no_members)))

-- a line: a value without spaces, and the line's end
abbrev pub line_of : Json → List ℕ
line_of j = print (json_tokens j) ++ 10 ∷ []

-- ---- answers

-- Bitcoin Core's words (getchaintips)
abbrev pub status_name : Status → List ℕ
status_name Active = codes "active"
status_name Invalid = codes "invalid"
status_name ValidFork = codes "valid-fork"
status_name ValidHeaders = codes "valid-headers"

-- a tip behind its block, as Bitcoin Core's getchaintips gives it
abbrev pub tip_members : Tip → Members
tip_members t = count (codes "height") t.height (count (codes "branchlen") t.length
    (text (codes "status") (status_name t.status) no_members))

abbrev pub tip_items : List Tip → Items
tip_items [] = no_items
tip_items (t ∷ ts) = item (object (text (codes "hash") (hex_of_id t.id) (tip_members t))) (tip_items ts)

-- an output that isn't spent
abbrev pub output_members : Output → Members
output_members o = member (codes "value") (number (signed_decimal o.value))
    (text (codes "script") (encode_lower o.script.now) (count (codes "height") o.height
    (member (codes "coinbase") (boolean o.coinbase) (count (codes "confirmations") o.confirmations no_members))))

-- the moment of a submission
abbrev pub now_of : Option ℕ → Members → Members
now_of None rest = rest
now_of (Some moment) rest = count (codes "now") moment rest

-- a line of the journal
abbrev pub step_members : Step → Members
step_members s = count (codes "step") s.number (text (codes "client") s.client.now
    (text (codes "command") s.command.now (text (codes "block") s.block.now
    (now_of s.moment (text (codes "reply") s.reply.now no_members)))))

abbrev pub step_items : List Step → Items
step_items [] = no_items
step_items (s ∷ ss) = item (object (step_members s)) (step_items ss)

-- a block's header, its height, and how many blocks of the active branch there are from it on
abbrev pub header_members : Header → Members
header_members h = text (codes "header") (encode_lower h.bytes.now) (count (codes "height") h.height
    (member (codes "confirmations") (number (signed_decimal h.confirmations)) no_members))

-- a coin with its outpoint
abbrev pub coin_members : CoinAt → Members
coin_members c = text (codes "txid") (hex_of_id c.txid) (count (codes "n") c.n
    (member (codes "value") (number (signed_decimal c.value)) (text (codes "script") (encode_lower c.script.now)
    (count (codes "height") c.height (member (codes "coinbase") (boolean c.coinbase) no_members)))))

abbrev pub coin_items : List CoinAt → Items
coin_items [] = no_items
coin_items (c ∷ cs) = item (object (coin_members c)) (coin_items cs)

-- a coin that a block spent
abbrev pub spent_members : SpentCoin → Members
spent_members c = member (codes "value") (number (signed_decimal c.value)) (text (codes "script") (encode_lower c.script.now)
    (count (codes "height") c.height (member (codes "coinbase") (boolean c.coinbase) no_members)))

abbrev pub spent_items : List SpentCoin → Items
spent_items [] = no_items
spent_items (c ∷ cs) = item (object (spent_members c)) (spent_items cs)

-- in the order of the block's inputs
abbrev pub spent_list_members : List SpentCoin → Members
spent_list_members coins = member (codes "answer") (array (spent_items coins)) no_members

-- bytes as a word of a table's line: in hexadecimal, `-` for none
abbrev pub word : List ℕ → List ℕ
word [] = codes "-"
word (b ∷ bs) = encode_lower (b ∷ bs)

-- the line of a signature, as the text of a table has it: a key, the signature without its hash type, and the digest
abbrev pub triple_line : Triple → List ℕ
triple_line t = word t.key ++ codes " " ++ word t.signature ++ codes " " ++ encode_lower t.digest

abbrev pub line_items : List Triple → Items
line_items [] = no_items
line_items (t ∷ ts) = item (string (triple_line t)) (line_items ts)

-- the signatures of which isn't known whether they are valid
abbrev pub wants_members : List Triple → Members
wants_members ts =
    member (codes "answer") (object (member (codes "wants") (array (line_items ts)) no_members)) no_members

-- a signature of which the other verdict is known
abbrev pub contradicted_members : Triple → Members
contradicted_members t = member (codes "answer") (object (text (codes "contradicted") (triple_line t) no_members)) no_members

-- what is answered beside the place
abbrev pub answer_members : Answer → Members
answer_members answer.Place = no_members
answer_members (answer.Reply word) = text (codes "answer") word.now no_members
answer_members (answer.Best id) = member (codes "answer") (object (text (codes "hash") (hex_of_id id) no_members)) no_members
answer_members (answer.Tips tips) = member (codes "answer") (array (tip_items tips.now)) no_members
answer_members (answer.Output None) = member (codes "answer") null no_members
answer_members (answer.Output (Some o)) = member (codes "answer") (object (output_members o)) no_members
answer_members (answer.Steps steps) = member (codes "answer") (array (step_items steps.now)) no_members
answer_members answer.Absent = member (codes "answer") null no_members
answer_members (answer.Block bytes) = text (codes "answer") (encode_lower bytes.now) no_members
answer_members (answer.Header h) = member (codes "answer") (object (header_members h)) no_members
answer_members (answer.Coins coins) = member (codes "answer") (array (coin_items coins.now)) no_members
answer_members (answer.Spent coins) = spent_list_members coins.now
answer_members (answer.Wants triples) = wants_members triples.now
answer_members (answer.Contradicted t) = contradicted_members t.now

-- the place of an answer first
abbrev pub stamped_members : Stamped → Members
stamped_members s = count (codes "at") s.at (answer_members s.answer)

-- ---- refusals

-- what a refusal is about
abbrev pub about : Refusal → Members
about refusal.TooLong = text (codes "data") (codes "line") no_members
about refusal.TooMany = text (codes "data") (codes "values") no_members
about (refusal.Param name) = text (codes "data") name.now no_members
about refusal.Parse = no_members
about refusal.Request = no_members
about refusal.Method = no_members
about refusal.Memory = no_members
about refusal.Owed = no_members
about refusal.Closed = no_members
about refusal.Unsaved = no_members
about (refusal.NotSaved why) = text (codes "data") why.now no_members
about refusal.Busy = no_members
about refusal.HistoryFull = no_members

-- its code, without the minus: JSON-RPC's, and from 32001 on a node's
abbrev pub code_of : Refusal → ℕ
code_of refusal.Parse = 32700
code_of refusal.TooLong = 32600
code_of refusal.TooMany = 32600
code_of refusal.Request = 32600
code_of refusal.Method = 32601
code_of (refusal.Param name) = 32602
code_of refusal.Memory = 32001
code_of refusal.Owed = 32002
code_of refusal.Closed = 32003
code_of refusal.Unsaved = 32004
code_of (refusal.NotSaved why) = 32004
code_of refusal.Busy = 32005
code_of refusal.HistoryFull = 32006

-- its name
abbrev pub name_of : Refusal → List ℕ
name_of refusal.Parse = codes "parse error"
name_of refusal.TooLong = codes "invalid request"
name_of refusal.TooMany = codes "invalid request"
name_of refusal.Request = codes "invalid request"
name_of refusal.Method = codes "method not found"
name_of (refusal.Param name) = codes "invalid params"
name_of refusal.Memory = codes "memory"
name_of refusal.Owed = codes "owed"
name_of refusal.Closed = codes "closed"
name_of refusal.Unsaved = codes "not saved"
name_of (refusal.NotSaved why) = codes "not saved"
name_of refusal.Busy = codes "busy"
name_of refusal.HistoryFull = codes "history-full"

abbrev pub refusal_members : Refusal → Members
refusal_members r = member (codes "code") (number (signed_decimal (neg_ℤ (pos (code_of r)))))
    (text (codes "message") (name_of r) (about r))

-- a soft fork's height, where it has one
abbrev pub height_if : List ℕ → Option ℕ → Members → Members
height_if name None rest = rest
height_if name (Some height) rest = count name height rest

-- how a node was opened
unfoldable pub info_members : Info → Members
info_members i = text (codes "program") i.program.now (text (codes "version") i.version.now
    (count (codes "seats") i.seats (count (codes "workers") i.workers
    (member (codes "heights") (object (count (codes "bip34") i.bip34 (count (codes "bip65") i.bip65
    (count (codes "bip66") i.bip66 (count (codes "csv") i.csv (height_if (codes "nulldummy") i.nulldummy no_members))))))
    (count (codes "loaded") i.loaded no_members)))))
