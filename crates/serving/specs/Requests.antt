-- What a line asks: JSON-RPC 2.0, with parameters by their names.
use Rattle.std.specs.Prelude.{◌≡◌, ◌≢◌, ◌⊎◌, ◌<◌, ◌^◌, ℕ, List, length, reverse, codes, Option, Some, None, option_and_then, Ok, ⊤}
use Rattle.std.specs.Str.{IsUtf8}
use Rattle.std.specs.Str.Parse.{ParsesUnsigned}
use Rattle.std.specs.List.{All, AllPass}
use Rattle.hex.specs.Hex.{decode_of, is_hex_digit}
use Rattle.hex.specs.declared.error.FromHexError.{FromHexError}
use Rattle.json.specs.Json.{Json, null, boolean, number, string, array, object, document}
use Rattle.json.specs.Find.{get, as_str, as_number}
use Rattle.hash.specs.declared.id.Id.{Id}
use Rattle.txn.specs.declared.outpoint.OutPoint.{OutPoint}
use Rattle.signatures.specs.Lines.{lines, IsReadable}
use Rattle.serving.specs.Answers.{id_json}
use Rattle.serving.specs.declared.method.Method.{Method}
use Rattle.serving.specs.declared.method.Method.TheVariants as method
use Rattle.serving.specs.declared.refusal.Refusal.{Refusal}
use Rattle.serving.specs.declared.refusal.Refusal.TheVariants as refusal
use Rattle.serving.specs.declared.request.Call.{Call}
use Rattle.serving.specs.declared.request.Call.TheVariants as call
use Rattle.serving.specs.declared.request.Asked.{Asked}
use Rattle.serving.specs.declared.request.Asked.TheVariants as asked
use Rattle.serving.specs.declared.request.Request.{Request}
use Rattle.serving.specs.declared.request_id.RequestId.{RequestId}
use Rattle.serving.specs.declared.request_id.RequestId.TheVariants as id

-- the line is this value: RFC 8259
abbrev pub IsJson : List ℕ → Json → Type 0
IsJson line j = IsUtf8 line × (document line ≡ Some j)

-- ---- parameters

-- where there are any, they are in an object
abbrev pub AreNamed : Option Json → Type 0
AreNamed None = ⊤
AreNamed (Some null) = ⊥
AreNamed (Some (boolean b)) = ⊥
AreNamed (Some (number s)) = ⊥
AreNamed (Some (string s)) = ⊥
AreNamed (Some (array js)) = ⊥
AreNamed (Some (object ms)) = ⊤

-- the parameter of a name
abbrev pub param : List ℕ → Option Json → Option Json
param name params = option_and_then (get name) params

-- it is a number of 64 bits, without a point or an exponent
abbrev pub IsNumber : List ℕ → Option Json → ℕ → Type 0
IsNumber name params n = (digits : List ℕ) × (option_and_then as_number (param name params) ≡ Some digits)
    × ParsesUnsigned {E = FromHexError} 64 10 digits (Ok n)

-- it is the number of one of so many seats
abbrev pub IsSeat : ℕ → List ℕ → Option Json → ℕ → Type 0
IsSeat seats name params n = IsNumber name params n × (n < seats)

-- it is a text of hexadecimal digits in either case, which spell these bytes
abbrev pub AreBytes : List ℕ → Option Json → List ℕ → Type 0
AreBytes name params bytes = (digits : List ℕ) × (option_and_then as_str (param name params) ≡ Some digits)
    × (decode_of digits ≡ Ok bytes)

-- it is a text each of whose lines can be read as one of a table: a key, a signature and a digest, or a line to skip
abbrev pub AreLines : List ℕ → Option Json → List ℕ → Type 0
AreLines name params text = (option_and_then as_str (param name params) ≡ Some text) × All IsReadable (lines text)

-- it is an id, as it is printed: 64 hexadecimal digits, which spell its bytes reversed
abbrev pub IsId : List ℕ → Option Json → Id → Type 0
IsId name params id = (digits : List ℕ) × (option_and_then as_str (param name params) ≡ Some digits)
    × (length digits ≡ 64) × AllPass is_hex_digit digits × (decode_of digits ≡ Ok (reverse id.0))

-- they are an outpoint: a transaction's id, and the place of an output in it
abbrev pub AreOutPoint : Option Json → OutPoint → Type 0
AreOutPoint params outpoint = IsId (codes "txid") params outpoint.id
    × IsNumber (codes "n") params outpoint.index × (outpoint.index < 2 ^ 32)

-- the same, where they name a transaction
abbrev pub IsAbove : Option Json → Option OutPoint → Type 0
IsAbove params None = param (codes "txid") params ≡ None
IsAbove params (Some outpoint) = AreOutPoint params outpoint

-- ---- calls

-- the names of the methods
abbrev pub method_name : Method → List ℕ
method_name method.Submit = codes "submit"
method_name method.Judge = codes "judge"
method_name method.Invalidate = codes "invalidate"
method_name method.Reconsider = codes "reconsider"
method_name method.Precious = codes "precious"
method_name method.GetTxOut = codes "gettxout"
method_name method.GetBestBlockHash = codes "getbestblockhash"
method_name method.GetChainTips = codes "getchaintips"
method_name method.GetBlock = codes "getblock"
method_name method.GetBlockHeader = codes "getblockheader"
method_name method.GetBlockHash = codes "getblockhash"
method_name method.GetAncestor = codes "getancestor"
method_name method.GetFork = codes "getfork"
method_name method.GetSpent = codes "getspent"
method_name method.Coins = codes "coins"
method_name method.Wait = codes "wait"
method_name method.Note = codes "note"
method_name method.Told = codes "told"
method_name method.Journal = codes "journal"
method_name method.Wants = codes "wants"
method_name method.Learn = codes "learn"
method_name method.Info = codes "info"
method_name method.Save = codes "save"
method_name method.Finish = codes "finish"

-- what a method with these parameters asks of a seat, in a node of so many seats
abbrev pub IsCall : ℕ → Method → Option Json → Call → Type 0
IsCall seats m params (call.Submit block now) =
    (m ≡ method.Submit) × AreBytes (codes "block") params block.items × IsNumber (codes "now") params now
IsCall seats m params (call.Judge block now) =
    (m ≡ method.Judge) × AreBytes (codes "block") params block.items × IsNumber (codes "now") params now
IsCall seats m params (call.Invalidate id) = (m ≡ method.Invalidate) × IsId (codes "id") params id
IsCall seats m params (call.Reconsider id) = (m ≡ method.Reconsider) × IsId (codes "id") params id
IsCall seats m params (call.Precious id) = (m ≡ method.Precious) × IsId (codes "id") params id
IsCall seats m params (call.Output outpoint) = (m ≡ method.GetTxOut) × AreOutPoint params outpoint
IsCall seats m params call.Best = m ≡ method.GetBestBlockHash
IsCall seats m params call.Tips = m ≡ method.GetChainTips
IsCall seats m params (call.Block id) = (m ≡ method.GetBlock) × IsId (codes "id") params id
IsCall seats m params (call.Header id) = (m ≡ method.GetBlockHeader) × IsId (codes "id") params id
IsCall seats m params (call.Hash height) = (m ≡ method.GetBlockHash) × IsNumber (codes "height") params height
IsCall seats m params (call.Ancestor id height) = (m ≡ method.GetAncestor)
    × IsId (codes "id") params id × IsNumber (codes "height") params height
IsCall seats m params (call.Fork id other) = (m ≡ method.GetFork)
    × IsId (codes "id") params id × IsId (codes "other") params other
IsCall seats m params (call.Spent id) = (m ≡ method.GetSpent) × IsId (codes "id") params id
IsCall seats m params (call.Coins above most) = (m ≡ method.Coins) × IsAbove params above × IsNumber (codes "most") params most
IsCall seats m params (call.Wait steps) = (m ≡ method.Wait) × IsNumber (codes "after") params steps
IsCall seats m params call.Note = m ≡ method.Note
IsCall seats m params (call.Told from) = (m ≡ method.Told) × IsSeat seats (codes "from") params from
IsCall seats m params (call.Journal from to) = (m ≡ method.Journal)
    × IsNumber (codes "from") params from × (0 < from) × IsNumber (codes "to") params to
IsCall seats m params call.Wants = m ≡ method.Wants
IsCall seats m params (call.Learn valid invalid) = (m ≡ method.Learn)
    × AreLines (codes "valid") params valid.items × AreLines (codes "invalid") params invalid.items

-- ---- requests

-- the value is a request of this method, whether there is such a one or not
pub record IsRequest (j : Json) (name : List ℕ) : Type 0 where
  pub version : option_and_then as_str (get (codes "jsonrpc") j) ≡ Some (codes "2.0")
  pub named : option_and_then as_str (get (codes "method") j) ≡ Some name
  pub params : AreNamed (get (codes "params") j)

-- the value has this id: null, a number or a text
abbrev pub HasId : Json → RequestId → Type 0
HasId j id = get (codes "id") j ≡ Some (id_json id)

-- what a value asks that has an id, of a node with so many seats
abbrev pub IsAsked : ℕ → Json → Asked → Type 0
IsAsked seats j (asked.Seat k c) = (m : Method) × IsRequest j (method_name m)
    × IsSeat seats (codes "seat") (get (codes "params") j) k × IsCall seats m (get (codes "params") j) c
IsAsked seats j asked.Info = IsRequest j (codes "info")
IsAsked seats j asked.Save = IsRequest j (codes "save")
IsAsked seats j asked.Finish = IsRequest j (codes "finish")
IsAsked seats j (asked.Refused seat refusal.Parse) = ⊥
IsAsked seats j (asked.Refused seat refusal.TooLong) = ⊥
IsAsked seats j (asked.Refused seat refusal.TooMany) = ⊥
IsAsked seats j (asked.Refused seat refusal.Request) = (name : List ℕ) → ¬ IsRequest j name
IsAsked seats j (asked.Refused seat refusal.Method) = (name : List ℕ) × IsRequest j name
    × ((m : Method) → name ≢ method_name m)
IsAsked seats j (asked.Refused seat (refusal.Param name)) = (m : Method) × IsRequest j (method_name m)
    × ((k : ℕ) (c : Call) → ¬ (IsSeat seats (codes "seat") (get (codes "params") j) k
    × IsCall seats m (get (codes "params") j) c))
IsAsked seats j (asked.Refused seat refusal.Memory) = ⊥
IsAsked seats j (asked.Refused seat refusal.Owed) = ⊥
IsAsked seats j (asked.Refused seat refusal.Closed) = ⊥
IsAsked seats j (asked.Refused seat refusal.Unsaved) = ⊥
IsAsked seats j (asked.Refused seat (refusal.NotSaved why)) = ⊥
IsAsked seats j (asked.Refused seat refusal.Busy) = ⊥
IsAsked seats j (asked.Refused seat refusal.HistoryFull) = ⊥

-- the value names no seat of the node, or is no request
abbrev pub NamesNoSeat : ℕ → Json → Type 0
NamesNoSeat seats j = ((name : List ℕ) → ¬ IsRequest j name)
    ⊎ ((k : ℕ) → ¬ IsSeat seats (codes "seat") (get (codes "params") j) k)

-- a refused line that names a seat of the node is told in that seat's turn, and no other is told in one
abbrev pub IsInTurn : ℕ → Json → Asked → Type 0
IsInTurn seats j (asked.Seat k c) = ⊤
IsInTurn seats j asked.Info = ⊤
IsInTurn seats j asked.Save = ⊤
IsInTurn seats j asked.Finish = ⊤
IsInTurn seats j (asked.Refused None why) = NamesNoSeat seats j
IsInTurn seats j (asked.Refused (Some k) why) = IsSeat seats (codes "seat") (get (codes "params") j) k

-- it is refused at once, under the id null
abbrev pub IsRefused : Request → Refusal → Type 0
IsRefused r why = (r.id ≡ id.Null) × (r.asked ≡ asked.Refused None why)

-- what a value asks: it has this id and asks that; without an id it is no request
abbrev pub IsReadOf : ℕ → Json → Request → Type 0
IsReadOf seats j r = (HasId j r.id × IsAsked seats j r.asked × IsInTurn seats j r.asked)
    ⊎ (((i : RequestId) → ¬ HasId j i) × IsRefused r refusal.Request)

-- what a line asks, of a node with so many seats
abbrev pub IsRead : ℕ → List ℕ → Request → Type 0
IsRead seats line r = ((j : Json) × IsJson line j × IsReadOf seats j r)
    ⊎ (((j : Json) → ¬ IsJson line j) × IsRefused r refusal.Parse)
