-- What a seat's thread answers to a request: the line that goes out, by what the seat was before its turn and is behind it.
use Rattle.std.specs.Prelude.{◌≡◌, ◌≢◌, ◌⊎◌, ◌<◌, ◌^◌, ◌-◌, ℕ, ℤ, suc, pos, negsuc, [], Bool, min, map, true, false, List, length, codes, Option, Some, None, Result, Ok, Err, IfOk, IfErr, IfSome, MatchOption, Vec}
use Rattle.std.specs.Fmt.{signed_decimal}
use Rattle.std.specs.Global.{Global}
use Rattle.std.specs.List.{flat_map}
use mathlib.Core.List.{IsPrefix}
use Rattle.hex.specs.Hex.{encode_lower}
use Rattle.json.specs.Json.{Json, null, array, number, object, Members, no_members, member}
use Rattle.hash.specs.Id.{hex_of_id}
use Rattle.hash.specs.declared.id.Id.{Id}
use Rattle.signatures.specs.Lines.{lines}
use Rattle.signatures.specs.Triple.{Triple}
use Rattle.txn.specs.declared.outpoint.OutPoint.{OutPoint}
use Rattle.block.specs.declared.block.Block.{Block}
use Rattle.block.specs.BlockOfBytes.{block_of_bytes}
use Rattle.block.specs.Genesis.{genesis}
use Rattle.block.specs.Grammar as grammar
use Rattle.block.specs.StoredBlock.{genesis_alone}
use Rattle.coins.specs.declared.coin.Coin.{Coin}
use Rattle.tree.specs.Branches.{Blocks, block_at, height, place_of}
use Rattle.tree.specs.Names.{names}
use Rattle.tree.specs.declared.tip.Tip.{Tip}
use Rattle.model.specs.ReplyText.{text_of_submit, text_of_mark}
use Rattle.model.specs.declared.command.Command.{Command}
use Rattle.model.specs.declared.entry.Entry.{Entry}
use Rattle.model.specs.declared.command.Command.TheVariants as command
use Rattle.model.specs.declared.reply.MarkReply.{MarkReply}
use Rattle.model.specs.declared.reply.SubmitReply.{SubmitReply}
use Rattle.model.specs.declared.reply.Reply.TheVariants as reply
use Rattle.activate.specs.Lookups.{ancestor_of, fork_of, height_of}
use Rattle.node.specs.declared.answer.Stamped.{Stamped}
use Rattle.node.specs.declared.answer.UnspentOutput.{UnspentOutput}
use Rattle.node.specs.declared.fault.Fault.{Fault}
use Rattle.node.specs.declared.fault.Fault.TheVariants.{Memory, Owed, Closed, Unknown}
use Rattle.node.specs.Calls.{IsSubmitAnswer, IsWriteFault, IsJudgeFault, IsReadFault, IsClosedFault}
use Rattle.node.specs.Pass.{Pass, settled, IsLater, IsWrite, IsRead, IsListed, AreCoins}
use Rattle.node.specs.Told.{best_in, output_at, reply_to, shown_tips, undo_in}
use Rattle.serving.specs.Answers.{contradicted_members, text, count, line_of, response, refusal_members, tip_items, wants_members}
use Rattle.serving.specs.declared.refusal.Refusal.{Refusal}
use Rattle.serving.specs.declared.refusal.Refusal.TheVariants as refusal
use Rattle.serving.specs.declared.request.Call.{Call}
use Rattle.serving.specs.declared.request.Call.TheVariants as call
use Rattle.serving.specs.declared.request_id.RequestId.{RequestId}
use Rattle.server.specs.UnspentOutput.{unspent_members}
use Rattle.server.specs.inside.Brought.{AreBrought, is_kept}
use Rattle.server.specs.inside.Verdicts.{AreLearnt}
use Rattle.server.specs.inside.Lists.{coin_json, items, spent_json, AreSteps}
use Rattle.server.specs.declared.turn.Ask.{Ask}
use Rattle.server.specs.declared.turn.Ask.TheVariants as ask

-- ---- lines

-- the line of an answer: its place, and what is answered beside it
abbrev pub answer_at : RequestId → ℕ → Members → List ℕ
answer_at i at ms = line_of (response (codes "result") i (count (codes "at") at ms))

-- the line that says why there is no answer
abbrev pub error_of : RequestId → Refusal → List ℕ
error_of i why = line_of (response (codes "error") i (refusal_members why))

-- some refusal
abbrev pub IsError : RequestId → List ℕ → Type 0
IsError i line = (why : Refusal) × (line ≡ error_of i why)

-- what a fault of the node is told as
abbrev pub refusal_of : Fault → Refusal
refusal_of Memory = refusal.Memory
refusal_of Owed = refusal.Owed
refusal_of Closed = refusal.Closed
refusal_of Unknown = refusal.Closed

-- the line of what was read, or that there is no memory for it
abbrev pub IsReadLine : RequestId → ℕ → Members → List ℕ → Type 0
IsReadLine i at ms line = (line ≡ answer_at i at ms) ⊎ (line ≡ error_of i refusal.Memory)

-- the line tells what the node read, or its fault
abbrev pub TellsRead : {V : Type 0} → (V → Members) → RequestId → Result (Stamped V) Fault → List ℕ → Type 0
TellsRead ms i (Ok s) line = IsReadLine i s.at (ms s.value) line
TellsRead ms i (Err fault) line = line ≡ error_of i (refusal_of fault)

-- the line tells the reply to a step, or the signatures that it wants, or the node's fault; a reply that is longer than any is
-- told as one that is owed
abbrev pub TellsStep : {V : Type 0} → (V → Option (List ℕ)) → RequestId → Result (Stamped V) Fault → Pass → List ℕ → Type 0
TellsStep text_of i (Ok s) q line =
    IfSome (text_of s.value) (λ word. line ≡ answer_at i s.at (text (codes "answer") word no_members)) ⊎ (line ≡ error_of i refusal.Owed)
TellsStep text_of i (Err Unknown) q line = IsReadLine i (length q.seen) (wants_members q.wants) line
TellsStep text_of i (Err Memory) q line = line ≡ error_of i refusal.Memory
TellsStep text_of i (Err Owed) q line = line ≡ error_of i refusal.Owed
TellsStep text_of i (Err Closed) q line = line ≡ error_of i refusal.Closed

-- ---- what is read, as members

abbrev pub output_answer : Option UnspentOutput → Members
output_answer None = member (codes "answer") null no_members
output_answer (Some o) = member (codes "answer") (object (unspent_members o)) no_members

abbrev pub best_answer : Id → Members
best_answer id = member (codes "answer") (object (text (codes "hash") (hex_of_id id) no_members)) no_members

abbrev pub tips_answer : Vec Tip Global → Members
tips_answer tips = member (codes "answer") (array (tip_items tips.items)) no_members

abbrev pub coins_answer : Vec (OutPoint × Coin) Global → Members
coins_answer coins = member (codes "answer") (array (items (map coin_json coins.items))) no_members

-- what the transactions of a block but the first spent, in the order of their inputs
abbrev pub spent_answer : Option (List (List Coin)) → Members
spent_answer None = member (codes "answer") null no_members
spent_answer (Some txs) = member (codes "answer") (array (items (map spent_json (flat_map (λ coins. coins) txs)))) no_members

abbrev pub no_answer : Id → Members
no_answer id = no_members

-- ---- answers

-- there is a result of the node's call that its clauses allow, and that is told
pub record IsTold {V : Type 0} (IsAnswer : ℕ → V → Type 0) (IsFault : Fault → Type 0) (Tells : Result (Stamped V) Fault → Type 0) : Type 0 where
  pub result : Result (Stamped V) Fault
  pub answer : IfOk result (λ s. IsAnswer s.at s.value)
  pub fault : IfErr result IsFault
  pub told : Tells result

-- a step: its reply is the step's own in the history
abbrev pub IsStepTold : {V : Type 0} → Pass → Pass → Command → (ℕ → V → Type 0) → (V → Option (List ℕ)) → RequestId → List ℕ → Type 0
IsStepTold p q c IsAnswer text_of i line = IsTold IsAnswer (IsWriteFault p q c) (λ r. TellsStep text_of i r q line)

-- a mark or a preference
abbrev pub IsMarkTold : Pass → Pass → Command → RequestId → List ℕ → Type 0
IsMarkTold p q c i line = IsStepTold p q c (λ at (r : MarkReply). IsWrite p q c at (reply.Mark r)) (λ r. Some (text_of_mark r)) i line

-- a block that no record can hold is no step
pub record IsTooLong (block : List ℕ) (i : RequestId) (p q : Pass) (line : List ℕ) : Type 0 where
  pub long : 2 ^ 25 < length block
  pub same : q ≡ p
  pub told : IsError i line

-- the reply that a submission would get, after all that the seat has then seen; no step is taken
abbrev pub IsJudged : Pass → Pass → List ℕ → ℕ → ℕ → SubmitReply → Type 0
IsJudged p q block now at r = IsRead (settled p) q (reply_to p.origin (command.Submit block now)) at (reply.Submit r)

-- the history has no more room for submissions that aren't kept, and this one wouldn't be
pub record IsHistoryFull (p q : Pass) (block : List ℕ) (now : ℕ) (i : RequestId) (line : List ℕ) : Type 0 where
  pub at : ℕ
  pub value : SubmitReply
  pub judged : IsJudged p q block now at value
  pub unkept : is_kept value ≡ false
  pub told : line ≡ error_of i refusal.HistoryFull

-- a submission is a step
abbrev pub IsTaken : Pass → Pass → List ℕ → ℕ → RequestId → List ℕ → Type 0
IsTaken p q block now i line =
    IsStepTold p q (command.Submit block now) (IsSubmitAnswer p q block now) (λ r. Some (text_of_submit r)) i line

-- the same, after the seat looked at what the reply would be
pub record IsTakenLater (p q : Pass) (block : List ℕ) (now : ℕ) (i : RequestId) (line : List ℕ) : Type 0 where
  pub looked : Pass
  pub later : IsLater p looked
  pub mine : looked.mine ≡ p.mine
  pub taken : IsTaken looked q block now i line

-- bytes are submitted
abbrev pub IsSubmitTold : Pass → Pass → List ℕ → ℕ → RequestId → List ℕ → Type 0
IsSubmitTold p q block now i line =
    IsTooLong block i p q line
    ⊎ IsHistoryFull p q block now i line
    ⊎ IsTaken p q block now i line
    ⊎ IsTakenLater p q block now i line

-- a dry run
abbrev pub IsJudgeTold : Pass → Pass → List ℕ → ℕ → RequestId → List ℕ → Type 0
IsJudgeTold p q block now i line =
    IsTooLong block i p q line
    ⊎ IsTold (IsJudged p q block now) (IsJudgeFault p q (command.Submit block now)) (λ r. TellsStep (λ s. Some (text_of_submit s)) i r q line)

-- a read: its value is the history's at its place
abbrev pub IsReadTold : {V : Type 0} → (ℕ → V → Type 0) → (Fault → Type 0) → (V → Members) → RequestId → List ℕ → Type 0
IsReadTold IsAnswer IsFault ms i line = IsTold IsAnswer IsFault (λ r. TellsRead ms i r line)

-- coins of one state, at most 1,000
abbrev pub AreCoinsTold : Pass → Pass → Option OutPoint → ℕ → RequestId → List ℕ → Type 0
AreCoinsTold p q above most i line =
    IsReadTold (λ at (coins : Vec (OutPoint × Coin) Global). AreCoins p q above (min most 1000) at coins.items) (IsReadFault p q) coins_answer i line

-- the coins that an active block spent
abbrev pub IsSpentTold : Pass → Pass → Id → RequestId → List ℕ → Type 0
IsSpentTold p q id i line = IsReadTold (IsRead p q (undo_in p.origin id)) (IsReadFault p q) spent_answer i line

-- the line tells steps that the node listed, of which the first has this number, or its fault
abbrev pub TellsSteps : ℕ → RequestId → Result (Stamped (Vec Entry Global)) Fault → List ℕ → Type 0
TellsSteps first i (Ok s) line =
    ((js : List Json) × AreSteps first s.value.items js × (line ≡ answer_at i s.at (member (codes "answer") (array (items js)) no_members)))
    ⊎ (line ≡ error_of i refusal.Memory)
TellsSteps first i (Err fault) line = line ≡ error_of i (refusal_of fault)

-- the steps between these numbers, both included, of all that the seat has then seen
abbrev pub IsJournalTold : Pass → Pass → ℕ → ℕ → RequestId → List ℕ → Type 0
IsJournalTold p q first last i line =
    IsTold (λ at (es : Vec Entry Global). IsListed p q (first - 1) last at es.items) (IsReadFault p q) (λ r. TellsSteps first i r line)

-- the line that tells what came of verdicts
abbrev pub TellsLearnt : Result (Option Triple) Fault → Pass → RequestId → List ℕ → Type 0
TellsLearnt (Ok None) q i line = line ≡ answer_at i (length q.seen) (text (codes "answer") (codes "done") no_members)
TellsLearnt (Ok (Some t)) q i line = IsReadLine i (length q.seen) (contradicted_members t) line
TellsLearnt (Err fault) q i line = line ≡ error_of i (refusal_of fault)

-- the signatures of the first lines are valid, and then those of the others aren't
abbrev pub IsLearnTold : Pass → Pass → List ℕ → List ℕ → RequestId → List ℕ → Type 0
IsLearnTold p q valid invalid i line =
    ((r : Result (Option Triple) Fault) × (r ≢ Ok None) × AreLearnt p q (lines valid) true r × TellsLearnt r q i line)
    ⊎ ((m : Pass) × AreLearnt p m (lines valid) true (Ok None)
    × ((r : Result (Option Triple) Fault) × AreLearnt m q (lines invalid) false r × TellsLearnt r q i line))

-- ---- blocks, by what the history's submissions brought

-- bytes spell a block that is kept: of genesis, which is kept without its transaction, the whole block
abbrev pub SpellsKept : List ℕ → Block → Type 0
SpellsKept bytes b = (block_of_bytes bytes ≡ Some b) ⊎ ((b ≡ genesis_alone) × (bytes ≡ grammar.block.spell genesis))

abbrev pub absent_answer : Members
absent_answer = member (codes "answer") null no_members

abbrev pub header_answer : List ℕ → ℕ → ℤ → Members
header_answer header height confirmations = member (codes "answer") (object (text (codes "header") (encode_lower header) (count (codes "height") height
    (member (codes "confirmations") (number (signed_decimal confirmations)) no_members)))) no_members

-- how many blocks of the best one's branch there are from this one on; None where that branch hasn't it at its height
abbrev pub IsDeep : Blocks Block → Id → Id → ℕ → Option ℕ → Type 0
IsDeep t best id h None = ancestor_of t best h ≢ Some id
IsDeep t best id h (Some n) = (top : ℕ) × (height_of t best ≡ Some top) × (ancestor_of t best h ≡ Some id) × (n ≡ suc (top - h))

-- -1 of a block that isn't active
abbrev pub confirmations_of : Option ℕ → ℤ
confirmations_of None = negsuc 0
confirmations_of (Some n) = pos n

-- the bytes of the block with this id
abbrev pub TellsBlock : Blocks Block → Id → RequestId → ℕ → List ℕ → Type 0
TellsBlock t id i at line = MatchOption (place_of names t id) (IsReadLine i at absent_answer line)
    (λ p. (bytes : List ℕ) × SpellsKept bytes (block_at names t p) × IsReadLine i at (text (codes "answer") (encode_lower bytes) no_members) line)

-- its header, its height and its confirmations
abbrev pub TellsHeader : Blocks Block → Id → Id → RequestId → ℕ → List ℕ → Type 0
TellsHeader t best id i at line = MatchOption (place_of names t id) (IsReadLine i at absent_answer line)
    (λ p. (deep : Option ℕ) × IsDeep t best id (height t p) deep
    × IsReadLine i at (header_answer (grammar.header.spell (block_at names t p).header) (height t p) (confirmations_of deep)) line)

-- the id of the block that was looked for, if there is one
abbrev pub TellsHash : Option Id → RequestId → ℕ → List ℕ → Type 0
TellsHash found i at line = MatchOption found (IsReadLine i at absent_answer line) (λ id. IsReadLine i at (best_answer id) line)

-- at a moment during the call this was the best block, and the submissions that the seat had then seen had brought these blocks
pub record IsLookedAt (p q : Pass) (t : Blocks Block) (at : ℕ) (best : Id) : Type 0 where
  pub moment : Pass
  pub after : IsPrefix p.seen moment.seen
  pub before : IsPrefix moment.seen q.seen
  pub best_is : IsRead p moment (best_in p.origin) at best
  pub blocks_are : AreBrought [] moment.seen t
  pub mine_is : q.mine ≡ p.mine

-- a look at them that failed
abbrev pub IsLookFault : Pass → Pass → Fault → Type 0
IsLookFault p q Memory = q.mine ≡ p.mine
IsLookFault p q Owed = ⊥
IsLookFault p q Unknown = ⊥
IsLookFault p q Closed = q.mine ≡ p.mine

-- the line tells of these blocks, or the fault
abbrev pub IsLookTold : Pass → Pass → (Blocks Block → Id → ℕ → List ℕ → Type 0) → RequestId → List ℕ → Type 0
IsLookTold p q Tells i line =
    ((t : Blocks Block) × (at : ℕ) × (best : Id) × IsLookedAt p q t at best × Tells t best at line)
    ⊎ ((fault : Fault) × IsLookFault p q fault × (line ≡ error_of i (refusal_of fault)))

-- how many steps the seat has then seen
pub record IsPlaceTold (p q : Pass) (i : RequestId) (line : List ℕ) : Type 0 where
  pub mine : q.mine ≡ p.mine
  pub told : line ≡ answer_at i (length q.seen) no_members

-- what was answered is on the disk, or a refusal
pub record IsSaveTold (p q : Pass) (i : RequestId) (line : List ℕ) : Type 0 where
  pub mine : q.mine ≡ p.mine
  pub told : (line ≡ answer_at i (length q.seen) no_members) ⊎ IsError i line

-- what a call is answered
abbrev pub IsCallTold : Call → Pass → Pass → RequestId → List ℕ → Type 0
IsCallTold (call.Submit block now) p q i line = IsSubmitTold p q block.items now i line
IsCallTold (call.Judge block now) p q i line = IsJudgeTold p q block.items now i line
IsCallTold (call.Invalidate id) p q i line = IsMarkTold p q (command.Invalidate id) i line
IsCallTold (call.Reconsider id) p q i line = IsMarkTold p q (command.Reconsider id) i line
IsCallTold (call.Precious id) p q i line = IsMarkTold p q (command.Precious id) i line
IsCallTold (call.Output at) p q i line = IsReadTold (IsRead p q (output_at p.origin at)) (IsReadFault p q) output_answer i line
IsCallTold call.Best p q i line = IsReadTold (IsRead p q (best_in p.origin)) (IsClosedFault p q) best_answer i line
IsCallTold call.Tips p q i line =
    IsReadTold (λ at (tips : Vec Tip Global). IsRead p q (shown_tips p.origin) at tips.items) (IsReadFault p q) tips_answer i line
IsCallTold (call.Block id) p q i line = IsLookTold p q (λ t best. TellsBlock t id i) i line
IsCallTold (call.Header id) p q i line = IsLookTold p q (λ t best. TellsHeader t best id i) i line
IsCallTold (call.Hash height) p q i line = IsLookTold p q (λ t best. TellsHash (ancestor_of t best height) i) i line
IsCallTold (call.Ancestor id height) p q i line = IsLookTold p q (λ t best. TellsHash (ancestor_of t id height) i) i line
IsCallTold (call.Fork id other) p q i line = IsLookTold p q (λ t best. TellsHash (fork_of t id other) i) i line
IsCallTold (call.Spent id) p q i line = IsSpentTold p q id i line
IsCallTold (call.Coins above most) p q i line = AreCoinsTold p q above most i line
IsCallTold (call.Wait steps) p q i line = IsReadTold (IsRead p q (best_in p.origin)) (IsClosedFault p q) no_answer i line
IsCallTold call.Note p q i line = IsPlaceTold p q i line
IsCallTold (call.Told from) p q i line = IsPlaceTold p q i line
IsCallTold (call.Journal from to) p q i line = IsJournalTold p q from to i line
IsCallTold call.Wants p q i line = (q ≡ p) × IsReadLine i (length q.seen) (wants_members q.wants) line
IsCallTold (call.Learn valid invalid) p q i line = IsLearnTold p q valid.items invalid.items i line

-- what a request is answered
abbrev pub IsAnswered : Ask → Pass → Pass → RequestId → List ℕ → Type 0
IsAnswered (ask.Call c) p q i line = IsCallTold c p q i line
IsAnswered ask.Save p q i line = IsSaveTold p q i line
IsAnswered (ask.Refused why) p q i line = (q ≡ p) × (line ≡ error_of i why)
