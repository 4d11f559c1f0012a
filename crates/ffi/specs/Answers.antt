-- What each call answers: what was in the slot before, what is in it after, what was written, and the number.
--     0 done    1 no memory    2 no session in the slot    3 a line of the table can't be read
--     4 there is no such thing    5 the room is too small    6 there is a session in the slot
--     30 another verdict is known    31 signatures have to be found out first
use Rattle.std.specs.Prelude.{◌≡◌, ℕ, ◌⊎◌, Bool, true, false, if◌then◌else◌, ◌==◌, List, [], length, map, Option, None, Some, slice_get}
use Rattle.std.specs.FinMap as coin_map
use Rattle.std.specs.FinSet as set
use Rattle.hash.specs.declared.id.Id.{Id}
use Rattle.txn.specs.declared.outpoint.OutPoint.{OutPoint}
use Rattle.signatures.specs.Known.{Under}
use Rattle.signatures.specs.Triple.{Triple, Triples}
use Rattle.signatures.specs.Lines.{IsFirstBad, IsTableOf}
use Rattle.coins.specs.declared.coin.Coin.{Coin}
use Rattle.coins.specs.Next.{IsNext}
use Rattle.activate.specs.CoreState.{IsBlockOf}
use Rattle.rules.specs.declared.params.Params.{Params}
use Rattle.rules.specs.declared.deployment.Deployment.{Deployment}
use Rattle.rules.specs.Params.{with_height}
use Rattle.tree.specs.declared.tip.Tip.{Tip}
use Rattle.model.specs.declared.command.Command.{Command}
use Rattle.model.specs.declared.reply.Reply.{Reply}
use Rattle.tree.specs.Branches.{height as height_of, place_of}
use Rattle.tree.specs.Names.{names}
use Rattle.tree.specs.Tips.{tip_of_id}
use Rattle.model.specs.Commands.{outcome}
use Rattle.model.specs.Regtest.{ledger}
use Rattle.model.specs.Replay.{coins}
use Rattle.model.specs.Settle.{active, best, tips}
use Rattle.ffi.specs.declared.answers.Answer.{Answer}
use Rattle.ffi.specs.declared.answers.Heights.{Heights}
use Rattle.ffi.specs.declared.answers.MaybeHeight.{MaybeHeight}
use Rattle.ffi.specs.declared.answers.Name.{Name}
use Rattle.ffi.specs.declared.answers.Place.{Place}
use Rattle.ffi.specs.declared.answers.ShownCoin.{ShownCoin}
use Rattle.ffi.specs.declared.answers.ShownTip.{ShownTip}
use Rattle.ffi.specs.Codes.{coinbase_number, input_number, reason_number, reply_number, status_number, transaction_number}
use Rattle.ffi.specs.Room.{IsFilled}
use Rattle.ffi.specs.Known.{Asked, IsLineTold}
use Rattle.ffi.specs.SessionState.{IsLearntBy, IsNoStep, KeepsRules, SessionState, known_of, new_session, rules_of, rules_under, tree_of}

abbrev pub height_in : MaybeHeight → Option ℕ
height_in m = if m.is_some == 0 then None else Some m.height

abbrev pub params_of : Heights → Params
params_of h = record { bip34 = h.bip34; bip65 = h.bip65; bip66 = h.bip66; csv = h.csv; nulldummy = height_in h.nulldummy }

-- the height of a soft fork is set, if there is one of the name: 4 where there isn't
abbrev pub IsHeightSet : Option Deployment → ℕ → Params → Params → ℕ → Type 0
IsHeightSet None height before after result = (result ≡ 4) × (after ≡ before)
IsHeightSet (Some deployment) height before after result = (result ≡ 0) × (after ≡ with_height before deployment height)

abbrev pub id_of : Name → Id
id_of n = record { 0 = n.bytes }

abbrev pub outpoint_of : Place → OutPoint
outpoint_of p = record { id = id_of p.id; index = p.index }

-- ---- opening

-- genesis alone, under a table of these lines
pub record IsOpenedBy (params : Params) (ls : List (List ℕ)) (after : Option SessionState) : Type 0 where
  pub triples : Triples
  pub after_is : after ≡ Some (new_session params triples false)
  pub table : IsTableOf ls triples

-- A slot that is full stays so. Into another one a session comes; or a line can't be read, and only that is reported; or there
-- was no memory.
abbrev pub IsOpened : Params → List (List ℕ) → Option SessionState → Option SessionState → ℕ → ℕ → ℕ → Type 0
IsOpened params ls (Some s) after line told result = (result ≡ 6) × (after ≡ Some s) × (told ≡ line)
IsOpened params ls None after line told result =
    ((result ≡ 0) × IsOpenedBy params ls after × (told ≡ line))
    ⊎ ((result ≡ 3) × (after ≡ None) × IsFirstBad ls told)
    ⊎ ((result ≡ 1) × (after ≡ None) × (told ≡ line))

-- the same where signatures are found out by need, of which nothing is known at first
abbrev pub IsOpenedByNeed : Params → Option SessionState → Option SessionState → ℕ → Type 0
IsOpenedByNeed params (Some s) after result = (result ≡ 6) × (after ≡ Some s)
IsOpenedByNeed params None after result =
    ((result ≡ 0) × (after ≡ Some (new_session params set.empty true))) ⊎ ((result ≡ 1) × (after ≡ None))

-- a slot is closed exactly once
abbrev pub close_number : {A : Type 0} → Option A → ℕ
close_number None = 2
close_number (Some x) = 0

-- ---- steps

-- a reply as C receives it
pub record IsTold (reply : Reply) (a : Answer) : Type 0 where
  pub reply_is : a.reply ≡ reply_number reply
  pub reason_is : a.reason ≡ reason_number reply
  pub transaction_is : a.transaction ≡ transaction_number reply
  pub input_is : a.input ≡ input_number reply

-- the session of before took the definition's step under each set of valid signatures that agrees with what is known, and
-- its reply is reported
pub record IsTaken (s : SessionState) (after : Option SessionState) (c : Command) (a : Answer) : Type 0 where
  pub next : SessionState
  pub reply : Reply
  pub after_is : after ≡ Some next
  pub outcome_is : Under (known_of s) (λ triples. (tree_of next, reply) ≡ outcome (rules_under s triples) (tree_of s) c)
  pub rules : KeepsRules s next
  pub wants_nothing : next.wanted ≡ []
  pub told : IsTold reply a

-- it took no step, and only what it wants may be another list
pub record IsNotTaken (s : SessionState) (after : Option SessionState) (c : Command) (code : ℕ) : Type 0 where
  pub next : SessionState
  pub after_is : after ≡ Some next
  pub step_is : IsNoStep s next c code

-- The step is taken; or none is, and what is reported stays as it was.
abbrev pub IsAnswered : Option SessionState → Option SessionState → Command → Answer → Answer → ℕ → Type 0
IsAnswered None after c before told result = (result ≡ 2) × (after ≡ None) × (told ≡ before)
IsAnswered (Some s) after c before told result =
    ((result ≡ 0) × IsTaken s after c told)
    ⊎ (IsNotTaken s after c result × (told ≡ before))

-- the session of before would give this reply under each set of valid signatures that agrees with what is known
pub record IsForeseen (s : SessionState) (after : Option SessionState) (c : Command) (a : Answer) : Type 0 where
  pub reply : Reply
  pub reply_is : Under (known_of s) (λ triples. reply ≡ (outcome (rules_under s triples) (tree_of s) c).1)
  pub after_is : after ≡ Some (record s { wanted = [] })
  pub told : IsTold reply a

-- A dry run: the reply that a step would give, or why it would give none; no step is taken, and only what is wanted changes.
abbrev pub IsJudged : Option SessionState → Option SessionState → Command → Answer → Answer → ℕ → Type 0
IsJudged None after c before told result = (result ≡ 2) × (after ≡ None) × (told ≡ before)
IsJudged (Some s) after c before told result =
    ((result ≡ 0) × IsForeseen s after c told)
    ⊎ (IsNotTaken s after c result × (told ≡ before))

-- A slot that is full stays so. Into another one the session comes as it is, but that it wants nothing; or there was no
-- memory.
abbrev pub IsCopied : Option SessionState → Option SessionState → Option SessionState → ℕ → Type 0
IsCopied s (Some other) after result = (result ≡ 6) × (after ≡ Some other)
IsCopied None None after result = (result ≡ 2) × (after ≡ None)
IsCopied (Some s) None after result = ((result ≡ 0) × (after ≡ Some (record s { wanted = [] }))) ⊎ ((result ≡ 1) × (after ≡ None))

-- a verdict is given
pub record IsLearnt (s : SessionState) (after : Option SessionState) (t : Triple) (valid : Bool) (code : ℕ) : Type 0 where
  pub next : SessionState
  pub after_is : after ≡ Some next
  pub learnt_is : IsLearntBy s next t valid (known_of s t) code

abbrev pub IsLearntIn : Option SessionState → Option SessionState → Triple → Bool → ℕ → Type 0
IsLearntIn None after t valid result = (result ≡ 2) × (after ≡ None)
IsLearntIn (Some s) after t valid result = IsLearnt s after t valid result

-- ---- reads: what isn't told stays as it was

-- of the list of wanted signatures the line of the one at a place; there may be no memory for it
abbrev pub IsWantShown : Option Triple → Asked → Asked → ℕ → Type 0
IsWantShown None before after result = (result ≡ 4) × (after ≡ before)
IsWantShown (Some t) before after result = IsLineTold t before after result ⊎ ((result ≡ 1) × (after ≡ before))

abbrev pub IsWantTold : Option SessionState → ℕ → Asked → Asked → ℕ → Type 0
IsWantTold None index before after result = (result ≡ 2) × (after ≡ before)
IsWantTold (Some s) index before after result = IsWantShown (slice_get s.wanted index) before after result

pub record ShowsBest (s : SessionState) (id : Name) (height : ℕ) : Type 0 where
  pub id_is : id.bytes ≡ (best (rules_of s) (tree_of s)).0
  pub height_is : height ≡ height_of (tree_of s).blocks (active (rules_of s) (tree_of s))

abbrev pub IsBestShown : Option SessionState → Name → ℕ → Type 0 → ℕ → Type 0
IsBestShown None id height kept result = (result ≡ 2) × kept
IsBestShown (Some s) id height kept result = (result ≡ 0) × ShowsBest s id height

pub record ShowsTip (tip : Tip) (shown : ShownTip) : Type 0 where
  pub id : shown.id.bytes ≡ tip.id.0
  pub height : shown.height ≡ tip.height
  pub length : shown.length ≡ tip.length
  pub status : shown.status ≡ status_number tip.status

-- the tip is shown, or there was no memory; or the list has no tip at that place
abbrev pub IsTipShown : Option Tip → ShownTip → Type 0 → ℕ → Type 0
IsTipShown None shown kept result = ((result ≡ 4) ⊎ (result ≡ 1)) × kept
IsTipShown (Some tip) shown kept result = ((result ≡ 0) × ShowsTip tip shown) ⊎ ((result ≡ 1) × kept)

-- of the session's list of tips the one at a place
abbrev pub IsTipTold : Option SessionState → ℕ → ShownTip → Type 0 → ℕ → Type 0
IsTipTold None index shown kept result = (result ≡ 2) × kept
IsTipTold (Some s) index shown kept result =
    IsTipShown (slice_get (map tip_of_id (tips (rules_of s) (tree_of s))) index) shown kept result

-- a coin without its script
abbrev pub coin_row : Coin → ShownCoin
coin_row coin = record { value = coin.value; script = length coin.script; height = coin.height; coinbase = coinbase_number coin.coinbase }

-- the coin is shown, and its script where there is room for it; or there is no such coin
abbrev pub IsCoinShown : Option Coin → ShownCoin → ShownCoin → List ℕ → List ℕ → ℕ → Type 0
IsCoinShown None before shown room script result = (result ≡ 4) × (shown ≡ before) × (script ≡ room)
IsCoinShown (Some coin) before shown room script result = (shown ≡ coin_row coin) × IsFilled coin.script room script result

-- what C has of a coin: its outpoint, what is shown of it, and its script at the front of the room
pub record Listed : Type 0 where
  pub at : Place
  pub shown : ShownCoin
  pub script : List ℕ

-- it is shown, and where there is room for its script that is there too and its outpoint; else the outpoint stays
pub record ShowsNext (e : OutPoint × Coin) (before after : Listed) (result : ℕ) : Type 0 where
  pub coin : after.shown ≡ coin_row e.1
  pub filled : IsFilled e.1.script before.script after.script result
  pub found : result ≡ 0 → outpoint_of after.at ≡ e.0
  pub stays : result ≡ 5 → after.at ≡ before.at

abbrev pub IsNextShown : Option (OutPoint × Coin) → Listed → Listed → ℕ → Type 0
IsNextShown None before after result = (result ≡ 4) × (after ≡ before)
IsNextShown (Some e) before after result = ShowsNext e before after result

-- above this outpoint, or above none where the number is 0
abbrev pub above_of : ℕ → Place → Option OutPoint
above_of above p = if above == 0 then None else Some (outpoint_of p)

-- of the session's coins the one at the least outpoint above another
pub record IsNextOf (s : SessionState) (above : Option OutPoint) (before after : Listed) (result : ℕ) : Type 0 where
  pub next : Option (OutPoint × Coin)
  pub next_is : IsNext (coins (rules_of s) ledger (tree_of s)) above next
  pub shown : IsNextShown next before after result

abbrev pub IsNextTold : Option SessionState → Option OutPoint → Listed → Listed → ℕ → Type 0
IsNextTold None above before after result = (result ≡ 2) × (after ≡ before)
IsNextTold (Some s) above before after result = IsNextOf s above before after result

-- the bytes are there, where there is room for them, and how many they are; or there are none
abbrev pub AreBytesShown : Option (List ℕ) → ℕ → ℕ → List ℕ → List ℕ → ℕ → Type 0
AreBytesShown None before needed room bytes result = (result ≡ 4) × (needed ≡ before) × (bytes ≡ room)
AreBytesShown (Some found) before needed room bytes result = (needed ≡ length found) × IsFilled found room bytes result

-- of the session's blocks the bytes of the one with an id
pub record IsBlockShown (s : SessionState) (id : Id) (before needed : ℕ) (room bytes : List ℕ) (result : ℕ) : Type 0 where
  pub found : Option (List ℕ)
  pub found_is : IsBlockOf (tree_of s).blocks (place_of names (tree_of s).blocks id) found
  pub shown : AreBytesShown found before needed room bytes result

abbrev pub IsBlockTold : Option SessionState → Id → ℕ → ℕ → List ℕ → List ℕ → ℕ → Type 0
IsBlockTold None id before needed room bytes result = (result ≡ 2) × (needed ≡ before) × (bytes ≡ room)
IsBlockTold (Some s) id before needed room bytes result = IsBlockShown s id before needed room bytes result

-- of the session's coins the one at an outpoint
abbrev pub IsCoinTold : Option SessionState → OutPoint → ShownCoin → ShownCoin → List ℕ → List ℕ → ℕ → Type 0
IsCoinTold None at before shown room script result = (result ≡ 2) × (shown ≡ before) × (script ≡ room)
IsCoinTold (Some s) at before shown room script result =
    IsCoinShown (coin_map.get (coins (rules_of s) ledger (tree_of s)) at) before shown room script result
