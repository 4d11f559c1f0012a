-- Runs: what a seat called and was answered, and how one history explains that.
use Rattle.std.specs.Prelude.{◌≡◌, ℕ, zero, suc, ◌<◌, ◌≤◌, ◌⊎◌, max, Bool, not, List, [], ◌∷◌, ◌++◌, length, take, drop, slice_get}
use Rattle.std.specs.Prelude.{Option, Some, None, Result, Ok, Err, IfOk, IfErr}
use Rattle.std.specs.Global.{Vec}
use mathlib.Core.List.{IsPrefix}
use Rattle.hash.specs.declared.id.Id.{Id}
use Rattle.txn.specs.declared.outpoint.OutPoint.{OutPoint}
use Rattle.signatures.specs.Triple.{Triple, Triples}
use Rattle.coins.specs.declared.coin.Coin.{Coin}
use Rattle.block.specs.BlockOfBytes.{block_of_bytes}
use Rattle.tree.specs.declared.tip.Tip.{Tip}
use Rattle.model.specs.declared.command.Command.{Command}
use Rattle.model.specs.declared.command.Command.TheVariants as command
use Rattle.model.specs.declared.reply.Reply.{Reply}
use Rattle.model.specs.declared.reply.Reply.TheVariants as reply
use Rattle.model.specs.declared.reply.SubmitReply.{SubmitReply}
use Rattle.model.specs.declared.reply.SubmitReply.TheVariants.{DecodeFailed}
use Rattle.model.specs.declared.reply.MarkReply.{MarkReply}
use Rattle.model.specs.declared.reply.MarkReply.TheVariants.{Done}
use Rattle.model.specs.declared.entry.Entry.{Entry}
use Rattle.model.specs.History.{state_at, entry_of}
use Rattle.view.specs.Origin.{Origin, known_in, machine}
use Rattle.node.specs.declared.answer.Learning.{Learning}
use Rattle.node.specs.declared.answer.Learning.TheVariants as learning
use Rattle.node.specs.declared.answer.Stamped.{Stamped}
use Rattle.node.specs.declared.answer.UnspentOutput.{UnspentOutput}
use Rattle.node.specs.declared.fault.Fault.{Fault}
use Rattle.node.specs.declared.fault.Fault.TheVariants.{Owed, Unknown}
use Rattle.node.specs.Pass.{Pass, Heard, settled, IsLater, IsLonger, IsWrite, IsRead, AreCoins, IsListed, owed_entry}
use Rattle.node.specs.Calls.{IsSubmitAnswer, IsLearnAnswer, IsWriteFault, IsJudgeFault, IsReadFault, IsClosedFault}
use Rattle.node.specs.Told.{AreNext, best_in, coins_in, output_at, reply_to, shown_tips, undo_in}

-- a call of a seat, with what was answered
pub data Call : Type 0 where
  Submit : List ℕ → ℕ → Result (Stamped SubmitReply) Fault → Call
  -- `invalidate`, `reconsider` and `precious`
  Mark : Command → Result (Stamped MarkReply) Fault → Call
  Learn : Triple → Bool → Result (Stamped Learning) Fault → Call
  Judge : List ℕ → ℕ → Result (Stamped SubmitReply) Fault → Call
  Spent : Id → Result (Stamped (Option (List (List Coin)))) Fault → Call
  GetTxOut : OutPoint → Result (Stamped (Option UnspentOutput)) Fault → Call
  CoinsFrom : Option OutPoint → ℕ → Result (Stamped (Vec (OutPoint × Coin))) Fault → Call
  GetBestBlockHash : Result (Stamped Id) Fault → Call
  GetChainTips : Result (Stamped (Vec Tip)) Fault → Call
  Journal : ℕ → ℕ → Result (Stamped (Vec Entry)) Fault → Call
  -- what the seat has seen, given to others
  Note : Heard → Call
  -- what another had seen, by its note; `meet` tells it to both
  Told : Heard → Call

-- the note of a seat with this pass
abbrev pub heard : Pass → Heard
heard p = record { origin = p.origin; seen = p.seen }

-- the clauses of a call that may be refused, by the seat's pass before it and after it
pub record Contract (p q : Pass) {A : Type 0} (result : Result (Stamped A) Fault)
    (Answer : ℕ → A → Type 0) (Refusal : Fault → Type 0) : Type 0 where
  pub later : IsLater p q
  pub answer : IfOk result (λ r. Answer r.at r.value)
  pub fault : IfErr result Refusal

-- the clauses of each call
abbrev pub Ensures : Pass → Pass → Call → Type 0
Ensures p q (Submit bytes now r) = Contract p q r (IsSubmitAnswer p q bytes now) (IsWriteFault p q (command.Submit bytes now))
Ensures p q (Mark c r) = Contract p q r (λ at value. IsWrite p q c at (reply.Mark value)) (IsWriteFault p q c)
Ensures p q (Learn t valid r) = Contract p q r (IsLearnAnswer p q t valid) (IsWriteFault p q (command.Learn t valid))
Ensures p q (Judge bytes now r) = let c = command.Submit bytes now in Contract p q r (λ at value. IsRead (settled p) q (reply_to p.origin c) at (reply.Submit value)) (IsJudgeFault p q c)
Ensures p q (Spent id r) = Contract p q r (IsRead p q (undo_in p.origin id)) (IsReadFault p q)
Ensures p q (GetTxOut outpoint r) = Contract p q r (IsRead p q (output_at p.origin outpoint)) (IsReadFault p q)
Ensures p q (CoinsFrom above most r) = Contract p q r (λ at list. AreCoins p q above most at list.items) (IsReadFault p q)
Ensures p q (GetBestBlockHash r) = Contract p q r (IsRead p q (best_in p.origin)) (IsClosedFault p q)
Ensures p q (GetChainTips r) = Contract p q r (λ at tips. IsRead p q (shown_tips p.origin) at tips.items) (IsReadFault p q)
Ensures p q (Journal first last r) = Contract p q r (λ at list. IsListed p q first last at list.items) (IsReadFault p q)
Ensures p q (Note x) = (q ≡ p) × (x.seen ≡ p.seen)
Ensures p q (Told x) = IsLater p q × (q.mine ≡ p.mine) × IsLonger p.seen x.seen q.seen

-- the seat makes these calls, one after the other, and its pass goes from p to z
abbrev pub Makes : Pass → List Call → Pass → Type 0
Makes p [] z = z ≡ p
Makes p (c ∷ cs) z = (q : Pass) × Ensures p q c × Makes q cs z

-- these verdicts are taken down by a call of `learn` each, none of which contradicts what is known
abbrev pub Learns : Pass → List Triple → Bool → Pass → Type 0
Learns p [] valid z = z ≡ p
Learns p (t ∷ ts) valid z = (q : Pass) × ((r : Stamped Learning) × Ensures p q (Learn t valid (Ok r)) × (r.value ≡ learning.Contradicted → ⊥)) × Learns q ts valid z

-- of a list of verdicts the first n are taken down so, and a call of `learn` for the next one is answered so
abbrev pub IsLearntUpTo : Pass → Pass → List Triple → Bool → ℕ → Result (Stamped Learning) Fault → Type 0
IsLearntUpTo p z ts valid n result = (t : Triple) × (slice_get ts n ≡ Some t) × ((q : Pass) × Learns p (take n ts) valid q × Ensures q z (Learn t valid result))

-- how many are taken down: all, or those before the first that contradicts what is known
abbrev pub IsLearnAllAnswer : Pass → Pass → List Triple → Bool → ℕ → ℕ → Type 0
IsLearnAllAnswer p z ts valid at n =
    ((n ≡ length ts) × Learns p ts valid z × (at ≡ length z.seen))
    ⊎ IsLearntUpTo p z ts valid n (Ok (record { at = at; value = learning.Contradicted }))

-- those before the one whose call is refused
abbrev pub IsLearnAllFault : Pass → Pass → List Triple → Bool → Fault → Type 0
IsLearnAllFault p z ts valid fault = (n : ℕ) × IsLearntUpTo p z ts valid n (Err fault)

-- the entry of a step, by its reply; DecodeFailed is no step's
abbrev pub step_of_reply : ℕ → Command → Reply → List Entry
step_of_reply seat c (reply.Submit DecodeFailed) = []
step_of_reply seat c r = entry_of seat c (Some r) ∷ []

-- a step that is owed was taken, and a refused one wasn't
abbrev pub step_of_fault : ℕ → Command → Fault → List Entry
step_of_fault seat c Owed = owed_entry seat c ∷ []
step_of_fault seat c f = []

-- a verdict that was known already is no step
abbrev pub step_of_learning : ℕ → Command → Learning → List Entry
step_of_learning seat c learning.New = entry_of seat c (Some (reply.Mark Done)) ∷ []
step_of_learning seat c value = []

-- the step that a call took, if it took one
abbrev pub step_of : ℕ → Call → List Entry
step_of seat (Submit bytes now (Ok r)) = step_of_reply seat (command.Submit bytes now) (reply.Submit r.value)
step_of seat (Submit bytes now (Err f)) = step_of_fault seat (command.Submit bytes now) f
step_of seat (Mark c (Ok r)) = step_of_reply seat c (reply.Mark r.value)
step_of seat (Mark c (Err f)) = step_of_fault seat c f
step_of seat (Learn t valid (Ok r)) = step_of_learning seat (command.Learn t valid) r.value
step_of seat (Learn t valid (Err f)) = step_of_fault seat (command.Learn t valid) f
step_of seat call = []

-- the steps that a seat's calls took, in their order
abbrev pub steps_of : ℕ → List Call → List Entry
steps_of seat [] = []
steps_of seat (c ∷ cs) = step_of seat c ++ steps_of seat cs

-- a fault leaves the seat where it is, but where signatures are wanted
abbrev pub IsLeft : ℕ → ℕ → Fault → Type 0
IsLeft n m Unknown = n ≤ m
IsLeft n m f = m ≡ n

-- A seat goes along the history h, where these signatures are valid: it has seen n entries of it before a call, and m after it.
module _ (o : Origin) (h : List Entry) (valid : Triples) where
  -- entry m, counted from 1, is the seat's, and so the chainstate answers its command there
  abbrev pub IsStep : ℕ → Command → ℕ → Reply → Type 0
  IsStep seat c zero r = ⊥
  IsStep seat c (suc k) r = let M = machine o valid in
      (slice_get h k ≡ Some (entry_of seat c (Some r))) × (M.step (state_at M h k) c ≡ Some (state_at M h (suc k), r))

  -- a step is behind all that the seat had seen; bytes that are no block take none
  abbrev pub IsSubmission : ℕ → ℕ → ℕ → List ℕ → ℕ → SubmitReply → Type 0
  IsSubmission seat n m bytes now DecodeFailed = (m ≡ n) × (block_of_bytes bytes ≡ None)
  IsSubmission seat n m bytes now value = (n < m) × IsStep seat (command.Submit bytes now) m (reply.Submit value)

  -- a verdict is a step, or it or the other one is known there
  abbrev pub IsLearnt : ℕ → ℕ → ℕ → Triple → Bool → Learning → Type 0
  IsLearnt seat n m t v learning.New = (n < m) × IsStep seat (command.Learn t v) m (reply.Mark Done)
  IsLearnt seat n m t v learning.Known = known_in o (take m h) t ≡ Some v
  IsLearnt seat n m t v learning.Contradicted = known_in o (take m h) t ≡ Some (not v)

  -- an answer takes the seat to its place
  abbrev pub IsAt : {A : Type 0} → ℕ → ℕ → Result (Stamped A) Fault → (A → Type 0) → Type 0
  IsAt n m (Ok r) P = (r.at ≡ m) × P r.value
  IsAt n m (Err f) P = IsLeft n m f

  -- what the call answered is what the chainstate answers there
  abbrev pub Explains : ℕ → ℕ → ℕ → Call → Type 0
  Explains seat n m (Submit bytes now r) = IsAt n m r (IsSubmission seat n m bytes now)
  Explains seat n m (Mark c r) = IsAt n m r (λ value. (n < m) × IsStep seat c m (reply.Mark value))
  Explains seat n m (Learn t v r) = IsAt n m r (IsLearnt seat n m t v)
  Explains seat n m (Judge bytes now r) = IsAt n m r (λ value. reply.Submit value ≡ reply_to o (command.Submit bytes now) valid (state_at (machine o valid) h m))
  Explains seat n m (Spent id r) = let M = machine o valid in
      IsAt n m r (λ value. value ≡ undo_in o id valid (state_at M h m))
  Explains seat n m (GetTxOut outpoint r) = IsAt n m r (λ value. value ≡ output_at o outpoint valid (state_at (machine o valid) h m))
  Explains seat n m (CoinsFrom above most r) = IsAt n m r (λ list. AreNext (coins_in o valid (state_at (machine o valid) h m)) above most list.items)
  Explains seat n m (GetBestBlockHash r) = IsAt n m r (λ value. value ≡ best_in o valid (state_at (machine o valid) h m))
  Explains seat n m (GetChainTips r) = IsAt n m r (λ tips. tips.items ≡ shown_tips o valid (state_at (machine o valid) h m))
  Explains seat n m (Journal first last r) = IsAt n m r (λ list. list.items ≡ drop first (take last (take m h)))
  Explains seat n m (Note x) = (m ≡ n) × (length x.seen ≡ n) × IsPrefix x.seen h
  Explains seat n m (Told x) = (m ≡ max n (length x.seen)) × IsPrefix x.seen h

  -- each call in its turn; the seat never goes back
  abbrev pub ExplainsAll : ℕ → ℕ → List Call → Type 0
  ExplainsAll seat n [] = Unit {0}
  ExplainsAll seat n (c ∷ cs) = (m : ℕ) × (n ≤ m) × (m ≤ length h) × Explains seat n m c × ExplainsAll seat m cs
