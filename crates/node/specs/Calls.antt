-- What the calls of a seat answer.
use Rattle.std.specs.Prelude.{◌≡◌, ℕ, Bool, not, List, ◌∷◌, [], ◌++◌, length, Some, None}
use Rattle.signatures.specs.Known.{Under}
use Rattle.signatures.specs.Triple.{Triple, Triples}
use Rattle.block.specs.BlockOfBytes.{block_of_bytes}
use Rattle.model.specs.declared.command.Command.{Command}
use Rattle.model.specs.declared.command.Command.TheVariants as command
use Rattle.model.specs.declared.entry.Entry.{Entry}
use Rattle.model.specs.declared.reply.MarkReply.TheVariants.{Done}
use Rattle.model.specs.declared.reply.Reply.TheVariants as reply
use Rattle.model.specs.declared.reply.SubmitReply.{SubmitReply}
use Rattle.model.specs.declared.reply.SubmitReply.TheVariants.{DecodeFailed}
use Rattle.model.specs.Regtest.{regtest}
use Rattle.model.specs.Settle.{active}
use Rattle.activate.specs.CoreState.{CoreState}
use Rattle.activate.specs.Wants.{AreWantedByStep}
use Rattle.view.specs.Origin.{Origin, known_in}
use Rattle.view.specs.ViewState.{state_after}
use Rattle.node.specs.declared.answer.Learning.{Learning}
use Rattle.node.specs.declared.answer.Learning.TheVariants as learning
use Rattle.node.specs.declared.fault.Fault.{Fault}
use Rattle.node.specs.declared.fault.Fault.TheVariants.{Memory, Owed, Closed, Unknown}
use Rattle.node.specs.Pass.{Pass, IsWrite, IsNoStep, owed_entry}

-- the reply of a step is in the history; bytes that are no block are nowhere in it
abbrev pub IsSubmitAnswer : Pass → Pass → List ℕ → ℕ → ℕ → SubmitReply → Type 0
IsSubmitAnswer p q bytes now at DecodeFailed = (block_of_bytes bytes ≡ None) × IsNoStep p q at
IsSubmitAnswer p q bytes now at value = IsWrite p q (command.Submit bytes now) at (reply.Submit value)

-- the chainstate after a history, where these signatures are valid
pub record IsCoreWith (o : Origin) (valid : Triples) (es : List Entry) (c : CoreState) : Type 0 where
  pub state_is : c.state ≡ state_after o valid es
  pub active_is : c.active ≡ active (regtest o.params valid) c.state

-- after these entries the scripts that a command runs want these signatures: there is one at least, no verdict on any of them
-- is known there, and blocks that the command tries ask for them under every set that agrees with what is known
pub record AreWanted (o : Origin) (es : List Entry) (c : Command) (list : List Triple) : Type 0 where
  pub core : CoreState
  pub params_are : core.params ≡ o.params
  pub core_is : Under (known_in o es) (λ valid. IsCoreWith o valid es core)
  pub wanted : AreWantedByStep core c (known_in o es) list

-- this verdict on the triple is known after all that the seat has then seen, and it wants nothing
pub record IsVerdict (p q : Pass) (t : Triple) (valid : Bool) (at : ℕ) : Type 0 where
  pub at_is : at ≡ length q.seen
  pub known_is : known_in p.origin q.seen t ≡ Some valid
  pub mine_is : q.mine ≡ p.mine
  pub wants_is : q.wants ≡ []

-- what the seat has seen stays, but where signatures are wanted; only an owed step is the seat's
abbrev pub IsWriteFault : Pass → Pass → Command → Fault → Type 0
IsWriteFault p q c Memory = q ≡ p
IsWriteFault p q c Owed = (q.seen ≡ p.seen) × (q.mine ≡ p.mine ++ owed_entry p.number c ∷ []) × (q.wants ≡ [])
IsWriteFault p q c Closed = q ≡ p
IsWriteFault p q c Unknown = (q.mine ≡ p.mine) × AreWanted p.origin q.seen c q.wants

-- a read is never owed
abbrev pub IsReadFault : Pass → Pass → Fault → Type 0
IsReadFault p q Memory = q ≡ p
IsReadFault p q Owed = ⊥
IsReadFault p q Unknown = ⊥
IsReadFault p q Closed = q ≡ p

-- a dry run is never owed; what the seat has seen stays, but where signatures are wanted
abbrev pub IsJudgeFault : Pass → Pass → Command → Fault → Type 0
IsJudgeFault p q c Memory = q ≡ p
IsJudgeFault p q c Owed = ⊥
IsJudgeFault p q c Closed = q ≡ p
IsJudgeFault p q c Unknown = (q.mine ≡ p.mine) × AreWanted p.origin q.seen c q.wants

-- one that takes no memory doesn't lack it either
abbrev pub IsClosedFault : Pass → Pass → Fault → Type 0
IsClosedFault p q Memory = ⊥
IsClosedFault p q Owed = ⊥
IsClosedFault p q Unknown = ⊥
IsClosedFault p q Closed = q ≡ p

-- a verdict is a step of its own where none is known; else it is the one that is known, or contradicts it, and takes no step
abbrev pub IsLearnAnswer : Pass → Pass → Triple → Bool → ℕ → Learning → Type 0
IsLearnAnswer p q t valid at learning.New = IsWrite p q (command.Learn t valid) at (reply.Mark Done)
IsLearnAnswer p q t valid at learning.Known = IsVerdict p q t valid at
IsLearnAnswer p q t valid at learning.Contradicted = IsVerdict p q t (not valid) at
