-- The history of a node of many seats, as it lies under the lock, and what is published of it.
use Rattle.std.specs.Prelude.{◌≡◌, ℕ, Bool, true, false, List, [], ◌∷◌, ◌++◌, Option, None, IfSome, is_none}
use Rattle.signatures.specs.Known.{Known, Under}
use Rattle.signatures.specs.Triple.{Triples}
use Rattle.coins.specs.Changes.{Changes, AreChanges}
use Rattle.model.specs.declared.command.Command.{Command}
use Rattle.model.specs.declared.reply.Reply.{Reply}
use Rattle.model.specs.declared.entry.Entry.{Entry}
use Rattle.model.specs.Commands.{outcome}
use Rattle.model.specs.Learnt.{IsNews}
use Rattle.model.specs.History.{entry_of}
use Rattle.model.specs.Regtest.{regtest}
use Rattle.activate.specs.CoreState.{CoreState, WithCoins}
use Rattle.activate.specs.CoreState as core_state
use Rattle.view.specs.HistoryPrefix.{Beginning}
use Rattle.view.specs.Origin.{Origin, known_in}
use Rattle.view.specs.ViewState.{ViewState, IsExact, IsLegal, coins_after, state_after}
use Rattle.view.specs.NextPublications.{AllFollow}
use Rattle.view.specs.declared.publication.Publication.{Publication}
use Rattle.node.specs.declared.published_history.knowledge.Knowledge.{Knowledge}
use Rattle.node.specs.declared.published_history.owed_step.Pending.{Pending}
use Rattle.node.specs.declared.published_history.owed_step.Pending.TheVariants as pending
use Rattle.node.specs.Told.{reply_to}
use Rattle.node.specs.inside.Kept.{KeepsHistory, IsReplyTo, IsUndecodable, is_step}
use Rattle.node.specs.inside.Knowledge.{IsKnowledge}

-- what the history is of, its entries, and whether the last of them is owed to readers, who don't see it yet
pub record PublishedState : Type 0 where
  pub origin : Origin
  pub journal : List Entry
  pub owed : Bool

-- a core with the coins that its active branch leaves
abbrev pub with_its_coins : CoreState → WithCoins
with_its_coins c = record { core = c; coins = core_state.coins_of c }

-- the entries are a legal history, and the core is as they lead to
abbrev pub IsCoreOf : Origin → CoreState → List Entry → Type 0
IsCoreOf o core journal = KeepsHistory o (with_its_coins core) journal

-- the core went by the step of a command, under these valid signatures: this is the reply, and these coins change
pub record IsCoreStep (triples : Triples) (old new : CoreState) (c : Command) (r : Reply) (changes : Changes) : Type 0 where
  pub outcome_is : (new.state, r) ≡ outcome (regtest old.params triples) old.state c
  pub changes_are : AreChanges (core_state.coins_of old) (core_state.coins_of new) changes
  pub params_are : new.params ≡ old.params
  pub follows : core_state.Follows new triples

-- so it is under every set that agrees with what is known
abbrev pub AreCoreSteps : Known → CoreState → CoreState → Command → Reply → Changes → Type 0
AreCoreSteps known old new c r changes = Under known (λ valid. IsCoreStep valid old new c r changes)

-- the core gives this reply to a command, under every set that agrees with what is known
abbrev pub IsCoreReply : Known → CoreState → Command → Reply → Type 0
IsCoreReply known core c r = Under known (λ valid. r ≡ (outcome (regtest core.params valid) core.state c).1)

-- these entries lead to where a command gets this reply
abbrev pub IsReplyAfter : Origin → List Entry → Command → Reply → Type 0
IsReplyAfter o es c r = Under (known_in o es) (λ valid. r ≡ reply_to o c valid (state_after o valid es))

-- a core, what is known of signatures, and the history that both are after
pub record IsLockedAt (o : Origin) (core : CoreState) (known : Knowledge) (note : Beginning) : Type 0 where
  pub core_is : IsCoreOf o core note.entries
  pub known_is : IsKnowledge o known note.entries
  pub book_is : note.book ≡ o.book

-- the entry, with this reply
abbrev pub entry_with_reply : Entry → Option Reply → Entry
entry_with_reply e r = entry_of e.seat e.command r

-- of the entries that are published and the journal: it has the same, or one more, whose reply is owed
abbrev pub IsJournal : Bool → List Entry → List Entry → Type 0
IsJournal false seen journal = journal ≡ seen
IsJournal true seen journal = (e : Entry) × (journal ≡ seen ++ entry_with_reply e None ∷ [])

-- readers see these entries, with what stands after them
pub record Shows (x : ViewState) (o : Origin) (seen : List Entry) : Type 0 where
  pub origin_is : x.origin ≡ o
  pub journal_is : x.journal ≡ seen
  pub exact : IsExact x

-- whether a step is owed, whether no publication has it yet, and the changes that none has
abbrev pub is_owed : Pending → Bool
is_owed pending.None = false
is_owed (pending.New changes) = true
is_owed pending.Again = true

abbrev pub is_new : Pending → Bool
is_new pending.None = false
is_new (pending.New changes) = true
is_new pending.Again = false

abbrev pub changes_of : Pending → Changes
changes_of pending.None = []
changes_of (pending.New changes) = changes
changes_of pending.Again = []

-- what is owed where a publication of it comes back
abbrev pub owed_by : Bool → Changes → Pending
owed_by true changes = pending.New changes
owed_by false changes = pending.Again

-- of what readers see, what waits to be published, and the journal: nothing waits where no step is owed, or none of it yet, and
-- these coins change; or publications of its entry wait
abbrev pub AreDue : Pending → ViewState → List Publication → List Entry → Type 0
AreDue pending.None x queued journal = queued ≡ []
AreDue (pending.New changes) x queued journal =
    (queued ≡ []) × Under (known_in x.origin journal) (λ valid. AreChanges x.coins (coins_after x.origin valid journal) changes)
AreDue pending.Again x queued journal =
    (p : Publication) × (ps : List Publication) × (queued ≡ p ∷ ps) × AllFollow x (p ∷ ps)
    × (journal ≡ x.journal ++ entry_with_reply p.entry None ∷ [])

-- one entry more, which is owed where it has no reply
abbrev pub with_entry : PublishedState → ℕ → Command → Option Reply → PublishedState
with_entry h number c r = record h { journal = h.journal ++ entry_of number c r ∷ []; owed = is_none r }

-- the reply is one to the command, and a step's
abbrev pub IsStepReply : Command → Reply → Type 0
IsStepReply c r = (is_step r ≡ true) × IsReplyTo c r

-- the step of a command is entered, with this reply, or owed
abbrev pub IsStepAnswer : PublishedState → PublishedState → ℕ → Command → Option Reply → Type 0
IsStepAnswer h k number c r = (k ≡ with_entry h number c r) × IfSome r (IsStepReply c)

-- a command may take its step: none is owed, it tells no verdict that is known, and it isn't a submission of bytes that are
-- no block
pub record IsReady (o : Origin) (h : PublishedState) (c : Command) : Type 0 where
  pub shown : h.owed ≡ false
  pub news : IsNews (known_in o h.journal) c
  pub decodable : ¬ IsUndecodable c

-- no step was taken yet
abbrev pub opening_state : Origin → PublishedState
opening_state o = record { origin = o; journal = []; owed = false }
