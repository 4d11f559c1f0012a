-- What a checkpoint says of a history, and a history that goes on from one.
use Rattle.std.specs.Prelude.{◌≡◌, ℕ, List, length}
use Rattle.signatures.specs.Known.{Known, Under, Verdicts}
use Rattle.block.specs.declared.block.Block.{Block}
use Rattle.tree.specs.State.{State, opening}
use Rattle.model.specs.Machine.{Machine}
use Rattle.model.specs.declared.entry.Entry.{Entry}
use Rattle.model.specs.History.{Legal}
use Rattle.model.specs.Learnt.{none_found, found_in, found_from, known_by, AreNewsFrom}
use Rattle.view.specs.Origin.{Origin, known_in, machine}
use Rattle.view.specs.ViewState.{state_after, IsLegal}

-- how many entries came before, the state that they left, and the verdicts that they told
pub record Checkpoint : Type 0 where
  pub count : ℕ
  pub state : State Block
  pub found : Verdicts

-- it is what this history leaves, under every set that agrees
pub record IsCheckpointOf (o : Origin) (journal : List Entry) (c : Checkpoint) : Type 0 where
  pub count_is : c.count ≡ length journal
  pub state_is : Under (known_in o journal) (λ valid. state_after o valid journal ≡ c.state)
  pub found_is : found_in journal ≡ c.found

-- the same chainstate, opened in this state
abbrev pub opened_in : (m : Machine) → m.State → Machine
opened_in m s = record { State = m.State; opening = s; step = m.step; coin = m.coin; best = m.best; tips = m.tips }

-- what is known after these entries behind a checkpoint
abbrev pub known_from : Origin → Checkpoint → List Entry → Known
known_from o c tail = known_by o.table (found_from c.found tail)

-- the entries may come behind a checkpoint
pub record IsLegalFrom (o : Origin) (c : Checkpoint) (tail : List Entry) : Type 0 where
  pub news : AreNewsFrom o.table c.found tail
  pub legal : Under (known_from o c tail) (λ valid. Legal (opened_in (machine o valid) c.state) o.seats tail)

-- before any entry
abbrev pub genesis : Checkpoint
genesis = record { count = 0; state = opening; found = none_found }

-- some legal history leaves it
abbrev pub IsReached : Origin → Checkpoint → Type 0
IsReached o c = (journal : List Entry) × IsLegal o journal × IsCheckpointOf o journal c
