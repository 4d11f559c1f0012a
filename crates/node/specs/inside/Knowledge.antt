-- What is known of signatures under the lock.
use Rattle.std.specs.Prelude.{◌≡◌, Bool, List, None, Some}
use Rattle.std.specs.Arc.{arc_value}
use Rattle.signatures.specs.Known.{Known, all_known, verdict_in, with_verdict}
use Rattle.signatures.specs.Triple.{Triple}
use Rattle.model.specs.declared.command.Command.{Command}
use Rattle.model.specs.declared.command.Command.TheVariants as command
use Rattle.model.specs.declared.entry.Entry.{Entry}
use Rattle.model.specs.Learnt.{found_in}
use Rattle.view.specs.Origin.{Origin}
use Rattle.node.specs.declared.published_history.knowledge.Knowledge.{Knowledge}
use Rattle.node.specs.declared.published_history.knowledge.Knowledge.TheVariants.{Table, Found}

-- the verdict on each triple of which one is known
abbrev pub known_of : Knowledge → Known
known_of (Table table) = all_known (arc_value table)
known_of (Found found) = verdict_in found

-- one verdict more; a table has all
abbrev pub with_learnt : Knowledge → Triple → Bool → Knowledge
with_learnt (Table table) t valid = Table table
with_learnt (Found found) t valid = Found (with_verdict found t valid)

-- it is what is known after a history
abbrev pub IsKnowledge : Origin → Knowledge → List Entry → Type 0
IsKnowledge o (Table table) es = o.table ≡ Some (arc_value table)
IsKnowledge o (Found found) es = (o.table ≡ None) × (found ≡ found_in es)

-- behind a command
abbrev pub known_behind : Knowledge → Command → Knowledge
known_behind k (command.Submit bytes now) = k
known_behind k (command.Invalidate id) = k
known_behind k (command.Reconsider id) = k
known_behind k (command.Precious id) = k
known_behind k (command.Learn t valid) = with_learnt k t valid
