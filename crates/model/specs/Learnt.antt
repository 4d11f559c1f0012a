-- What a history tells of signatures.
use Rattle.std.specs.Prelude.{◌≡◌, List, [], ◌∷◌, Option, Some, None}
use Rattle.std.specs.FinSet as set
use Rattle.signatures.specs.Triple.{Triples}
use Rattle.signatures.specs.Known.{Known, Verdicts, all_known, verdict_in, with_verdict}
use Rattle.model.specs.declared.command.Command.{Command}
use Rattle.model.specs.declared.command.Command.TheVariants.{Submit, Invalidate, Reconsider, Precious, Learn}
use Rattle.model.specs.declared.entry.Entry.{Entry}

-- no verdict was found out
abbrev pub none_found : Verdicts
none_found = record { valid = set.empty; invalid = set.empty }

-- the verdicts behind a command
abbrev pub found_by : Verdicts → Command → Verdicts
found_by found (Submit bytes now) = found
found_by found (Invalidate id) = found
found_by found (Reconsider id) = found
found_by found (Precious id) = found
found_by found (Learn triple valid) = with_verdict found triple valid

-- behind these entries
abbrev pub found_from : Verdicts → List Entry → Verdicts
found_from found [] = found
found_from found (e ∷ es) = found_from (found_by found e.command) es

-- the verdicts that a history tells
abbrev pub found_in : List Entry → Verdicts
found_in es = found_from none_found es

-- what is known: with a table all, and else what was found out
abbrev pub known_by : Option Triples → Verdicts → Known
known_by None found = verdict_in found
known_by (Some table) found = all_known table

-- what is known after a history
abbrev pub known_after : Option Triples → List Entry → Known
known_after table es = known_by table (found_in es)

-- a command tells no verdict where one is known
abbrev pub IsNews : Known → Command → Type 0
IsNews known (Submit bytes now) = Unit {0}
IsNews known (Invalidate id) = Unit {0}
IsNews known (Reconsider id) = Unit {0}
IsNews known (Precious id) = Unit {0}
IsNews known (Learn triple valid) = known triple ≡ None

-- so it is of each entry at its place
abbrev pub AreNewsFrom : Option Triples → Verdicts → List Entry → Type 0
AreNewsFrom table found [] = Unit {0}
AreNewsFrom table found (e ∷ es) = IsNews (known_by table found) e.command × AreNewsFrom table (found_by found e.command) es

abbrev pub AreNews : Option Triples → List Entry → Type 0
AreNews table es = AreNewsFrom table none_found es
