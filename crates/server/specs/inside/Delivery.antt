-- What is kept while answers go out.
use Rattle.std.specs.Prelude.{◌≡◌, ◌+◌, ℕ, List, length}
use mathlib.Core.List.{IsPrefix}
use Rattle.durable.specs.declared.log.Log.{Log}
use Rattle.durable.specs.Crash.{Event}
use Rattle.durable.specs.KeptSteps.{KeepsBetween}
use Rattle.durable.specs.Log.{history, heard}

-- The first log's history begins the second's, which a crash at any moment between them leaves kept.
abbrev pub GoesOn : {H F : Type 0} → (H → List Event) → Log H F → Log H F → Type 0
GoesOn calls log now = IsPrefix (history calls log) (history calls now) × KeepsBetween (history calls now) (calls log.host) (calls now.host)

-- The log's history begins one that a crash at any moment, up to the last call of its host, leaves kept.
abbrev pub KeepsToTheEnd : {H F : Type 0} → (H → List Event) → Log H F → H → Type 0
KeepsToTheEnd calls log host = (longer : List (List ℕ)) × IsPrefix (history calls log) longer × KeepsBetween longer (calls log.host) (calls host)

-- So many lines more wait, and nobody was told of anything.
abbrev pub Appends : {H F : Type 0} → (H → List Event) → Log H F → Log H F → ℕ → Type 0
Appends calls log now n = (length (history calls now) ≡ length (history calls log) + n) × (heard calls now ≡ heard calls log)
