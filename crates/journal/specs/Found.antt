-- What a replay says of a journal, as it is printed.
use Rattle.std.specs.Prelude.{ℕ, List, ◌++◌, codes}
use Rattle.std.specs.Fmt.{decimal}
use Rattle.journal.specs.declared.audit.Finding.{Finding}
use Rattle.journal.specs.declared.audit.Finding.TheVariants.{Agrees, Differs}

-- `agrees`, or `line N` with the number of the first line that differs, from 1
abbrev pub text_of_finding : Finding → List ℕ
text_of_finding Agrees = codes "agrees\n"
text_of_finding (Differs line) = codes "line " ++ decimal line ++ codes "\n"
