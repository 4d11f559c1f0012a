-- The verdict on an input, with a table of the valid signatures, as a test.
use Rattle.std.specs.Prelude.{ℕ, List, Bool, false}
use Rattle.txn.specs.Tx.{Tx}
use Rattle.signatures.specs.Known.{all_known}
use Rattle.signatures.specs.Triple.{Triples}
use Rattle.interp.specs.declared.flags.Flags.{Flags}
use Rattle.interp.specs.Answer.{Answer, Says, Wants}
use Rattle.interp.specs.Question.{question}
use Rattle.interp.specs.computed.Step.{verdict}

-- it is yes
abbrev pub is_yes : Answer Bool → Bool
is_yes (Says answer) = answer
is_yes (Wants t) = false

unfoldable pub accepts : Tx → ℕ → List ℕ → Flags → Triples → Bool
accepts tx input spent flags triples = is_yes (verdict (all_known triples) (question tx input spent flags))
