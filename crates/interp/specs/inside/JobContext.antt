-- What the scripts of a question can look at.
use Rattle.signatures.specs.Triple.{Triples}
use Rattle.interp.specs.Question.{Question}
use Rattle.interp.specs.ScriptContext.{Spending, spending_of}

-- its transaction, its input and its rules, with the valid signatures
abbrev pub spending_for : Question → Triples → Spending
spending_for q triples = spending_of q.tx q.input q.flags triples
