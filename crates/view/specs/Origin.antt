-- What a history is of, what is known of signatures after it, and its chainstate.
use Rattle.std.specs.Prelude.{ℕ, List, Option, Some, None}
use Rattle.logbook.specs.Pages.{Book}
use Rattle.signatures.specs.Triple.{Triples}
use Rattle.signatures.specs.Known.{Known}
use Rattle.rules.specs.declared.params.Params.{Params}
use Rattle.model.specs.declared.entry.Entry.{Entry}
use Rattle.model.specs.Machine.{Machine}
use Rattle.model.specs.Chainstate.{chainstate}
use Rattle.model.specs.Learnt.{known_after}

-- the book that the history is in, the heights of soft forks, the table of all valid signatures, if there is one, and how
-- many seats there are
pub record Origin : Type 0 where
  pub book : Book
  pub params : Params
  pub table : Option Triples
  pub seats : ℕ

-- what a history is of, from its parts
abbrev pub origin_of : Book → Params → Option Triples → ℕ → Origin
origin_of book params table seats = record { book = book; params = params; table = table; seats = seats }

-- with a table
abbrev pub origin : Book → Params → Triples → ℕ → Origin
origin book params triples seats = origin_of book params (Some triples) seats

-- by need: no signature is known at first
abbrev pub origin_by_need : Book → Params → ℕ → Origin
origin_by_need book params seats = origin_of book params None seats

-- the chainstate under these heights, where these signatures are valid
abbrev pub machine : Origin → Triples → Machine
machine o valid = chainstate o.params valid

-- what is known of signatures after a history
abbrev pub known_in : Origin → List Entry → Known
known_in o journal = known_after o.table journal
