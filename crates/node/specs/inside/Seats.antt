-- What a seat finds as it enters the published view.
use Rattle.std.specs.Prelude.{◌≡◌, List, Option}
use mathlib.Core.List.{IsPrefix}
use Rattle.signatures.specs.Triple.{Triples}
use Rattle.rules.specs.declared.params.Params.{Params}
use Rattle.model.specs.declared.entry.Entry.{Entry}
use Rattle.view.specs.HistoryPrefix.{Beginning}
use Rattle.view.specs.Origin.{Origin}
use Rattle.view.specs.ViewState.{ViewState, IsExact, IsLegal}

-- the view is exact, of this origin, and goes on from these entries; the note has all of its own
pub record IsFound (o : Origin) (seen : List Entry) (x : ViewState) (note : Beginning) : Type 0 where
  pub exact : IsExact x
  pub origin_is : x.origin ≡ o
  pub book_is : note.book ≡ o.book
  pub entries_are : note.entries ≡ x.journal
  pub grows : IsPrefix seen note.entries

-- what is kept beside a seat is of this origin, and what was seen is legal
pub record IsAt (o : Origin) (params : Params) (table : Option Triples) (seen : Beginning) : Type 0 where
  pub params_are : params ≡ o.params
  pub table_is : table ≡ o.table
  pub book_is : seen.book ≡ o.book
  pub legal : IsLegal o seen.entries
