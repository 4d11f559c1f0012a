-- Beginnings of the one history, and the rule of the word that counts its entries.
use Rattle.std.specs.Prelude.{◌≡◌, true, List, [], ◌∷◌, length}
use Rattle.logbook.specs.Pages.{Book, Cell, Named}
use Rattle.model.specs.declared.entry.Entry.{Entry}

-- which history it is, and a beginning of it
pub record Beginning : Type 0 where
  pub book : Book
  pub entries : List Entry

-- the word that counts the entries of the book
abbrev pub count_of : Book → Named
count_of b = record { tracked = true; key = 0; book = b }

-- the first word is the length of the history; a book has two words, of which this one leaves the second at 0
abbrev pub Counts : List Cell → List Entry → Type 0
Counts cells entries = cells ≡ (length entries, true) ∷ (0, true) ∷ []
