-- Which publications may come after a view.
use Rattle.std.specs.Prelude.{◌≡◌, ◌<◌, true, false, List, [], ◌∷◌, ◌++◌, Some, None}
use Rattle.signatures.specs.Triple.{Triples}
use Rattle.signatures.specs.Known.{Under}
use Rattle.coins.specs.Changes.{AreChanges}
use Rattle.tree.specs.Limits.{max_blocks}
use Rattle.model.specs.declared.entry.Entry.{Entry}
use Rattle.model.specs.History.{entry_of}
use Rattle.view.specs.declared.publication.Publication.{Publication}
use Rattle.view.specs.Origin.{known_in}
use Rattle.view.specs.ViewState.{ViewState, IsInfo, IsLegal, coins_after, after_publication}

-- its list names the coins that change and no other, and its best block, height and tips are those after its entry, where
-- these signatures are valid
pub record BringsWith (valid : Triples) (x : ViewState) (p : Publication) : Type 0 where
  pub changes_are : AreChanges x.coins (coins_after x.origin valid (x.journal ++ p.entry ∷ [])) p.changes
  pub info_is : IsInfo x.origin valid (x.journal ++ p.entry ∷ []) p.info

-- it brings the next entry: the history with it is legal, and it brings what changes under every set that agrees
pub record IsNext (x : ViewState) (p : Publication) : Type 0 where
  pub is_new : p.is_new ≡ true
  pub book_is : p.before.book ≡ x.origin.book
  pub before_is : p.before.entries ≡ x.journal
  pub legal : IsLegal x.origin (x.journal ++ p.entry ∷ [])
  pub brings : Under (known_in x.origin (x.journal ++ p.entry ∷ [])) (λ valid. BringsWith valid x p)
  pub height_fits : p.info.height < max_blocks

-- it brings the last entry again, its reply now owed
pub record IsOwed (x : ViewState) (p : Publication) : Type 0 where
  pub is_new : p.is_new ≡ false
  pub book_is : p.before.book ≡ x.origin.book
  pub before_is : p.before.entries ≡ x.before
  pub entry_is : (e : Entry) × (x.last ≡ Some e) × (p.entry ≡ entry_of e.seat e.command None)
  pub info_is : p.info ≡ x.info

-- each of them brings the last entry again
abbrev pub AllOwed : ViewState → List Publication → Type 0
AllOwed x [] = Unit {0}
AllOwed x (p ∷ ps) = IsOwed x p × AllOwed (after_publication x p) ps

-- the first of them brings the next entry, and the others bring it again
abbrev pub AllFollow : ViewState → List Publication → Type 0
AllFollow x [] = Unit {0}
AllFollow x (p ∷ ps) = IsNext x p × AllOwed (after_publication x p) ps
