-- A publication of the entry that is owed.
use Rattle.std.proofs.Common.{◌≡◌, false, List, [], ◌∷◌, ◌++◌, Option, None, ap, sym, ◌∙◌, subst}
use Rattle.signatures.specs.Known.{Agrees}
use Rattle.signatures.specs.Triple.{Triples}
use Rattle.model.specs.declared.reply.Reply.{Reply}
use Rattle.model.specs.declared.entry.Entry.{Entry}
use Rattle.activate.specs.CoreState.{CoreState, Follows}
use Rattle.view.specs.Origin.{Origin, known_in}
use Rattle.view.specs.ViewState.{IsInfo, IsLegal}
use Rattle.view.specs.declared.publication.Publication.{Publication}
use Rattle.node.specs.inside.Brought.{IsInfoOfCore}
use Rattle.node.specs.declared.published_history.owed_step.Pending.{Pending}
use Rattle.node.specs.inside.PublishedState.{IsCoreOf, changes_of, entry_with_reply, is_new}
use Rattle.node.proofs.Cores.{height_told, tells, with_reply}
use Rattle.node.proofs.Publications.{IsOfOwed}

module _ (o : Origin) (core : CoreState) (seen journal : List Entry) (e : Entry) (reply : Option Reply) (kept : IsCoreOf o core journal) (is : journal ≡ seen ++ entry_with_reply e None ∷ [])
    (legal : IsLegal o (seen ++ entry_with_reply e reply ∷ [])) where
  -- the history with the reply
  pub replied_core : IsCoreOf o core (seen ++ entry_with_reply e reply ∷ [])
  replied_core = with_reply o core seen (entry_with_reply e None) reply legal (subst (λ (l : List Entry). IsCoreOf o core l) is kept)

  pub of_owed : (d : Pending) (p : Publication) → p.is_new ≡ is_new d → p.before.book ≡ o.book → p.before.entries ≡ seen → p.entry ≡ entry_with_reply e reply → (is_new d ≡ false → reply ≡ None) → p.changes ≡ changes_of d
      → ((valid : Triples) → Follows core valid → IsInfoOfCore valid core p.info) → IsOfOwed d o seen e p
  of_owed d p new_is book before entry none changes_are told = record {
    new_is = new_is;
    book_is = book;
    before_is = before;
    entry_is = ap (λ (f : Entry). entry_with_reply f None) entry;
    none = λ n. ap (λ (f : Entry). f.reply) entry ∙ none n;
    changes_are = changes_are;
    legal = subst (λ (f : Entry). IsLegal o (seen ++ f ∷ [])) (sym entry) legal;
    info_is = λ valid agrees.
        let there : Agrees (known_in o (seen ++ entry_with_reply e reply ∷ [])) valid = subst (λ (f : Entry). Agrees (known_in o (seen ++ f ∷ [])) valid) entry agrees in
        let follows = (replied_core.theirs valid there).is_chainstate.follows in
        subst (λ (f : Entry). IsInfo o valid (seen ++ f ∷ []) p.info) (sym entry) (tells o valid core (seen ++ entry_with_reply e reply ∷ []) p.info replied_core there (told valid follows));
    height_fits = height_told o core (seen ++ entry_with_reply e reply ∷ []) p.info replied_core told;
  }
