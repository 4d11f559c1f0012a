use Rattle.std.proofs.Common.{◌≡◌, List, ◌++◌, ◌∷◌, [], true, Some, None, drop, refl, ap, sym, ◌∙◌, subst}
use Rattle.model.specs.declared.entry.Entry.{Entry}
use Rattle.view.specs.HistoryPrefix.{Beginning}
use Rattle.view.specs.Origin.{Origin}
use Rattle.view.specs.ViewState.{IsLegal}
use Rattle.view.specs.ViewState.{ViewState}
use Rattle.view.specs.declared.publication.Publication.{Publication}
use Rattle.coins.specs.Changes.{Changes}
use Rattle.node.specs.declared.published_history.owed_step.Pending.{Pending}
use Rattle.node.specs.inside.PublishedState.{PublishedState, AreDue, IsJournal, changes_of, entry_with_reply, is_owed, owed_by}
use Rattle.node.specs.inside.Knowledge.{IsKnowledge}
use Rattle.node.specs.inside.LastPlaces.{AreLastPlaces}
use Rattle.node.proofs.Knowledge.{knowledge-reply}
use Rattle.node.proofs.OwedEntry.{of_owed, replied_core}
use Rattle.node.proofs.Lasts.{lasts_reply}
use Rattle.node.proofs.Publications.{both_some, due_shut, follows, owed_again}
use Rattle.node.proofs.published_history.PublishedHistory.publish_owed.Goals as goal

pub attempt_to_publish-left-requires-clause-shown : goal.attempt_to_publish-left-requires-clause-shown
attempt_to_publish-left-requires-clause-shown g c _ _ =
    let i = c.self.invariant in
    let s = c.self.inside in
    let owed : is_owed s.pending ≡ true = ap (λ (h : PublishedState). h.owed) c.self.view_is ∙ c.requires.owed in
    let at : s.home ≡ Some c.in-Some-take.found = sym c.take.ensures.value ∙ c.in-Some-take.is in
    let k = rw at at i.4 in
    rw c.into_writer-writer.ensures (record {
      origin_is = refl;
      journal_is = k.0.journal_is ∙ sym (ap (λ (x : Beginning). x.entries) c.copy.ensures);
      exact = k.0.exact;
    })

pub attempt_to_publish-left-requires-clause-follows : goal.attempt_to_publish-left-requires-clause-follows
attempt_to_publish-left-requires-clause-follows g c _ _ =
    let i = c.self.invariant in
    let s = c.self.inside in
    let o : Origin = g.J.Naming.origin in
    let owed : is_owed s.pending ≡ true = ap (λ (h : PublishedState). h.owed) c.self.view_is ∙ c.requires.owed in
    let t : IsJournal true s.chain.note.entries s.journal.items = rw owed at i.2 in
    let at : s.home ≡ Some c.in-Some-take.found = sym c.take.ensures.value ∙ c.in-Some-take.is in
    let k = rw at at i.4 in
    let entry : ◌≡◌ {A = Entry} c.in-Some.brought.entry (entry_with_reply t.0 c.args.reply) =
    c.in-Some.ensures.brought.entry_is s.chain.note.entries (entry_with_reply t.0 None) (c.as_slice-entries.ensures.value ∙ t.1) in
    let legal : IsLegal o (s.chain.note.entries ++ entry_with_reply t.0 c.args.reply ∷ []) =
    subst (λ (h : PublishedState). IsLegal h.origin (s.chain.note.entries ++ entry_with_reply t.0 c.args.reply ∷ [])) (sym c.self.view_is)
    (c.requires.legal s.chain.note.entries (entry_with_reply t.0 None) (ap (λ (h : PublishedState). h.journal) (sym c.self.view_is) ∙ t.1)) in
    let info = c.in-Some.ensures.brought.info_is in
    rw c.into_writer-writer.ensures (
    follows s.pending c.in-Some-take.found.writer.desk.shown.value (drop c.in-Some-take.found.writer.behind c.in-Some-take.found.writer.log.items) o s.chain.note.entries s.journal.items t.0 _ owed k.0 k.1 t.1
    (of_owed o s.chain.core s.chain.note.entries s.journal.items t.0 c.args.reply i.0 t.1 legal s.pending _ c.is_new-is_new.ensures (ap (λ (x : Beginning). x.book) c.copy.ensures ∙ i.5) (ap (λ (x : Beginning). x.entries) c.copy.ensures) entry
    (λ n. c.in-Some.ensures.may (c.is_new-is_new.ensures ∙ n)) (c.into_changes.ensures ∙ ap changes_of c.replace.ensures.value) info)
    )

pub attempt_to_publish-left-requires-clause-due : goal.attempt_to_publish-left-requires-clause-due
attempt_to_publish-left-requires-clause-due g c _ _ =
    let i = c.self.invariant in
    let s = c.self.inside in
    let owed : is_owed s.pending ≡ true = ap (λ (h : PublishedState). h.owed) c.self.view_is ∙ c.requires.owed in
    let t : IsJournal true s.chain.note.entries s.journal.items = rw owed at i.2 in
    let at : s.home ≡ Some c.in-Some-take.found = sym c.take.ensures.value ∙ c.in-Some-take.is in
    let k = rw at at i.4 in
    let entry : ◌≡◌ {A = Entry} c.in-Some.brought.entry (entry_with_reply t.0 c.args.reply) =
    c.in-Some.ensures.brought.entry_is s.chain.note.entries (entry_with_reply t.0 None) (c.as_slice-entries.ensures.value ∙ t.1) in
    let before = ap (λ (x : Beginning). x.entries) c.copy.ensures in
    let whole : c.copy.result.entries ++ entry_with_reply c.in-Some.brought.entry None ∷ [] ≡ s.journal.items =
    (λ j. before j ++ entry_with_reply (entry j) None ∷ []) ∙ sym t.1 in
    let changes : c.into_changes.result ≡ changes_of s.pending = c.into_changes.ensures ∙ ap changes_of c.replace.ensures.value in
    let same : owed_by c.is_new-is_new.result c.into_changes.result ≡ s.pending = (λ j. owed_by (c.is_new-is_new.ensures j) (changes j)) ∙ owed_again s.pending owed in
    let found = c.in-Some-take.found.writer in
    let there : AreDue (owed_by c.is_new-is_new.result c.into_changes.result) found.desk.shown.value (drop found.behind found.log.items) (c.copy.result.entries ++ entry_with_reply c.in-Some.brought.entry None ∷ []) =
    subst (λ (d : Pending). AreDue d found.desk.shown.value (drop found.behind found.log.items) (c.copy.result.entries ++ entry_with_reply c.in-Some.brought.entry None ∷ [])) (sym same)
    (subst (λ (l : List Entry). AreDue s.pending found.desk.shown.value (drop found.behind found.log.items) l) (sym whole) k.1) in
    rw c.into_writer-writer.ensures there

pub invariant_of-self-then-is_owed : goal.invariant_of-self-then-is_owed
invariant_of-self-then-is_owed g c =
    let i = c.self.invariant in
    let s = c.self.inside in
    let o : Origin = g.J.Naming.origin in
    let owed : is_owed s.pending ≡ true = ap (λ (h : PublishedState). h.owed) c.self.view_is ∙ c.requires.owed in
    let t : IsJournal true s.chain.note.entries s.journal.items = rw owed at i.2 in
    let at : s.home ≡ Some c.in-Some-take.found = sym c.take.ensures.value ∙ c.in-Some-take.is in
    let k = rw at at i.4 in
    let entry : ◌≡◌ {A = Entry} c.in-Some.brought.entry (entry_with_reply t.0 c.args.reply) =
    c.in-Some.ensures.brought.entry_is s.chain.note.entries (entry_with_reply t.0 None) (c.as_slice-entries.ensures.value ∙ t.1) in
    let book : c.attempt_to_publish-left.result.note.book ≡ s.chain.note.book = c.attempt_to_publish-left.ensures.book ∙ ap (λ (x : Beginning). x.book) c.copy.ensures in
    let of : c.into_writer-writer.result.desk.shown.value.origin ≡ o = rw c.into_writer-writer.ensures k.0.origin_is in
    let before = ap (λ (x : Beginning). x.entries) c.copy.ensures in
    let whole : c.copy.result.entries ++ entry_with_reply c.in-Some.brought.entry None ∷ [] ≡ s.journal.items =
    (λ j. before j ++ entry_with_reply (entry j) None ∷ []) ∙ sym t.1 in
    let still = sym c.is_owed.ensures ∙ c.if-is_owed.true in
    let seen : c.attempt_to_publish-left.result.note.entries ≡ s.chain.note.entries = rw still at c.attempt_to_publish-left.ensures.note ∙ before in
    let shown = rw of at c.attempt_to_publish-left.ensures.shown in
    let due = rw whole at c.attempt_to_publish-left.ensures.due in (
      i.0,
      i.1,
      rw (still, seen) t,
      i.3,
      both_some _ _ _ c.attempt_to_publish-left.result.home (λ h a b. (a, b)) shown due,
      book ∙ i.5,
      i.6,
      i.7,
    )

pub invariant_of-self-2 : goal.invariant_of-self-2
invariant_of-self-2 g c =
    let i = c.self.invariant in
    let s = c.self.inside in
    let o : Origin = g.J.Naming.origin in
    let owed : is_owed s.pending ≡ true = ap (λ (h : PublishedState). h.owed) c.self.view_is ∙ c.requires.owed in
    let t : IsJournal true s.chain.note.entries s.journal.items = rw owed at i.2 in
    let at : s.home ≡ Some c.in-Some-take.found = sym c.take.ensures.value ∙ c.in-Some-take.is in
    let k = rw at at i.4 in
    let entry : ◌≡◌ {A = Entry} c.in-Some.brought.entry (entry_with_reply t.0 c.args.reply) =
    c.in-Some.ensures.brought.entry_is s.chain.note.entries (entry_with_reply t.0 None) (c.as_slice-entries.ensures.value ∙ t.1) in
    let legal : IsLegal o (s.chain.note.entries ++ entry_with_reply t.0 c.args.reply ∷ []) =
    subst (λ (h : PublishedState). IsLegal h.origin (s.chain.note.entries ++ entry_with_reply t.0 c.args.reply ∷ [])) (sym c.self.view_is)
    (c.requires.legal s.chain.note.entries (entry_with_reply t.0 None) (ap (λ (h : PublishedState). h.journal) (sym c.self.view_is) ∙ t.1)) in
    let book : c.attempt_to_publish-left.result.note.book ≡ s.chain.note.book = c.attempt_to_publish-left.ensures.book ∙ ap (λ (x : Beginning). x.book) c.copy.ensures in
    let of : c.into_writer-writer.result.desk.shown.value.origin ≡ o = rw c.into_writer-writer.ensures k.0.origin_is in
    let before = ap (λ (x : Beginning). x.entries) c.copy.ensures in
    let done = sym c.is_owed.ensures ∙ c.if-is_owed.false in
    let seen : c.attempt_to_publish-left.result.note.entries ≡ s.chain.note.entries ++ entry_with_reply t.0 c.args.reply ∷ [] =
    rw done at c.attempt_to_publish-left.ensures.note ∙ (λ j. before j ++ entry j ∷ []) in
    let items : c.put_reply.new.journal.items ≡ s.chain.note.entries ++ entry_with_reply t.0 c.args.reply ∷ [] = c.put_reply.ensures s.chain.note.entries (entry_with_reply t.0 None) t.1 in
    let shown = rw of at c.attempt_to_publish-left.ensures.shown in
    rw items (
      replied_core o s.chain.core s.chain.note.entries s.journal.items t.0 c.args.reply i.0 t.1 legal,
      i.1,
      rw done (sym seen),
      i.3,
      both_some _ _ _ c.attempt_to_publish-left.result.home (λ h a b. (a, due_shut c.attempt_to_publish-left.result.pending h.writer.desk.shown.value _ _ _ done b)) shown c.attempt_to_publish-left.ensures.due,
      book ∙ i.5,
      knowledge-reply o s.chain.known s.chain.note.entries t.0 c.args.reply (subst (λ (l : List Entry). IsKnowledge o s.chain.known l) t.1 i.6),
      lasts_reply o.seats s.last s.chain.note.entries (entry_with_reply t.0 None) c.args.reply (subst (λ (l : List Entry). AreLastPlaces o.seats s.last l) t.1 i.7),
    )
