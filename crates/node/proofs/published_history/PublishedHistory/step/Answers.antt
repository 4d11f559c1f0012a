use Rattle.std.proofs.Common.{◌≡◌, ℕ, ◌<◌, ◌+◌, ◌++◌, ◌∷◌, [], List, length, set, true, false, Some, None, refl, ap, sym, ◌∙◌, subst, arith}
use Rattle.signatures.specs.Known.{Under}
use Rattle.model.specs.declared.command.Command.{Command}
use Rattle.model.specs.declared.entry.Entry.{Entry}
use Rattle.model.specs.History.{entry_of}
use Rattle.model.specs.Learnt.{IsNews}
use Rattle.model.specs.PreparedCommand.{command_of}
use Rattle.view.specs.Origin.{Origin, known_in}
use Rattle.view.specs.ViewState.{IsLegal}
use Rattle.node.specs.inside.Kept.{IsReplyTo, IsUndecodable, is_step}
use Rattle.node.specs.inside.LastPlaces.{AreLastPlaces}
use Rattle.node.specs.inside.PublishedState.{PublishedState, IsCoreStep, is_owed, with_entry}
use Rattle.node.specs.inside.Refusal.{IsWantAfter}
use Rattle.node.proofs.Cores.{step_reply, step_taken, replied_legal, owed_core, owed_changes}
use Rattle.node.proofs.Knowledge.{agrees_here, knowledge-push, wanted_after}
use Rattle.node.proofs.Lasts.{lasts_push}
use Rattle.node.proofs.Publications.{due_taken, if_some, last_with}
use Rattle.std.proofs.lemmas.Result.{err_from_is_err_and}
use Rattle.node.proofs.published_history.PublishedHistory.step.Goals as goal

pub returns-in_err-reply-clause-wants : goal.returns-in_err-reply-clause-wants
returns-in_err-reply-clause-wants g c =
    let i = c.self.invariant in
    let s = c.self.inside in
    let o : Origin = g.J.Naming.origin in
    let k = command_of c.args.command.now in
    let journal : s.journal.items ≡ c.args.self.now.journal = ap (λ (h : PublishedState). h.journal) c.self.view_is in
    let passed = err_from_is_err_and c.from_residual.result c.from_residual.ensures.1 in
    rw (passed.1, passed.2) (subst (λ (q : Command). IsWantAfter o c.args.self.now.journal q c.in_err-reply.field-0.0) (sym c.requires.asked)
    (subst (λ (l : List Entry). IsWantAfter o l k c.in_err-reply.field-0.0) journal (wanted_after o s.chain.core s.chain.known s.journal.items k c.in_err-reply.field-0.0 i.0 i.6 c.in_err-reply.ensures.refused.1)))

pub invariant_of-self-2 : goal.invariant_of-self-2
invariant_of-self-2 g c =
    let i = c.self.invariant in
    let s = c.self.inside in
    let o : Origin = g.J.Naming.origin in
    let n = c.args.token.now in
    let k = command_of c.args.command.now in
    let r = c.in_ok-reply.reply in
    let new = c.step.new.self in
    let did : Under (known_in o s.journal.items) (λ valid. IsCoreStep valid s.chain.core new.core k r c.in_ok-reply.changes) =
    λ valid agrees. c.in_ok-reply.ensures.step valid (agrees_here o s.chain.known s.journal.items valid i.6 agrees) in
    let step : is_step r ≡ true = step_taken o s.chain.core new.core s.journal.items n k r c.in_ok-reply.changes i.0 did (subst (λ (q : Command). ¬ IsUndecodable q) c.requires.asked c.requires.ready.decodable) in
    let here : IsNews (known_in o s.journal.items) c.args.asked.now = subst (λ (h : PublishedState). IsNews (known_in o h.journal) c.args.asked.now) (sym c.self.view_is) c.requires.ready.news in
    let news : IsNews (known_in o s.journal.items) k = subst (λ (q : Command). IsNews (known_in o s.journal.items) q) c.requires.asked here in
    let seat : n < o.seats = subst (λ (n : ℕ). n < o.seats) c.number-seat.ensures.is c.number-seat.ensures.below in
    let e : Entry = entry_of n k None in
    let items : ◌≡◌ {A = List Entry} c.push_reserved.new.self.items (s.journal.items ++ e ∷ []) =
    c.push_reserved.ensures.items ∙ ap (λ (l : List Entry). l ++ entry_of c.number-seat.result c.in-Ok.entered None ∷ []) c.reserve_one.ensures.items
    ∙ ap (λ (n : ℕ). s.journal.items ++ entry_of n c.in-Ok.entered None ∷ []) c.number-seat.ensures.is ∙ ap (λ (q : Command). s.journal.items ++ entry_of n q None ∷ []) (c.in-Ok.ensures ∙ c.requires.asked) in
    let owed : is_owed s.pending ≡ false = ap (λ (h : PublishedState). h.owed) c.self.view_is ∙ c.requires.ready.shown in
    let log : s.journal.items ≡ s.chain.note.entries = rw owed at i.2 in
    let core = owed_core o s.chain.core new.core s.journal.items n k r c.in_ok-reply.changes i.0 did step news seat in
    let changes = owed_changes o s.chain.core new.core s.journal.items n k r c.in_ok-reply.changes i.0 did step news seat in
    let count : c.len-place.result ≡ length s.journal.items = omega (arith, c.len-place.ensures, c.reserve_one.new.list.ok, ap (λ (l : List Entry). length l) c.reserve_one.ensures.items) in
    let place : c.set.new.self ≡ set s.last n (length s.journal.items + 1) = c.set.ensures ∙ (λ j. set s.last (c.number-seat.ensures.is j) (count j + 1)) in
    let places : AreLastPlaces o.seats c.set.new.self (s.journal.items ++ e ∷ []) =
    subst (λ (l : List ℕ). AreLastPlaces o.seats l (s.journal.items ++ e ∷ [])) (sym place) (lasts_push o.seats n s.last s.journal.items e i.7 refl) in
    rw (items, c.in_ok-reply.ensures.rest.0, c.in_ok-reply.ensures.known) (
      core,
      i.1,
      (e, ap (λ (l : List Entry). l ++ e ∷ []) log),
      c.in_ok-reply.ensures.rest.1 ∙ i.3,
      if_some _ _ s.home (λ h p. (p.0, due_taken s.pending h.writer.desk.shown.value _ o s.chain.note.entries s.journal.items (s.journal.items ++ e ∷ []) e c.in_ok-reply.changes p.0 owed p.1 log core.legal.news refl changes)) i.4,
      i.5,
      knowledge-push o s.chain.known s.journal.items e k refl i.6,
      places,
    )

pub publish_owed-requires-clause-legal : goal.publish_owed-requires-clause-legal
publish_owed-requires-clause-legal g c _ _ before d all =
    let i = c.self.invariant in
    let s = c.self.inside in
    let o : Origin = g.J.Naming.origin in
    let n = c.args.token.now in
    let k = command_of c.args.command.now in
    let r = c.in_ok-reply.reply in
    let new = c.step.new.self in
    let did : Under (known_in o s.journal.items) (λ valid. IsCoreStep valid s.chain.core new.core k r c.in_ok-reply.changes) =
    λ valid agrees. c.in_ok-reply.ensures.step valid (agrees_here o s.chain.known s.journal.items valid i.6 agrees) in
    let step : is_step r ≡ true = step_taken o s.chain.core new.core s.journal.items n k r c.in_ok-reply.changes i.0 did (subst (λ (q : Command). ¬ IsUndecodable q) c.requires.asked c.requires.ready.decodable) in
    let here : IsNews (known_in o s.journal.items) c.args.asked.now = subst (λ (h : PublishedState). IsNews (known_in o h.journal) c.args.asked.now) (sym c.self.view_is) c.requires.ready.news in
    let news : IsNews (known_in o s.journal.items) k = subst (λ (q : Command). IsNews (known_in o s.journal.items) q) c.requires.asked here in
    let seat : n < o.seats = subst (λ (n : ℕ). n < o.seats) c.number-seat.ensures.is c.number-seat.ensures.below in
    let e : Entry = entry_of n k None in
    let items : ◌≡◌ {A = List Entry} c.push_reserved.new.self.items (s.journal.items ++ e ∷ []) =
    c.push_reserved.ensures.items ∙ ap (λ (l : List Entry). l ++ entry_of c.number-seat.result c.in-Ok.entered None ∷ []) c.reserve_one.ensures.items
    ∙ ap (λ (n : ℕ). s.journal.items ++ entry_of n c.in-Ok.entered None ∷ []) c.number-seat.ensures.is ∙ ap (λ (q : Command). s.journal.items ++ entry_of n q None ∷ []) (c.in-Ok.ensures ∙ c.requires.asked) in
    last_with (λ (l : List Entry). IsLegal o l) s.journal.items before e d (Some r) (sym all ∙ items) (replied_legal o s.chain.core new.core s.journal.items n k r c.in_ok-reply.changes i.0 did step news seat)

pub returns-then-publish_owed-clause-step : goal.returns-then-publish_owed-clause-step
returns-then-publish_owed-clause-step g c =
    let i = c.self.invariant in
    let s = c.self.inside in
    let o : Origin = g.J.Naming.origin in
    let n = c.args.token.now in
    let k = command_of c.args.command.now in
    let r = c.in_ok-reply.reply in
    let new = c.step.new.self in
    let did : Under (known_in o s.journal.items) (λ valid. IsCoreStep valid s.chain.core new.core k r c.in_ok-reply.changes) =
    λ valid agrees. c.in_ok-reply.ensures.step valid (agrees_here o s.chain.known s.journal.items valid i.6 agrees) in
    let step : is_step r ≡ true = step_taken o s.chain.core new.core s.journal.items n k r c.in_ok-reply.changes i.0 did (subst (λ (q : Command). ¬ IsUndecodable q) c.requires.asked c.requires.ready.decodable) in
    let e : Entry = entry_of n k None in
    let items : ◌≡◌ {A = List Entry} c.push_reserved.new.self.items (s.journal.items ++ e ∷ []) =
    c.push_reserved.ensures.items ∙ ap (λ (l : List Entry). l ++ entry_of c.number-seat.result c.in-Ok.entered None ∷ []) c.reserve_one.ensures.items
    ∙ ap (λ (n : ℕ). s.journal.items ++ entry_of n c.in-Ok.entered None ∷ []) c.number-seat.ensures.is ∙ ap (λ (q : Command). s.journal.items ++ entry_of n q None ∷ []) (c.in-Ok.ensures ∙ c.requires.asked) in
    let shown : c.publish_owed.new.self ≡ record { origin = o; journal = s.journal.items ++ entry_of n k (Some r) ∷ []; owed = false } = c.publish_owed.ensures.shown s.journal.items e items c.if-publish_owed.true in (
      shown ∙ ap (λ (h : PublishedState). with_entry h n k (Some r)) c.self.view_is ∙ ap (λ (q : Command). with_entry c.args.self.now n q (Some r)) (sym c.requires.asked),
      (step, subst (λ (q : Command). IsReplyTo q r) (sym c.requires.asked) (step_reply o s.chain.core new.core s.journal.items n k r c.in_ok-reply.changes i.0 did step)),
    )
