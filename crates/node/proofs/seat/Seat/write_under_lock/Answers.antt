use Rattle.std.proofs.Common.{◌≡◌, ℕ, false, List, [], ◌∷◌, ◌++◌, take, map, Some, inr, refl, ap, sym, ◌∙◌, subst, arith, take_all}
use Rattle.std.proofs.lemmas.List.{append-nil}
use mathlib.Core.List.{IsPrefix}
use Rattle.model.specs.declared.command.Command.{Command}
use Rattle.model.specs.declared.entry.Entry.{Entry}
use Rattle.model.specs.History.{own_of, entry_of}
use Rattle.model.specs.PreparedCommand.{command_of}
use Rattle.node.specs.Pass.{owed_entry}
use Rattle.node.specs.inside.Kept.{IsReplyTo}
use Rattle.node.specs.inside.PublishedState.{PublishedState, IsStepAnswer}
use Rattle.node.proofs.StepAnswers.{answer_step}
use Rattle.node.proofs.OwnEntries.{begins_whole, own_push}
use Rattle.node.proofs.seat.Seat.write_under_lock.Goals as goal

pub returns-in-Ok-Some-clause-later : goal.returns-in-Ok-Some-clause-later
returns-in-Ok-Some-clause-later g c =
    let n = c.self.inside.token in
    let r = c.in-Ok-Some.reply in
    let before = c.ready_command.new.history in
    let stands = c.stands_in.ensures c.if-not-stands_in.false in
    let did : IsStepAnswer before c.step.new.self n c.in_ok-asked.asked (Some r) = rw c.in-Ok-Some.field-0-is at c.in-Ok-Some.ensures.step in
    let shown : c.step.new.self.owed ≡ false = ap (λ (h : PublishedState). h.owed) did.0 in
    let e : Entry = entry_of n c.in_ok-asked.asked (Some r) in
    let all : c.note.result.entries ≡ before.journal ++ e ∷ [] = c.note.ensures.entries shown ∙ ap (λ (h : PublishedState). h.journal) did.0 in
    rw (← c.self.view_is) (record {
      number = refl;
      origin = refl;
      grows = begins_whole _ _ _ stands.begins (e ∷ [], sym all);
      legal = c.note.ensures.legal shown;
    })

pub returns-in-Ok-Some-clause-answer : goal.returns-in-Ok-Some-clause-answer
returns-in-Ok-Some-clause-answer g c =
    let s = c.self.inside in
    let n = s.token in
    let k : Command = command_of c.args.command.now in
    let r = c.in-Ok-Some.reply in
    let at = c.len-at.result in
    let seen = c.note.result.entries in
    let before = c.ready_command.new.history in
    let stands = c.stands_in.ensures c.if-not-stands_in.false in
    let did : IsStepAnswer before c.step.new.self n c.in_ok-asked.asked (Some r) = rw c.in-Ok-Some.field-0-is at c.in-Ok-Some.ensures.step in
    let shown : c.step.new.self.owed ≡ false = ap (λ (h : PublishedState). h.owed) did.0 in
    let asked : c.in_ok-asked.asked ≡ k = c.in_ok-asked.ensures.command in
    let all : seen ≡ before.journal ++ entry_of n k (Some r) ∷ [] =
    c.note.ensures.entries shown ∙ ap (λ (h : PublishedState). h.journal) did.0 ∙ ap (λ (q : Command). before.journal ++ entry_of n q (Some r) ∷ []) asked in
    let mine : own_of n before.journal ≡ own_of n (take s.answered s.seen.entries) ++ map (owed_entry n) s.owed.items =
    stands.own ∙ ap (λ (l : List Command). own_of n (take s.answered s.seen.entries) ++ map (owed_entry n) l) c.in_ok-asked.ensures.items in
    let own : own_of n seen ≡ (own_of n (take s.answered s.seen.entries) ++ map (owed_entry n) s.owed.items) ++ entry_of n k (Some r) ∷ [] =
    ap (own_of n) all ∙ own_push n before.journal k r ∙ ap (λ (l : List Entry). l ++ entry_of n k (Some r) ∷ []) mine in
    let none : own_of n (take at seen) ++ map (owed_entry n) c.clear-in-Ok-Some.new.self.items ≡ own_of n (take at seen) =
    ap (λ (l : List Command). own_of n (take at seen) ++ map (owed_entry n) l) c.clear-in-Ok-Some.ensures.items ∙ append-nil (own_of n (take at seen)) in
    let whole : own_of n (take at seen) ≡ own_of n seen = ap (own_of n) (take_all at seen (omega (arith, c.len-at.ensures))) in
    rw (← c.self.view_is) (answer_step _ _ k at r did.1.0 (subst (λ (q : Command). IsReplyTo q r) asked did.1.1) (record {
      last = (before.journal, all, stands.begins);
      at_is = c.len-at.ensures;
      mine_is = none ∙ whole ∙ own;
      own_is = sym (none ∙ whole);
      wants_is = c.clear-in-Ok-Some-2.ensures.items;
    }))

pub returns-clause-held : goal.returns-clause-held
returns-clause-held g c = c.want.ensures.left c.args.history.now c.step.new.self _ _ (inr (c.in-Err-Unknown.ensures.err ∙ c.in_ok-asked.ensures.shown))
