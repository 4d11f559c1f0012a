use Rattle.std.proofs.Common.{◌≡◌, ℕ, drop, map, ap, ◌∙◌, subst}
use mathlib.Core.List.{IsPrefix}
use Rattle.model.specs.History.{own_of}
use Rattle.node.specs.Pass.{Pass, IsStanding, owed_entry}
use Rattle.node.proofs.OwnEntries.{begins_whole, own_all, within_more}
use Rattle.node.proofs.seat.Seat.stands_in.Goals as goal

pub has_owed-requires-clause-within : goal.has_owed-requires-clause-within
has_owed-requires-clause-within g c _ _ =
    let s = c.self.inside in
    let journal = c.args.history.now.journal in
    let begins : IsPrefix s.seen.entries journal = begins_whole _ _ _ c.if-not-begins.ensures c.note.ensures.begins in
    within_more s.answered s.seen.entries journal c.self.invariant.1 begins

pub returns : goal.returns
returns g c equal =
    let s = c.self.inside in
    let journal = c.args.history.now.journal in
    let n = s.token in
    let begins : IsPrefix s.seen.entries journal = begins_whole _ _ _ c.if-not-begins.ensures c.note.ensures.begins in
    let rest : own_of n (drop s.answered journal) ≡ map (owed_entry n) s.owed.items = c.has_owed.ensures.0 equal ∙ ap (map (owed_entry n)) c.as_slice.ensures.value in
    subst (λ (p : Pass). IsStanding journal p) c.self.view_is (record { begins = begins; own = own_all n s.answered s.seen.entries journal s.owed.items c.self.invariant.1 begins rest })
