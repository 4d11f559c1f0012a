use Rattle.std.proofs.Common.{◌≡◌, ◌+◌, List, [], ◌∷◌, ◌++◌, take, subst, sym, refl}
use Rattle.std.proofs.lemmas.List.{append-nil}
use Rattle.signatures.specs.Triple.{Triple}
use Rattle.connect.proofs.Steps.{take_item}
use Rattle.node.specs.Runs.{Learns}
use Rattle.node.proofs.OwnEntries.{own_begins}
use Rattle.node.proofs.Verdicts.{learns_one, later_still}
use Rattle.node.proofs.seat.Seat.learn_all.Goals as goal

pub loop-place-init : goal.loop-place-init
loop-place-init g c =
    let s = c.self.inside in
    rw (← c.self.view_is) (refl, record { number = refl; origin = refl; grows = ([], append-nil s.seen.entries); legal = c.self.invariant.0.legal }, own_begins s.token s.answered s.seen.entries s.owed.items)

pub loop-place-preserved : goal.loop-place-preserved
loop-place-preserved g c =
    let ts = c.args.triples.now in
    let t = c.index-triples-place.result in
    let next : take (c.loop-place.place + 1) ts ≡ take c.loop-place.place ts ++ t ∷ [] = take_item ts c.loop-place.place t c.loop-place-test.true c.index-triples-place.is in
    let kept = c.loop-place.invariant in
    let more = learns_one _ (take c.loop-place.place ts) c.args.valid _ t c.in_ok-at.field-0 _ kept.0 (record { later = c.learn_under_lock.ensures.later; answer = c.in_ok-at.ensures.answer; fault = tt }) c.in_default.not-Contradicted in
    (subst (λ (l : List Triple). Learns c.args.self.now l c.args.valid c.learn_under_lock.new.self) (sym next) more, later_still _ _ _ kept.1 c.learn_under_lock.ensures.later, c.learn_under_lock.ensures.own)
