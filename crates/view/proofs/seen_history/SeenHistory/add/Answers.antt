use Rattle.std.proofs.Common.{◌≡◌, length, sym, ◌∙◌, ap}
use Rattle.view.specs.HistoryPrefix.{Beginning, count_of}
use Rattle.view.proofs.AddedEntry.{adds_moves}
use Rattle.view.proofs.seen_history.SeenHistory.add.Goals as goal

pub compare_exchange-found-requires : goal.compare_exchange-found-requires
compare_exchange-found-requires c =
    let again = c.again-seen.ensures in
    let offer = c.plain-offer.ensures in
    let pen = c.no_pen-pen.ensures in
    let h : c.args.counter.now ≡ count_of c.self.inside.seen.book = c.requires.counter ∙ ap (λ (b : Beginning). count_of b.book) (sym c.self.view_is) in
    let book : c.again-seen.result.book ≡ c.args.counter.now.book = ap (λ s. s.book) again ∙ sym (ap (λ w. w.book) h) in
    let len : length c.again-seen.result.log ≡ c.self.inside.count = ap (λ s. length s.log) again ∙ sym c.self.invariant in (
      ap (λ w. w.tracked) h,
      book,
      pen.0 ∙ book,
      offer.0,
      rw (ap (λ w. w.key) h, pen.1, offer.1, offer.3) (adds_moves c.again-seen.result.log c.args.entry.now c.self.inside.count len),
    )
