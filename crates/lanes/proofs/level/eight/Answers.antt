use Rattle.std.proofs.Common.{ℕ, List, sym, ◌∙◌, ap, arith}
use Rattle.sha2.specs.Sha256.{compress, padding}
use Rattle.lanes.specs.inside.Level.{pair_at}
use Rattle.lanes.proofs.PairsInPlace.{eight_pairs}
use Rattle.lanes.proofs.Whole.{of_64}
use Rattle.lanes.proofs.level.eight.Goals as goal

pub returns : goal.returns
returns c =
    let ids = c.args.ids.now in
    eight_pairs ids c.hashed_again.result (omega (arith, c.requires)) (omega arith) (λ l lt d.
    let m = pair_at ids l in
    let block = c.compressed.ensures l lt m (c.load-blocks.ensures.value l lt) ∙ ap (λ (h : List ℕ). compress h m) (c.initial.ensures l lt) in
    let padded = c.after_padding.ensures l lt ∙ ap (λ (h : List ℕ). compress h (padding 64)) block in
    c.hashed_again.ensures l lt m (padded ∙ sym (of_64 m (c.load-blocks.ensures.len l lt))) d)
