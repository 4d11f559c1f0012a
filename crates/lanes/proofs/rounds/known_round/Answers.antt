use Rattle.std.proofs.Common.{ℕ, List, slice_index, sym, ◌∙◌, ap}
use Rattle.lanes.proofs.Vectors.{everywhere}
use Rattle.sha2.specs.Sha256.{round, round_constants, schedule}
use Rattle.sha2.proofs.Schedule256.{rounds_next}
use Rattle.lanes.proofs.rounds.known_round.Goals as goal

pub returns : goal.returns
returns c = λ l lt b h are at.
    let words = schedule b 48 in
    let t = c.args.t in
    let fed = (everywhere (slice_index c.args.sums.now t)).at l lt ∙ are t c.requires in
    c.turned.ensures l lt (slice_index words t) (slice_index round_constants t) fed
    ∙ ap (λ (v : List ℕ). round v (slice_index round_constants t) (slice_index words t)) at ∙ sym (rounds_next h words t)
