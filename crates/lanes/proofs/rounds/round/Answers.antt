use Rattle.std.proofs.Common.{slice_index, ◌∙◌, ap}
use Rattle.lanes.proofs.Vectors.{everywhere}
use Rattle.sha2.specs.Sha256.{add32}
use Rattle.lanes.proofs.rounds.round.Goals as goal

pub returns : goal.returns
returns c = λ l lt.
    let word = slice_index c.args.word l in
    c.turned.ensures l lt word c.args.constant (c.sum-fed.ensures.at l lt ∙ ap (add32 word) ((everywhere c.args.constant).at l lt))
