use Rattle.std.proofs.Common.{refl, sym}
use Rattle.lanes.proofs.Vectors.{lane_of-at}
use Rattle.sha2.proofs.Schedule256.{rounds_first}
use Rattle.lanes.specs.State.{lane, lane_of}
use Rattle.lanes.proofs.rounds.early_round.Goals as goal

pub returns : goal.returns
returns c = λ l lt b h held at.
    let w = c.args.w.now in
    let t = c.args.t in
    rounds_first b h (lane_of w l) (lane c.args.v l) t _ _ _ c.requires held at refl (sym (lane_of-at w t l)) (c.round.ensures l lt)
