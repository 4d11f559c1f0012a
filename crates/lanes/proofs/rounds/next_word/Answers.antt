use Rattle.std.proofs.Common.{arith, ◌≡◌, ◌+◌, ◌%◌, ℕ, List, slice_index}
use Rattle.lanes.proofs.Vectors.{lane_of-at}
use Rattle.std.proofs.lemmas.List.{map-set}
use Rattle.lanes.proofs.rounds.next_word.Goals as goal

pub returns : goal.returns
returns c =
    let w = c.args.w.now in
    let place = c.args.place in
    let at : place % 16 ≡ place = omega arith in
    record {
      value = λ l lt. rw (lane_of-at w ((place + 14) % 16) l, lane_of-at w ((place + 9) % 16) l, lane_of-at w ((place + 1) % 16) l, at, lane_of-at w place l) (c.scheduled-word.ensures.at l lt);
      ring = λ l. map-set (λ (v : List ℕ). slice_index v l) w place c.scheduled-word.result;
    }
