use Rattle.std.proofs.Common.{ℕ, List, subst}
use Rattle.std.specs.List.{concat}
use Rattle.sha2.specs.Hashers.{Holds256}
use Rattle.script.specs.Removal.{bytes_of}
use Rattle.sighash.proofs.Inputs.{Cut, fed_among}
use Rattle.sighash.proofs.hasher_input.feed_among.Goals as goal

pub returns : goal.returns
returns c = λ fed holds.
    let cut : Cut c.args.n c.args.inputs.now c.split_at.result.0.now c.split_at.result.1.now c.split_at-2.result.0.now c.split_at-2.result.1.now c.index-signed-0.result = record {
      front = c.split_at.ensures.front;
      back = c.split_at.ensures.back;
      first = c.split_at-2.ensures.front;
      others = c.split_at-2.ensures.back;
      long = c.split_at-2.ensures.front_len;
      is = c.index-signed-0.is;
    } in
    let code : List ℕ = concat (bytes_of c.args.code.now) in
    subst (Holds256 c.feed_others-2.new.hasher) (fed_among c.args.kind c.args.n code fed c.args.inputs.now _ _ _ _ _ cut)
    (c.feed_others-2.ensures _ (c.feed_input.ensures _ (c.feed_others.ensures fed holds)))
