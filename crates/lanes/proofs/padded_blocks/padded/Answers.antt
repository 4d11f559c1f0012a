use Rattle.std.proofs.Common.{ℕ, List, length, inl, inr, refl, ◌∙◌, arith}
use Rattle.lanes.proofs.PaddedMessage.{padded-is}
use Rattle.lanes.proofs.padded_blocks.padded.Goals as goal
use Rattle.lanes.proofs.padded_blocks.padded.Goals.{then-rest-lt56, else-rest-lt56}

pub returns : goal.returns
returns c = λ n len last.
    let rest : List ℕ = c.args.rest.now in
    let first = c.copy_from_slice.ensures.after in
    padded-is c.copy_from_slice.new.self rest c.copy_from_slice-2.new.self (length rest) c.if-rest-lt56.end _ c.args.len n first refl c.requires
    (c.copy_from_slice-2.ensures.after ∙ c.to_be_bytes.ensures)
    (elim c.if-rest-lt56.branch [
      | then-rest-lt56 w ↦ inl (omega (arith, w.if-rest-lt56.true), w.end-is)
      | else-rest-lt56 w ↦ inr (omega (arith, w.if-rest-lt56.false), w.end-is)
    ]) len last
