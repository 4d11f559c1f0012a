use Rattle.node.specs.laws.OpenSeats.{opening_at}
use Rattle.node.proofs.laws.each_opened_seat_begins_a_run.Goals as goal

pub returns : goal.returns
returns c = λ o seats seat below. opening_at o seats seat below
