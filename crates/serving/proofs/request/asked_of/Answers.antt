use Rattle.std.proofs.Common.{ℕ, codes, None, subst, sym, inr}
use Rattle.json.specs.Value.{value_view}
use Rattle.serving.specs.Requests.{IsRequest, IsSeat, IsInTurn}
use Rattle.serving.specs.declared.request.Asked.TheVariants as asked
use Rattle.serving.specs.declared.refusal.Refusal.TheVariants as refusal
use Rattle.serving.proofs.Refusals.{is-param, asked-refused, refused-in-turn}
use Rattle.serving.proofs.request.asked_of.Goals as goal

pub returns-in-Err : goal.returns-in-Err
returns-in-Err c =
    let j = value_view c.args.value.now in
    let none = c.in-Err.ensures.err in
    let named = subst (IsRequest j) c.in-Some-read.ensures.found c.in-Some.ensures.some in
    let unseated = subst (λ params. (n : ℕ) → IsSeat c.args.seats (codes "seat") params n → ⊥) c.get-params.ensures none.1 in
    record {
      asked = asked-refused c.args.seats j c.in-Some-read.method None _ named (is-param none.0) (λ k call h. unseated k h.0);
      turn = inr unseated;
    }

pub returns-in_default-read-clause-turn : goal.returns-in_default-read-clause-turn
returns-in_default-read-clause-turn c =
    let j = value_view c.args.value.now in
    subst (λ seat. IsInTurn c.args.seats j (asked.Refused seat refusal.Method)) (sym c.ok.ensures.value)
    (refused-in-turn c.args.seats j _ _ c.get-params.ensures c.seat-seat.result c.seat-seat.ensures.ok c.seat-seat.ensures.err refusal.Method)
