use Rattle.std.proofs.Common.{◌≡◌, ℕ, Option, Some, None}
use Rattle.bench.proofs.queues.failing.Goals as goal

pub first_failure-requires-clause-numbered : goal.first_failure-requires-clause-numbered
first_failure-requires-clause-numbered g c i j number a b at_a at_b of_a of_b =
    let none : ◌≡◌ {A = Option ℕ} None (Some number) = of_a in
    absurd cc
