use Rattle.std.proofs.Common.{◌≡◌, ℕ, List, [], Bor, length, inl, inr, get_or, ap, ◌∙◌, arith}
use Rattle.std.proofs.lemmas.Bool.{cases_lt}
use Rattle.std.proofs.lemmas.List.{get_or-map}
use Rattle.script.specs.Removal.{bytes_of}
use Rattle.sighash.proofs.ahead.are_alike.Goals as goal

pub loop-lane-preserved : goal.loop-lane-preserved
loop-lane-preserved c = λ j lt.
    let codes : List (Bor (List ℕ)) = c.args.codes.now in
    let k = c.loop-lane.lane in
    elim (cases_lt j k) [
      | inl less ↦ c.loop-lane.invariant j less
      | inr ge ↦
          let e : j ≡ k = omega (arith, lt, ge) in
          ap (λ (n : ℕ). length (get_or (bytes_of codes) n [])) e
          ∙ ap length (get_or-map (λ (b : Bor (List ℕ)). b.now) codes k _ [] (omega (arith, c.loop-lane-test.true, c.told-codes))) ∙ c.if-codes-lane.false
    ]
