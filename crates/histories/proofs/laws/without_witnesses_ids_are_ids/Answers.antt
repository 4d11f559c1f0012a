use Rattle.std.proofs.Common.{List, ◌∷◌, replicate, ap}
use Rattle.hash.specs.declared.id.Id.{Id}
use Rattle.histories.specs.laws.WitnessIds.{same_ids}
use Rattle.histories.proofs.laws.without_witnesses_ids_are_ids.Goals as goal

pub returns : goal.returns
returns c = λ coinbase txs none.
    let zeros : Id = record { 0 = replicate 32 0 } in
    ap (λ (ids : List Id). zeros ∷ ids) (same_ids txs none)
