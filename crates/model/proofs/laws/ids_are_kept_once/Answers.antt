use Rattle.tree.specs.State.{opening}
use Rattle.model.specs.Step.{state_after_requests}
use Rattle.model.specs.laws.Kept.{after_kept, ids_once}
use Rattle.model.proofs.laws.ids_are_kept_once.Goals as goal

pub returns : goal.returns
returns g c = λ r cs same. ids_once r same (state_after_requests r opening cs).blocks (after_kept r opening cs tt)
