use Rattle.view.proofs.Turns.{sees}
use Rattle.view.proofs.publishers.enter.Goals as goal

pub enter_as-requires : goal.enter_as-requires
enter_as-requires g c = sees _ _ _
