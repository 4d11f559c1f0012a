use Rattle.tree.specs.State.{opening}
use Rattle.model.specs.laws.Steps.{opening_sound, after_sound}
use Rattle.model.proofs.laws.each_reached_state_is_sound.Goals as goal

pub returns : goal.returns
returns g c = λ r cs. after_sound r opening cs (opening_sound r)
