use Rattle.std.specs.Arc.{arc_value}
use Rattle.view.specs.Origin.{origin}
use Rattle.player.proofs.inside.play_inside.Given as goal

abbrev pub ghosts-stay_and_publish : goal.ghosts-stay_and_publish
ghosts-stay_and_publish g a = record { origin = origin a.note.book a.params (arc_value a.table) 1 }
