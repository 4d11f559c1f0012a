use Rattle.player.proofs.node_play.play_node.Given as goal

abbrev pub ghosts-play_opening : goal.ghosts-play_opening
ghosts-play_opening g a = record { origin = a.opening }
