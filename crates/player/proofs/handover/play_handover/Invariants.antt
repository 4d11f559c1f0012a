use Rattle.player.proofs.handover.play_handover.Given as goal

abbrev pub ghosts-hand_over : goal.ghosts-hand_over
ghosts-hand_over g a = record { origin = a.opening }
