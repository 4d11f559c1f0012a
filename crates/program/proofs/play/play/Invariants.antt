use Rattle.program.proofs.play.play.Given as goal

abbrev pub ghosts-run_at_node : goal.ghosts-run_at_node
ghosts-run_at_node g a = record { origin = a.opening }
