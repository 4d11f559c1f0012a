use Rattle.server.proofs.session.serve_and_save.Given as goal

abbrev pub ghosts-serve_at_node : goal.ghosts-serve_at_node
ghosts-serve_at_node g a = record { origin = a.opening }
