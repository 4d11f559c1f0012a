use Rattle.bench.proofs.node_work.at_node.Given as goal

abbrev pub ghosts-on_node : goal.ghosts-on_node
ghosts-on_node g a = record { origin = a.opening }
