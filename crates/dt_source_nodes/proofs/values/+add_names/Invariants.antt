use Rattle.dt_source_nodes.proofs.values.+add_names.Given as goal

abbrev pub decreases-add_names : goal.decreases-add_names
decreases-add_names l = l.node
