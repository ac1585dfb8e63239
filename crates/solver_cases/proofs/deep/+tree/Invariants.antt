use Rattle.solver_cases.proofs.deep.+tree.Given as goal

abbrev pub decreases-tree : goal.decreases-tree
decreases-tree l = l.levels
