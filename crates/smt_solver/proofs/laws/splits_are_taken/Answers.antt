use Rattle.smt_solver.proofs.Splitting.{split-taken}
use Rattle.smt_solver.proofs.laws.splits_are_taken.Goals as goal

pub returns : goal.returns
returns c = λ s x z plain number low high.
    split-taken c.atoms_are_decided.ensures c.fitting_steps_are_taken.ensures c.split_steps_fit.ensures s.form x z plain
    number low high s.search.known
