use Rattle.int_cuts.specs.Parts.{StandTo}
use Rattle.int_cuts.proofs.standing.loose_in.Given as goal

abbrev pub invariant-loop-t : goal.invariant-loop-t
invariant-loop-t l = StandTo l.tableau l.row l.x l.t-index
