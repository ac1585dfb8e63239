use Rattle.std.specs.Prelude.{◌≡◌, take, map}
use Rattle.proof_steps.specs.View.{row_view}
use Rattle.int_cuts.specs.Parts.{sum_by}
use Rattle.int_cuts.proofs.sums.sum_of.Given as goal

abbrev pub invariant-loop-p : goal.invariant-loop-p
invariant-loop-p l = l.sum ≡ sum_by (map row_view l.given) l.variable (take l.p-index l.parts)
