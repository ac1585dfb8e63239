use Rattle.std.specs.Prelude.{map, Some}
use Rattle.std.specs.Int.{int_div_euclid}
use Rattle.proof_steps.specs.View.{row_view}
use Rattle.int_simplex.specs.Making.{IsMadeTo}
use Rattle.int_cuts.specs.Parts.{sum_by}
use Rattle.int_cuts.proofs.sums.terms_of.Given as goal

abbrev pub invariant-loop-x : goal.invariant-loop-x
invariant-loop-x l = IsMadeTo l.x (λ c. int_div_euclid (sum_by (map row_view l.given) (Some c) l.parts) l.d) l.terms.items
