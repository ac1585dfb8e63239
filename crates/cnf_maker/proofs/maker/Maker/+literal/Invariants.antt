use Rattle.std.specs.Prelude.{◌+◌, ◌*◌, max}
use Rattle.sys_terms.specs.declared.term.Term.{size-Term}
use Rattle.sys_terms.specs.declared.term.Num.{size-Num}
use Rattle.cnf_maker.proofs.maker.Maker.+literal.Given as goal

abbrev pub decreases-literal : goal.decreases-literal
decreases-literal l = 2 * size-Term l.term.now

abbrev pub decreases-linear : goal.decreases-linear
decreases-linear l = 2 * size-Num l.num.now

abbrev pub decreases-same_of : goal.decreases-same_of
decreases-same_of l = 2 * max (size-Term l.left.now) (size-Term l.right.now) + 1

abbrev pub decreases-choice_of : goal.decreases-choice_of
decreases-choice_of l =
    2 * max (size-Term l.condition.now) (max (size-Term l.first.now) (size-Term l.second.now)) + 1

abbrev pub decreases-equal_of : goal.decreases-equal_of
decreases-equal_of l = 2 * max (size-Num l.left.now) (size-Num l.right.now) + 1

abbrev pub decreases-difference_of : goal.decreases-difference_of
decreases-difference_of l = 2 * max (size-Num l.left.now) (size-Num l.right.now) + 1

abbrev pub decreases-chosen_of : goal.decreases-chosen_of
decreases-chosen_of l =
    2 * max (size-Term l.condition.now) (max (size-Num l.first.now) (size-Num l.second.now)) + 1

abbrev pub decreases-remainder_of : goal.decreases-remainder_of
decreases-remainder_of l = 2 * size-Num l.num.now + 1
