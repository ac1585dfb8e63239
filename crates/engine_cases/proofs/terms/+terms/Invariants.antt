use Rattle.std.proofs.Common.{◌+◌, ◌*◌}
use Rattle.engine_cases.proofs.terms.+terms.Given as goal

abbrev pub decreases-term : goal.decreases-term
decreases-term l = 3 * l.depth

abbrev pub decreases-boxed : goal.decreases-boxed
decreases-boxed l = 3 * l.depth + 1

abbrev pub decreases-pair : goal.decreases-pair
decreases-pair l = 3 * l.depth + 2

abbrev pub decreases-number : goal.decreases-number
decreases-number l = 3 * l.depth

abbrev pub decreases-boxed_number : goal.decreases-boxed_number
decreases-boxed_number l = 3 * l.depth + 1

abbrev pub decreases-number_pair : goal.decreases-number_pair
decreases-number_pair l = 3 * l.depth + 2
