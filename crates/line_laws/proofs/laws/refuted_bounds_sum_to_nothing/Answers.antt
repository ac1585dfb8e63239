use Rattle.line_laws.proofs.Limited.{same_right_side}
use Rattle.line_laws.proofs.Summed.{nothing_left}
use Rattle.line_laws.proofs.laws.refuted_bounds_sum_to_nothing.Goals as goal

pub returns : goal.returns
returns c = λ g parts plain are on. record { left = nothing_left g plain parts on.0 are on.1; right = same_right_side g parts are }
