use Rattle.std.specs.Prelude.{refl}
use Rattle.kind_num.specs.Exact.{within}
use Rattle.solver_cases.proofs.form_rows.five_at_its_first_state.Goals as goal

pub returns : goal.returns
unfolding within
returns c = refl
