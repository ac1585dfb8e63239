use Rattle.std.specs.Prelude.{refl}
use Rattle.kind_num.specs.Exact.{within}
use Rattle.sys_terms.specs.Queries.{step_after}
use Rattle.solver_cases.proofs.form_rows.five_after_a_step.Goals as goal

pub returns : goal.returns
unfolding within step_after
returns c = refl
