use Rattle.std.specs.Prelude.{refl}
use Rattle.kind_num.specs.Exact.{within}
use Rattle.sys_terms.specs.Evaluated.{enter_answer}
use Rattle.solver_cases.proofs.rows.the_counter_comes_to_three.Goals as goal

pub returns : goal.returns
unfolding within enter_answer
returns c = refl
