use Rattle.std.proofs.Common.{◌∙◌}
use Rattle.smt_solver.proofs.Used.{step-same}
use Rattle.smt_solver.proofs.numbers.steps.conflict_step.Goals as goal

pub returns : goal.returns
returns c = λ parts e. c.in_ok-step.ensures ∙ step-same parts c.args.used.now e
