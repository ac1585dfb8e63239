use Rattle.std.proofs.Common.{sym, ◌∙◌}
use Rattle.sat_core.proofs.Widening.{listed_at}
use Rattle.sat_core.proofs.variables.is_at.Goals as goal

pub returns-then-at-variables : goal.returns-then-at-variables
returns-then-at-variables c = λ h. listed_at c.args.variables.now c.args.at _ c.args.literal c.if-at-variables.true (sym c.same.ensures ∙ h)
