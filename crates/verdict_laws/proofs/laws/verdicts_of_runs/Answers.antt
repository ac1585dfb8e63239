use Rattle.verdict_laws.proofs.Runs.{valid-hold, falsifiable-break}
use Rattle.verdict_laws.proofs.laws.verdicts_of_runs.Goals as goal

pub returns-clause-valid : goal.returns-clause-valid
returns-clause-valid c = valid-hold c.verdicts_are_true.ensures c.each_verdicts.ensures.valid

pub returns-clause-falsifiable : goal.returns-clause-falsifiable
returns-clause-falsifiable c = falsifiable-break c.verdicts_are_true.ensures c.each_verdicts.ensures.broken
