use Rattle.verdict_laws.proofs.Runs.{depths-hold, unknown-up-to, broken-falsifiable}
use Rattle.verdict_laws.proofs.laws.depths_of_runs.Goals as goal

pub returns-clause-depths : goal.returns-clause-depths
returns-clause-depths c = depths-hold c.depth_of_bounded.ensures c.each_verdicts.ensures.bounded

pub returns-clause-unknown : goal.returns-clause-unknown
returns-clause-unknown c =
    unknown-up-to (depths-hold c.depth_of_bounded.ensures c.each_verdicts.ensures.bounded) c.whole_causes_are_depths.ensures

pub returns-clause-falsifiable : goal.returns-clause-falsifiable
returns-clause-falsifiable c =
    broken-falsifiable c.verdicts_of_runs.ensures.valid
    (unknown-up-to (depths-hold c.depth_of_bounded.ensures c.each_verdicts.ensures.bounded) c.whole_causes_are_depths.ensures)
