use Rattle.kind_main.proofs.Lining.{line_and_more}
use Rattle.kind_main.proofs.verdicts.push_falsifiable.Goals as goal

pub returns : goal.returns
returns c = line_and_more _ _ _ _ _ _ c.in_ok-push_line.ensures c.in_ok-line.ensures.ok c.in_ok-push_trace.ensures
