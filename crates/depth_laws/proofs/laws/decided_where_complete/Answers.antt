use Rattle.depth_laws.proofs.Decided.{beyond, broken-falsifiable, inductive-valid}
use Rattle.depth_laws.proofs.laws.decided_where_complete.Goals as goal

pub returns-clause-falsifiable : goal.returns-clause-falsifiable
returns-clause-falsifiable c = λ m plan history fit sound p.
    broken-falsifiable c.verdicts_are_true.ensures c.whole_causes_are_depths.ensures m plan history fit sound p
    c.depth_of_bounded.ensures

pub returns-clause-valid : goal.returns-clause-valid
returns-clause-valid c = λ m plan history fit sound p.
    inductive-valid c.verdicts_are_true.ensures c.whole_causes_are_depths.ensures m plan history fit sound p
    c.depth_of_step.ensures.inductive c.inductive_hold.ensures

pub returns-clause-unknown : goal.returns-clause-unknown
returns-clause-unknown c = λ m plan history fit sound p.
    beyond c.verdicts_are_true.ensures c.whole_causes_are_depths.ensures m plan history fit sound p
    c.depth_of_bounded.ensures c.depth_of_step.ensures.inductive
