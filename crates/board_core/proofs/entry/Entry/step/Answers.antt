use Rattle.cert_rules.specs.Facts.{terms_of}
use Rattle.cert_rules.specs.Kept.{step_machine, step_property, step_k, step_cites, step_proof}
use Rattle.board_core.proofs.entry.Entry.step.Goals as goal

pub returns-clause-is_true : goal.returns-clause-is_true
returns-clause-is_true c = λ plan earlier cited.
    let law = c.unbroken_rules_are_facts.ensures (step_machine c.args.fact) (terms_of (step_cites c.args.fact)) in
    ((law.steps (step_property c.args.fact) (step_k c.args.fact) (step_proof c.args.fact)).0 c.args.fact.right, cited)
