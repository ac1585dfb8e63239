use Rattle.proof_steps.specs.View.{proof_view}
use Rattle.sys_terms.specs.View.{system_view}
use Rattle.cert_rules.specs.View.{cited_terms}
use Rattle.kind_engine.proofs.Refuting.{never-refused}
use Rattle.kind_engine.proofs.checking.step_of.Goals as goal

pub unreachable-requires : goal.unreachable-requires
unreachable-requires c =
    let law = c.unbroken_rules_are_facts.ensures (system_view c.args.subject.now.system)
    (cited_terms c.args.cites.now) in
    never-refused _ c.in-Err-Refused.field-0 c.in-Err-Refused.field-0-0 c.in-Err-Refused.field-0-1
    ((law.steps c.args.property c.args.k (proof_view c.args.proof.now)).1 c.requires.step)
    c.in-Err-Refused.field-0-is (rw c.in-Err-Refused.is at c.check_step.ensures)
