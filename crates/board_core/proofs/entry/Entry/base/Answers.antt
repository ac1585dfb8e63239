use Rattle.cert_rules.specs.Facts.{terms_of}
use Rattle.cert_rules.specs.Kept.{base_machine, base_property, base_instant, base_cites, base_proofs}
use Rattle.board_core.proofs.entry.Entry.base.Goals as goal

pub returns-clause-is_true : goal.returns-clause-is_true
returns-clause-is_true c = λ plan earlier cited.
    let law = c.unbroken_rules_are_facts.ensures (base_machine c.args.fact) (terms_of (base_cites c.args.fact)) in
    ((law.bases (base_property c.args.fact) (base_instant c.args.fact) (base_proofs c.args.fact)).0 c.args.fact.right, cited)
