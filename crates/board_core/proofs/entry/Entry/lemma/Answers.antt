use Rattle.cert_rules.specs.Facts.{terms_of}
use Rattle.cert_rules.specs.Kept.{lemma_machine, lemma_term, lemma_cites, lemma_first_proof, lemma_next_proof}
use Rattle.board_core.proofs.entry.Entry.lemma.Goals as goal

pub returns-clause-is_true : goal.returns-clause-is_true
returns-clause-is_true c = λ plan earlier cited.
    let law = c.unbroken_rules_are_facts.ensures (lemma_machine c.args.fact) (terms_of (lemma_cites c.args.fact)) in
    ((law.lemmas (lemma_term c.args.fact) (lemma_first_proof c.args.fact) (lemma_next_proof c.args.fact)).0 c.args.fact.right, cited)
