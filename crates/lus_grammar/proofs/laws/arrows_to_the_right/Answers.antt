use Rattle.lus_grammar.proofs.Rows as rows
use Rattle.lus_grammar.proofs.laws.arrows_to_the_right.Goals as goal

pub returns : goal.returns
returns c = rows.arrows_to_the_right
