use Rattle.lus_grammar.proofs.Rows as rows
use Rattle.lus_grammar.proofs.laws.grouped_to_the_left.Goals as goal

pub returns : goal.returns
returns c = rows.grouped_to_the_left
