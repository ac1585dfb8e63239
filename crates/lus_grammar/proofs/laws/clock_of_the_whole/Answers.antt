use Rattle.lus_grammar.proofs.Rows as rows
use Rattle.lus_grammar.proofs.laws.clock_of_the_whole.Goals as goal

pub returns : goal.returns
returns c = rows.clock_of_the_whole
