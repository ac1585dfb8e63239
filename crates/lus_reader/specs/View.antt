-- What contracts see of the readers' types.
use Rattle.lus_grammar.specs.Phrase as P
use Rattle.lus_grammar.specs.Syntax.{Counts}
use Rattle.lus_reader.specs.declared.counts.Counts.{Counts as CountsCode}
use Rattle.lus_reader.specs.declared.operator.Level.{Level}
use Rattle.lus_reader.specs.declared.operator.Level.TheVariants.{Products, Sums, Conjunctions, Disjunctions}

abbrev pub counts_view : CountsCode → Counts
counts_view c = record { pres = c.pres; arrows = c.arrows; calls = c.calls }

abbrev pub level_view : Level → P.Level
level_view Products = P.Products
level_view Sums = P.Sums
level_view Conjunctions = P.Conjunctions
level_view Disjunctions = P.Disjunctions
