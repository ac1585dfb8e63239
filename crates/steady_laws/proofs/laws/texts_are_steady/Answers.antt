use Rattle.steady_laws.proofs.Declarations.{texts_are_steady, parts_are_steady, memories_are_steady, memories_in_order, sites_are_steady, equations_are_steady, items_are_steady, statements_are_steady}
use Rattle.steady_laws.proofs.laws.texts_are_steady.Goals as goal

pub returns-clause-texts : goal.returns-clause-texts
returns-clause-texts c = texts_are_steady

pub returns-clause-parts : goal.returns-clause-parts
returns-clause-parts c = parts_are_steady

pub returns-clause-memories : goal.returns-clause-memories
returns-clause-memories c = memories_are_steady

pub returns-clause-ordered_memories : goal.returns-clause-ordered_memories
returns-clause-ordered_memories c = memories_in_order

pub returns-clause-sites : goal.returns-clause-sites
returns-clause-sites c = sites_are_steady

pub returns-clause-equations : goal.returns-clause-equations
returns-clause-equations c = equations_are_steady

pub returns-clause-items : goal.returns-clause-items
returns-clause-items c = items_are_steady

pub returns-clause-statements : goal.returns-clause-statements
returns-clause-statements c = statements_are_steady
