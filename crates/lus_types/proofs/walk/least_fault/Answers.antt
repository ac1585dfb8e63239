use Rattle.std.proofs.Common.{rules, map, subst}
use Rattle.lus_tree.specs.Reason.{name_twice}
use Rattle.lus_tree.specs.View.{program_view}
use Rattle.lus_meaning.specs.Faults.{words_twice}
use Rattle.lus_meaning.specs.NameFaults.{declaration_word}
use Rattle.lus_scopes.specs.Least.{least_view}
use Rattle.lus_scopes.specs.Notes.{Notes}
use Rattle.lus_types.proofs.Circled.{program_noted}
use Rattle.lus_types.proofs.walk.least_fault.Goals as goal

pub returns-clause-least : goal.returns-clause-least
returns-clause-least c =
    program_noted (program_view c.args.declarations.now) (least_view c.note_no_node.new.least) (least_view c.declarations_twice.new.least)
    (least_view c.alone.new.least) (least_view c.circles.new.least) (search rules)
    (subst (λ p. Notes (least_view c.note_no_node.new.least) (least_view c.declarations_twice.new.least)
    (words_twice name_twice (map declaration_word (program_view p)))) c.program-2.ensures c.in_ok-declarations_twice.ensures) c.in_ok-tables.ensures.noted
    c.in_ok-circles.ensures
