use Rattle.std.proofs.Common.{◌∙◌, ap, map, flat_map, None}
use Rattle.lus_tree.specs.View.{decl_view, program_view}
use Rattle.lus_scopes.specs.Least.{least_view, noted_all}
use Rattle.lus_clocks.specs.Items.{declaration_walk}
use Rattle.lus_clocks.proofs.Same.{least_of_program}
use Rattle.lus_clocks.proofs.program.checked.Goals as goal

pub returns-clause-least : goal.returns-clause-least
returns-clause-least c =
    least_of_program (program_view c.args.program.now) (least_view c.declarations.new.least)
    (c.in_ok-tables.ensures.noted ∙ ap (λ z. noted_all z (flat_map declaration_walk (map decl_view c.deref.result.now))) c.new-least.ensures
    ∙ ap (λ z. noted_all None (flat_map declaration_walk (map decl_view z))) c.deref.ensures.value)
