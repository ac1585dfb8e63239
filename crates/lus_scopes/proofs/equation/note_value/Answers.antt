use Rattle.std.proofs.Common.{◌∙◌, ap, sym, arith}
use Rattle.lus_scopes.specs.Least.{least_view, noted_all}
use Rattle.lus_scopes.specs.Scopes.{scope_view}
use Rattle.lus_scopes.proofs.EquationParts.{several}
use Rattle.lus_scopes.proofs.equation.note_value.Goals as goal

pub returns-in-len2-up : goal.returns-in-len2-up
returns-in-len2-up c = c.note-in-len2-up.ensures ∙ ap (noted_all (least_view c.args.least.now))
    (sym (several (scope_view c.args.scope.now) c.args.words.now c.args.found.now.sort c.args.found.now.from
    (omega (arith, c.in-len2-up.len_at_least))))
