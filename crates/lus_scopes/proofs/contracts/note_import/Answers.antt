use Rattle.std.proofs.Common.{◌++◌, ◌∙◌, ap, map, flat_map}
use Rattle.lus_tree.specs.View.{expr_view, word_view}
use Rattle.lus_meaning.specs.Scene.{base}
use Rattle.lus_meaning.specs.Occurrences.{on_clock}
use Rattle.lus_meaning.specs.Scope.{contract_named}
use Rattle.lus_meaning.specs.ExpressionFaults.{expression_faults}
use Rattle.lus_meaning.specs.NameFaults.{import_fits, output_known}
use Rattle.lus_scopes.specs.Least.{least_view}
use Rattle.lus_scopes.specs.Scopes.{scope_view}
use Rattle.lus_scopes.proofs.Noting.{all_noted, both_noted, fits_named}
use Rattle.lus_scopes.proofs.contracts.note_import.Goals as goal

pub returns : goal.returns
returns c =
    both_noted (least_view c.args.least.now) (least_view c.expressions.new.least) (least_view c.note_fit.new.least)
    (flat_map (expression_faults (scope_view c.args.scope.now) (on_clock base)) (map expr_view c.args.arguments.now))
    (flat_map (output_known (scope_view c.args.scope.now)) (map word_view c.args.outputs.now)
    ++ import_fits (scope_view c.args.scope.now) (word_view c.args.word.now) (map expr_view c.args.arguments.now)
    (map word_view c.args.outputs.now) (contract_named (scope_view c.args.scope.now).program (word_view c.args.word.now).text))
    c.expressions.ensures
    (both_noted (least_view c.expressions.new.least) (least_view c.note_outputs.new.least) (least_view c.note_fit.new.least)
    (flat_map (output_known (scope_view c.args.scope.now)) (map word_view c.args.outputs.now))
    (import_fits (scope_view c.args.scope.now) (word_view c.args.word.now) (map expr_view c.args.arguments.now)
    (map word_view c.args.outputs.now) (contract_named (scope_view c.args.scope.now).program (word_view c.args.word.now).text))
    (all_noted _ _ _ c.note_outputs.ensures)
    (fits_named (scope_view c.args.scope.now) (word_view c.args.word.now) (map expr_view c.args.arguments.now)
    (map word_view c.args.outputs.now) _
    (contract_named (scope_view c.args.scope.now).program (word_view c.args.word.now).text) (least_view c.note_outputs.new.least)
    (least_view c.note_fit.new.least)
    (c.contract-imported.ensures ∙ ap (λ x. contract_named (scope_view c.args.scope.now).program x) c.deref.ensures)
    c.note_fit.ensures))
