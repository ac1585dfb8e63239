use Rattle.std.proofs.Common.{true, false, ◌++◌, map}
use Rattle.lus_tree.specs.View.{expr_view, word_view}
use Rattle.lus_meaning.specs.ExpressionFaults.{equation_faults, sides_fit}
use Rattle.lus_scopes.specs.Least.{least_view}
use Rattle.lus_scopes.specs.Scopes.{scope_view}
use Rattle.lus_scopes.specs.Walk.{whole_walk}
use Rattle.lus_scopes.proofs.Alike.{least_behind}
use Rattle.lus_scopes.proofs.EquationParts.{names_used, equation_chain, equation_same}
use Rattle.lus_scopes.proofs.equation.equation.Goals as goal

pub returns : goal.returns
returns c =
    λ fs k i. least_behind (least_view c.args.least.now) (least_view c.note_sides.new.least) fs
    (names_used (scope_view c.args.scope.now) (map word_view c.args.words.now) ++
    (whole_walk (scope_view c.args.scope.now) true false (expr_view c.args.e.now) ++ sides_fit (scope_view c.args.scope.now)
    (map word_view c.args.words.now) (expr_view c.args.e.now)))
    (equation_faults (scope_view c.args.scope.now) k (map word_view c.args.words.now) (expr_view c.args.e.now))
    (equation_chain (scope_view c.args.scope.now) (map word_view c.args.words.now) (expr_view c.args.e.now) c.part-found.result
    (least_view c.args.least.now) (least_view c.note_names.new.least) (least_view c.part-found.new.least)
    (least_view c.note_sides.new.least)
    c.part-found.ensures.part c.note_names.ensures c.part-found.ensures.least c.note_sides.ensures)
    (equation_same (scope_view c.args.scope.now) k (map word_view c.args.words.now) (expr_view c.args.e.now)) i
