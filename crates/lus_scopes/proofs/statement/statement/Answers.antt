use Rattle.std.proofs.Common.{map}
use Rattle.lus_tree.specs.Tree.{text_of}
use Rattle.lus_tree.specs.View.{word_view}
use Rattle.lus_meaning.specs.Scene.{clock_of_names}
use Rattle.lus_scopes.specs.Scopes.{scope_view}
use Rattle.lus_scopes.proofs.statement.statement.Goals as goal

pub returns-in-Equation : goal.returns-in-Equation
returns-in-Equation c =
    λ fs i. rw (c.in-Equation.is, ← c.deref.ensures.value) (c.equation.ensures fs
    (clock_of_names (scope_view c.args.scope.now).owner (map text_of (map word_view c.deref.result.now))) i)
