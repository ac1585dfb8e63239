-- What contracts see of equations.
use Rattle.std.specs.Prelude.{List, map}
use Rattle.lus_tree.specs.View.{expr_view}
use Rattle.lus_meaning.specs.Run.{Equation}
use Rattle.evaluation_parts.specs.declared.bodies.Side.{Side}
use Rattle.evaluation_parts.specs.PartViews.{given}

abbrev pub side_view : Side → Equation
side_view s = record { names = given s.gives; right = expr_view s.right.now }

abbrev pub sides_view : List Side → List Equation
sides_view ss = map side_view ss
