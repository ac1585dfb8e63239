-- The equations of a declaration, ghost ones included.
use Rattle.std.specs.Prelude.{List, map}
use Rattle.lus_tree.specs.Tree.{Spelled, text_of}
use Rattle.lus_tree.specs.View.{expr_view}
use Rattle.lus_meaning.specs.Run.{Equation}
use Rattle.lus_order.specs.declared.sides.Side.{Side}
use Rattle.lus_order.specs.Names.{words_view}

abbrev pub side_words : Side → List Spelled
side_words s = words_view s.words.items

abbrev pub equation_view : Side → Equation
equation_view s = record { names = map text_of (side_words s); right = expr_view s.right.now }

abbrev pub equations_view : List Side → List Equation
equations_view ss = map equation_view ss

abbrev pub words_of : List Side → List (List Spelled)
words_of ss = map side_words ss
