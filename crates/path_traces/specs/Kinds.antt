-- What contracts see of what is numbered.
use Rattle.std.specs.Prelude.{ℕ, List}
use Rattle.lus_tree.specs.Tree.{Expression}
use Rattle.lus_tree.specs.Numbers.{Counted, a_pre, an_arrow, own_number, numbers}
use Rattle.path_traces.specs.declared.numbers.Kind.{Kind}
use Rattle.path_traces.specs.declared.numbers.Kind.TheVariants.{Pre, Arrow}

abbrev pub kind_view : Kind → Counted
kind_view Pre = a_pre
kind_view Arrow = an_arrow

-- the numbers of that kind in an expression
abbrev pub numbers_of : Kind → Expression → List ℕ
numbers_of k e = numbers (own_number (kind_view k)) e
