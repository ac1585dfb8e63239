-- The streams of a declaration, and a table of their clocks by their names.
use Rattle.std.specs.Prelude.{◌≡◌, List, [], ◌∷◌, ◌++◌, map}
use Rattle.std.specs.Borrow.{Bor}
use Rattle.lus_tree.specs.declared.place.Param.{Param}
use Rattle.lus_tree.specs.Tree.{Name, Variable}
use Rattle.lus_tree.specs.View.{param_view}
use Rattle.lus_meaning.specs.Scene.{clock_from}
use Rattle.lus_meaning.specs.EquationFaults.{clock_names}
use Rattle.lus_meaning.specs.Run.{Equation}
use Rattle.name_table.specs.Names.{add}
use Rattle.lus_order.specs.declared.setting.Clocks.{Clocks}
use Rattle.lus_order.specs.Reads.{clock_seen}

abbrev pub params_view : List (Bor Param) → List Variable
params_view vs = map (λ v. param_view v.now) vs

abbrev pub names_of : List Variable → List Name
names_of vs = map (λ v. v.name.text) vs

-- the name of a stream's clock
abbrev pub stream_clock : Variable → List Name
stream_clock v = clock_names (clock_from v.clock)

-- The table has these streams, each with its clock, in their order, and behind them other names without a clock.
pub record AreTabled (vs : List Variable) (s : Clocks) : Type 0 where
  pub others : List Name
  pub names : s.names ≡ names_of vs ++ others
  pub clocks : map clock_seen s.clocks.items ≡ map stream_clock vs ++ map (λ x. []) others

-- the names, and behind them those of these that are new
abbrev pub with_all : List Name → List Name → List Name
with_all ks [] = ks
with_all ks (x ∷ xs) = with_all (add ks x) xs

abbrev pub with_sides : List Name → List Equation → List Name
with_sides ks [] = ks
with_sides ks (e ∷ es) = with_sides (with_all ks e.names) es

-- the table has more names, which have no clock
pub record Widened (old new : Clocks) : Type 0 where
  pub others : List Name
  pub names : new.names ≡ old.names ++ others
  pub clocks : map clock_seen new.clocks.items ≡ map clock_seen old.clocks.items ++ map (λ x. []) others
