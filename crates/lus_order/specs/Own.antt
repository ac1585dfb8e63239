-- What is made of a declaration: its streams, equations and modes, and the rows of its own graph.
use Rattle.std.specs.Prelude.{◌≡◌}
use Rattle.lus_tree.specs.Tree.{Component}
use Rattle.lus_meaning.specs.Scene.{variables}
use Rattle.lus_meaning.specs.Run.{equations}
use Rattle.lus_meaning.specs.EquationFaults.{sides}
use Rattle.lus_meaning.specs.WellMade.{AreDistinct}
use Rattle.lus_order.specs.declared.library.Library.{Library}
use Rattle.lus_order.specs.declared.own.Own.{Own}
use Rattle.number_graphs.specs.Graphs.{graph_view}
use Rattle.lus_order.specs.Library.{library_view}
use Rattle.lus_order.specs.OwnNodes.{HasLefts, own_modes}
use Rattle.lus_order.specs.OwnRows.{own_rows}
use Rattle.lus_order.specs.Rows.{modes_view}
use Rattle.lus_order.specs.Sides.{equations_view, words_of}
use Rattle.lus_order.specs.Streams.{AreTabled, params_view}

-- by what is known of the declarations that it calls and imports
pub record IsOwn (n : Component) (l : Library) (o : Own) : Type 0 where
  pub streams : params_view o.params.items ≡ variables n
  pub equated : equations_view o.sides.items ≡ equations n
  pub spelled : words_of o.sides.items ≡ sides n
  pub tabled : AreTabled (variables n) o.clocks
  pub distinct : AreDistinct o.clocks.names
  pub lefts : HasLefts n o.clocks.names
  pub modes : modes_view o.modes.items ≡ own_modes o.clocks l.callees (library_view l) n
  pub graph : graph_view o.graph ≡ own_rows o.clocks l.callees (own_modes o.clocks l.callees (library_view l) n) (equations n)
