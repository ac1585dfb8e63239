-- The circles and the order of a declaration, by what is known of those that it calls and imports.
use Rattle.std.specs.Prelude.{◌≡◌, ◌↔◌, ℕ, Bool, List, [], length, Contains, Option}
use Rattle.std.proofs.Math.Logic.{◌⊎◌}
use Rattle.lus_tree.specs.Tree.{Name, Component}
use Rattle.lus_tree.specs.Reason.{Refused}
use Rattle.lus_scopes.specs.Least.{noted_all}
use Rattle.way_laws.specs.Circles.{IsOwnCircle}
use Rattle.way_laws.specs.OwnGraph.{Summaries}
use Rattle.lus_order.specs.declared.own.Own.{Own}
use Rattle.lus_order.specs.Backs.{AreFlagged, flagged_faults}
use Rattle.lus_order.specs.ClockCircles.{free_rows, marked_faults}
use Rattle.number_graphs.specs.Graphs.{Rows, HasCircle, AreOnCircles, graph_view}
use Rattle.lus_order.specs.OwnNodes.{AreNodes}
use Rattle.lus_order.specs.OwnOrders.{IsOrderOf}
use Rattle.lus_order.specs.Sides.{equations_view, words_of}
use Rattle.lus_order.specs.Streams.{params_view, with_sides}

-- noted are the faults of circles by the own graph
pub record NotesCircles (n : Component) (g : Summaries) (old new : Option Refused) : Type 0 where
  pub faults : List Refused
  pub noted : new ≡ noted_all old faults
  pub all : (r : Refused) → Contains faults r ↔ IsOwnCircle n g r

-- the least order by the own graph, or none where that has a circle
pub record IsOrdered (n : Component) (g : Summaries) (ks : List ℕ) : Type 0 where
  pub names : List Name
  pub rows : Rows
  pub nodes : AreNodes n g names rows
  pub order : HasCircle rows ⊎ IsOrderOf (length names) rows ks

-- noted are the equations of what is made of a declaration that are flagged, and the streams that are marked
pub record NotesOwn (o : Own) (old new : Option Refused) : Type 0 where
  pub flags : List Bool
  pub marks : List Bool
  pub flagged : AreFlagged (graph_view o.graph) o.clocks.names (words_of o.sides.items) flags
  pub marked : AreOnCircles (free_rows o.clocks (with_sides [] (equations_view o.sides.items))) marks
  pub noted : new ≡ noted_all (noted_all old (flagged_faults (words_of o.sides.items) flags)) (marked_faults (params_view o.params.items) marks)
