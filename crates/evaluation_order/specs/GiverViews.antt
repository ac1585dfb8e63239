-- What contracts see of givers, and of the parts that are found by them.
use Rattle.std.specs.Prelude.{◌≡◌, ◌<◌, ℕ, ◌+◌, Bool, List, map, length, Some, slice_get}
use Rattle.lus_evaluation.specs.Part.{Part}
use Rattle.number_graphs.specs.Graphs.{Rows, row_at, AreReached}
use Rattle.evaluation_order.specs.declared.givers.Giver.{Giver as GiverCode}
use Rattle.evaluation_order.specs.Givers.{Giver, given_above}

abbrev pub giver_view : GiverCode → Giver
giver_view g = record { part = g.part; way = g.way.now; place = g.place }

abbrev pub givers_view : List GiverCode → List Giver
givers_view gs = map giver_view gs

-- those givers above a way to whose places a number of the graph leads
pub record IsFound (rows : Rows) (k : ℕ) (w : List ℕ) (gs : List Giver) (row : List ℕ) : Type 0 where
  pub marks : List Bool
  pub reached : AreReached rows k marks
  pub found : row ≡ given_above marks w gs

-- they are found for the first so many parts, of which the first has that number in the graph
pub record AreFound (rows : Rows) (first : ℕ) (qs : List Part) (gs : List Giver) (count : ℕ) (found : Rows) : Type 0 where
  pub many : length found ≡ count
  pub each : (k : ℕ) (q : Part) → k < count → slice_get qs k ≡ Some q → IsFound rows (first + k) q.way gs (row_at found k)
