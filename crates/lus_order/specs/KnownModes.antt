-- What is known of the modes of a declaration stands for what these read.
use Rattle.std.specs.Prelude.{◌≡◌, List, [], ◌∷◌, ◌++◌}
use Rattle.lus_tree.specs.Tree.{Name, Component}
use Rattle.lus_meaning.specs.Scene.{variables}
use Rattle.lus_meaning.specs.WellMade.{AreDistinct}
use Rattle.way_laws.specs.OwnGraph.{Summaries}
use Rattle.way_laws.specs.Summaries.{IsSummary}
use Rattle.lus_order.specs.declared.library.Known.{Known}
use Rattle.lus_order.specs.declared.setting.Clocks.{Clocks}
use Rattle.lus_order.specs.declared.setting.Callees.{Callees}
use Rattle.number_graphs.specs.Graphs.{Rows}
use Rattle.lus_order.specs.Library.{known_modes, known_view, texts_seen}
use Rattle.lus_order.specs.MarkedNames.{AreFound}
use Rattle.lus_order.specs.OwnNodes.{AreNodes, own_modes}
use Rattle.lus_order.specs.OwnReads.{AreFlagsOf}
use Rattle.lus_order.specs.OwnRows.{numbers_of}
use Rattle.lus_order.specs.Reads.{callees_view}
use Rattle.lus_order.specs.Rows.{ModeRows}
use Rattle.lus_order.specs.Streams.{AreTabled, names_of}

-- the modes of a contract's own, in their order, each with those of the given names to which its row leads
abbrev pub AreKnown : Rows → List Name → List Name → ModeRows → List (Name × List Name) → Type 0
AreKnown rows names given [] [] = Unit {0}
AreKnown rows names given [] (k ∷ ks) = Prim.⊥
AreKnown rows names given ((([], m), row) ∷ ms) [] = Prim.⊥
AreKnown rows names given ((([], m), row) ∷ ms) (k ∷ ks) = (k.0 ≡ m) × AreFound rows names row given k.1 × AreKnown rows names given ms ks
AreKnown rows names given (((c ∷ cs, m), row) ∷ ms) ks = AreKnown rows names given ms ks

-- What is known of a declaration, by the rows of its own graph and of its modes: its inputs and outputs, and of these what
-- the row of the outputs leads to, and that of each mode.
pub record IsKnown (n : Component) (rows : Rows) (names : List Name) (ms : ModeRows) (k : Known) : Type 0 where
  pub inputs : texts_seen k.inputs.items ≡ names_of n.inputs
  pub outputs : texts_seen k.outputs.items ≡ names_of n.outputs
  pub reads : AreFound rows names (numbers_of names (names_of n.outputs)) (names_of n.inputs ++ names_of n.outputs) k.reads
  pub modes : AreKnown rows names (names_of n.inputs ++ names_of n.outputs) ms (known_modes k.modes.items)

-- it is the summary by the own graph for which the rows stand
abbrev pub KnownAreSummaries : Type 0
KnownAreSummaries =
    (n : Component) (g : Summaries) (s : Clocks) (t : Callees) (rows : Rows) (k : Known) → AreTabled (variables n) s → AreDistinct s.names
    → AreDistinct (names_of (variables n)) → AreFlagsOf g (callees_view t) → AreNodes n g s.names rows
    → IsKnown n rows s.names (own_modes s t g n) k → IsSummary n g (known_view k)
