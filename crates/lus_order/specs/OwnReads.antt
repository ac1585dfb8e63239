-- What is read, with the modes replaced by what they read, is what the own graph of a declaration says.
use Rattle.std.specs.Prelude.{◌≡◌, Bool, List, [], ◌∷◌, map, flat_map}
use Rattle.lus_tree.specs.Tree.{Name, Component, Expression}
use Rattle.lus_meaning.specs.Scene.{Clock, clock_of}
use Rattle.lus_meaning.specs.Depends.{named_in}
use Rattle.lus_meaning.specs.EquationFaults.{clock_names}
use Rattle.way_laws.specs.OwnGraph.{Summaries, ModeReads, known_reads, reads}
use Rattle.lus_order.specs.Reads.{Read, a_name, a_mode, read_in}

abbrev pub expanded : ModeReads → Read → List Name
expanded m (a_name x) = x ∷ []
expanded m (a_mode key) = known_reads m key

-- the names of the clocks are those of the declaration
abbrev pub AreClocksOf : Component → (Name → List Name) → Type 0
AreClocksOf n k = (x : Name) → k x ≡ clock_names (clock_of n x)

-- for each callee whether its summary reads its inputs, one behind the other
abbrev pub AreFlagsOf : Summaries → (Name → List Bool) → Type 0
AreFlagsOf g h = (f : Name) → h f ≡ map (λ x. named_in x (g f).reads) (g f).inputs

-- an expression reads by its own graph what is read in it, modes replaced
abbrev pub ReadsAreOwn : Type 0
ReadsAreOwn =
    (n : Component) (g : Summaries) (k : Name → List Name) (h : Name → List Bool) → AreClocksOf n k → AreFlagsOf g h
    → (m : ModeReads) (c : Clock) (e : Expression) → reads n g m c e ≡ flat_map (expanded m) (read_in k h (clock_names c) e)
