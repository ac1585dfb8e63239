-- What the library of all declarations gives of the circles and orders of a program.
use Rattle.std.specs.Prelude.{◌↔◌, ℕ, List, Contains}
use Rattle.lus_tree.specs.Tree.{Component, Program}
use Rattle.lus_tree.specs.Reason.{Refused}
use Rattle.lus_meaning.specs.ClockFaults.{components}
use Rattle.lus_meaning.specs.Cycle.{ReadsNow}
use Rattle.lus_meaning.specs.EquationFaults.{IsCircleFault, IsEquationFault}
use Rattle.lus_meaning.specs.Grammatical.{IsGrammatical}
use Rattle.lus_meaning.specs.Order.{IsLeastEquationOrder}
use Rattle.lus_meaning.specs.Program.{instance_of}
use Rattle.lus_meaning.specs.Refusals.{HasNone, IsTyped}
use Rattle.lus_meaning.specs.Run.{equations}
use Rattle.way_laws.specs.Circles.{IsOwnCircle}
use Rattle.way_laws.specs.Summaries.{CalleesExact}
use Rattle.lus_order.specs.declared.library.Library.{Library}
use Rattle.lus_order.specs.Learned.{IsLibraryOf}
use Rattle.lus_order.specs.Library.{library_view}
use Rattle.lus_order.specs.Ordered.{IsOrdered}
use Rattle.lus_order.specs.OutputReads.{AreReads, LeadsOne}

-- the summaries of all that a declaration calls and imports are exact
abbrev pub LibraryExact : Type 0
LibraryExact =
    (p : Program) → IsGrammatical p → IsTyped p → (l : Library) → IsLibraryOf p l → (n : Component) → Contains (components p) n
    → CalleesExact p n (library_view l)

-- so the circles by its own graph are its faults
abbrev pub CirclesByLibrary : Type 0
CirclesByLibrary =
    (p : Program) → IsGrammatical p → IsTyped p → (l : Library) → IsLibraryOf p l → (n : Component) → Contains (components p) n
    → (r : Refused) → IsOwnCircle n (library_view l) r ↔ IsCircleFault p n r

-- and where the program has no fault of equations, what is made of a declaration is the least order of its equations
abbrev pub OrdersByLibrary : Type 0
OrdersByLibrary =
    (p : Program) → IsGrammatical p → IsTyped p → (l : Library) → IsLibraryOf p l → HasNone (IsEquationFault p)
    → (n : Component) → Contains (components p) n → (ks : List ℕ) → IsOrdered n (library_view l) ks
    → IsLeastEquationOrder (instance_of p n) (equations n) ks

-- and the inputs to which outputs lead in it are those on which they depend at the same instant
abbrev pub ReadsByLibrary : Type 0
ReadsByLibrary =
    (p : Program) → IsGrammatical p → IsTyped p → (l : Library) → IsLibraryOf p l → (n : Component) → Contains (components p) n
    → (kss : List (List ℕ)) → AreReads (LeadsOne n (library_view l)) n.inputs n.outputs kss
    → AreReads (ReadsNow (instance_of p n)) n.inputs n.outputs kss
