use Rattle.lus_tree.specs.Tree.{Program}
use Rattle.lus_meaning.specs.ClockFaults.{components}
use Rattle.lus_meaning.specs.NameFaults.{recursion_faults}
use Rattle.lus_scopes.specs.Least.{least_view}
use Rattle.lus_scopes.proofs.Loops.{OnTheWay}
use Rattle.lus_types.specs.Circles.{IsGraph}
use Rattle.lus_types.proofs.walk.each_circle.Given as goal

abbrev pub invariant-loop-number : goal.invariant-loop-number
invariant-loop-number l =
    (p : Program) → IsGraph p l.graph → OnTheWay (recursion_faults p) (components p) l.number (least_view l.initial.least) (least_view l.least)
