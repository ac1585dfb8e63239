use Rattle.std.specs.Prelude.{◌≡◌, take, length}
use Rattle.sat_core.specs.Set.{IsTied}
use Rattle.sat_core.specs.Trail.{trues, IsApart}
use Rattle.sat_core.specs.Decisions.{decisions_from}
use Rattle.sat_core.proofs.assignment.cut_entries.Given as goal

abbrev pub invariant-loop-entries : goal.invariant-loop-entries
invariant-loop-entries l =
    IsTied l.marks.items (trues l.entries.items) × IsApart l.entries.items
    × (l.decisions.items ≡ decisions_from 0 l.entries.items)
    × (take l.length l.entries.items ≡ take l.length l.fn.entries.items)

abbrev pub decreases-loop-entries : goal.decreases-loop-entries
decreases-loop-entries l = length l.entries.items
