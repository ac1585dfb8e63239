use Rattle.std.proofs.Common.{◌≡◌, ◌++◌, List, drop}
use Rattle.lus_meaning.specs.Cycle.{Place}
use Rattle.evaluation_parts.specs.PartViews.{filled_each, needed_in}
use Rattle.evaluation_parts.proofs.part.push_copies.Given as goal

abbrev pub invariant-loop-part : goal.invariant-loop-part
invariant-loop-part l = (ns : List Place) → filled_each ns l.parts.items ++ filled_each (needed_in ns l.whole) (drop l.part-index l.more)
    ≡ filled_each ns l.initial.parts.items ++ filled_each (needed_in ns l.whole) l.more
