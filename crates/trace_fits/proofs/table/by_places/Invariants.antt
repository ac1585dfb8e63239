use Rattle.std.proofs.Common.{◌≡◌, ℕ, List, map, take}
use Rattle.lus_meaning.specs.Trace.{Subject}
use Rattle.trace_fits.specs.Slotted.{slotted_at}
use Rattle.trace_fits.specs.Views.{found_at, slotted_view}
use Rattle.trace_fits.proofs.table.by_places.Given as goal

-- the first ones of those so far
abbrev pub invariant-loop-listable : goal.invariant-loop-listable
invariant-loop-listable l = (path : List ℕ) (x : Subject)
    → found_at l.places path x ≡ slotted_at (map slotted_view (take l.listable-index l.listables)) path x
