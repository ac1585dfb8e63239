use Rattle.std.proofs.Common.{◌≡◌, ◌++◌, drop, map, flat_map}
use Rattle.lus_limits.specs.Calls.{call_view, calls_in}
use Rattle.lus_limits.specs.Parts.{sides_view}
use Rattle.lus_limits.proofs.calls.push_calls_of_sides.Given as goal

-- what is there, followed by what is to come, is all
abbrev pub invariant-loop-side : goal.invariant-loop-side
invariant-loop-side l = map call_view l.calls.items ++ flat_map calls_in (sides_view (drop l.side-index l.sides))
    ≡ map call_view l.initial.calls.items ++ flat_map calls_in (sides_view l.sides)
