use Rattle.std.proofs.Common.{◌≡◌, ◌++◌, drop, map, flat_map}
use Rattle.lus_tree.specs.View.{program_view}
use Rattle.lus_limits.specs.Calls.{call_view}
use Rattle.lus_properties.specs.Marks.{call_owes}
use Rattle.lus_properties.specs.Views.{property_view}
use Rattle.lus_properties.proofs.listing.push_all_owed.Given as goal

-- what is there, followed by what is to come, is all
abbrev pub invariant-loop-call : goal.invariant-loop-call
invariant-loop-call l = map property_view l.properties.items
    ++ flat_map (call_owes l.depth (program_view l.program)) (map call_view (drop l.call-index l.calls))
    ≡ map property_view l.initial.properties.items ++ flat_map (call_owes l.depth (program_view l.program)) (map call_view l.calls)
