use Rattle.std.proofs.Common.{◌≡◌, ◌++◌, drop, flat_map}
use Rattle.lus_tree.specs.View.{program_view}
use Rattle.lus_types.specs.Sides.{sides_view}
use Rattle.lus_types.specs.States.{state_of}
use Rattle.lus_types.proofs.state.states_of.Given as goal

-- what is there, followed by what is to come, is all
abbrev pub invariant-loop-e : goal.invariant-loop-e
invariant-loop-e l = l.places.items ++ flat_map (state_of (program_view l.declarations)) (sides_view (drop l.e-index l.all))
    ≡ flat_map (state_of (program_view l.declarations)) (sides_view l.all)
