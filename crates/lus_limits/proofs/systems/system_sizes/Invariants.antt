use Rattle.std.proofs.Common.{◌≡◌, ◌++◌, drop, map}
use Rattle.lus_tree.specs.View.{program_view}
use Rattle.lus_meaning.specs.ClockFaults.{components}
use Rattle.lus_limits.specs.SystemSizes.{system_size}
use Rattle.lus_limits.proofs.systems.system_sizes.Given as goal

-- what is there, followed by what is to come, is all
abbrev pub invariant-loop-number : goal.invariant-loop-number
invariant-loop-number l = l.sizes.items ++ map (system_size (program_view l.program)) (drop l.number (components (program_view l.program)))
    ≡ map (system_size (program_view l.program)) (components (program_view l.program))
