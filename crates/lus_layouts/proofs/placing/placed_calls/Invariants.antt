use Rattle.std.proofs.Common.{◌≡◌, ◌++◌, drop}
use Rattle.lus_layouts.specs.Layouts.{calls_from}
use Rattle.lus_layouts.proofs.placing.placed_calls.Given as goal

-- what is there, followed by what is to come, is all
abbrev pub invariant-loop-link : goal.invariant-loop-link
invariant-loop-link l = l.calls.items ++ calls_from l.before (drop l.link-index l.links) ≡ calls_from 0 l.links
