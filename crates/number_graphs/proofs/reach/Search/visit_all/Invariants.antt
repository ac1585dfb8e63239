use Rattle.std.proofs.Common.{◌≡◌, drop}
use Rattle.number_graphs.specs.Visits.{state_view, visited_all}
use Rattle.number_graphs.proofs.reach.Search.visit_all.Given as goal

abbrev pub invariant-loop-number : goal.invariant-loop-number
invariant-loop-number l = visited_all (state_view l.self) (drop l.number-index l.numbers) ≡ visited_all (state_view l.initial.self) l.numbers
