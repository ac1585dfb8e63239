use Rattle.std.specs.Prelude.{◌≡◌, All, List, take, true}
use Rattle.sat_core.specs.declared.assigned.Assigned.{Assigned}
use Rattle.sat_core.specs.Looking.{late}
use Rattle.sat_core.specs.declared.short.Short.{Short}
use Rattle.sat_core.specs.Watching.{IsWatched}
use Rattle.sat_core.specs.Visiting.{IsAdvance, IsImpliedShort}
use Rattle.sat_core.proofs.propagation.imply_shorts.Given as goal

abbrev pub invariant-loop-short : goal.invariant-loop-short
invariant-loop-short l =
    IsWatched l.clauses l.assignment l.watches l.head
    × IsAdvance l.clauses l.fn.assignment l.assignment
    × All (λ (s : Short). IsImpliedShort l.clauses l.assignment s.number true) (take l.short-index l.shorts)
    × ((before : List Assigned) → late l.clauses before l.assignment ≡ late l.clauses before l.fn.assignment)
