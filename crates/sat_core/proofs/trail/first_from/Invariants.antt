use Rattle.std.specs.Prelude.{◌≡◌, drop}
use Rattle.sat_core.specs.Decisions.{first_from}
use Rattle.sat_core.proofs.trail.first_from.Given as goal

-- the first one of what is to come is that of all
abbrev pub invariant-loop-place : goal.invariant-loop-place
invariant-loop-place l = first_from l.low l.end (drop l.place-index l.places) ≡ first_from l.low l.end l.places
