-- The first clock of several.
use Rattle.std.proofs.Common.{◌≡◌, refl, Option, Some, None}
use Rattle.lus_meaning.specs.Scene.{Clock}
use Rattle.lus_meaning.specs.ClockFaults.{or_else}

pub or_else_none : (o : Option Clock) → or_else o None ≡ o
or_else_none None = refl
or_else_none (Some c) = refl

pub or_else_of_three : (k c d : Option Clock) → or_else (or_else k c) d ≡ or_else k (or_else c d)
or_else_of_three None c d = refl
or_else_of_three (Some b) c d = refl

pub ruleset or_elses = (
  or_else_none,
  or_else_of_three,
)
