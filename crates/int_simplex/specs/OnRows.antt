-- Values under which the sum of each given row is 0.
use Rattle.std.specs.Prelude.{◌≡◌, All}
use lib.IntN.{pos}
use Rattle.proof_steps.specs.Meaning.{sum_of}
use Rattle.int_simplex.specs.State.{State}
use Rattle.int_simplex.specs.Points.{Point, HasValues}

-- the columns' values meet the given rows
abbrev pub AreOnRows : State → Type 0
AreOnRows s = (p : Point) → HasValues p s.values → All (λ r. sum_of p.tops r ≡ pos 0) s.given
