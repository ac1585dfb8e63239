-- What quotients are.
use Rattle.std.specs.Prelude.{◌≡◌, unsigned_abs}
use lib.IntN.{ℤ, pos, ◌+ℤ◌, ◌*ℤ◌}
use lib.Signed.{◌≤ℤ◌, ◌<ℤ◌}

-- q is the greatest whole number whose product with d is at most n
pub record IsFloor (n d q : ℤ) : Type 0 where
  pub at_most : (d *ℤ q) ≤ℤ n
  pub greatest : n <ℤ (d *ℤ q +ℤ d)

-- q is a quotient and r the remainder, from 0 to |d| - 1
pub record IsDivision (n d q r : ℤ) : Type 0 where
  pub whole : d *ℤ q +ℤ r ≡ n
  pub low : pos 0 ≤ℤ r
  pub high : r <ℤ pos (unsigned_abs d)
