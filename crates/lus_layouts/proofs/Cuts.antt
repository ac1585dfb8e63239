-- Cut sums.
use Rattle.std.proofs.Common.{◌≡◌, ℕ, ◌+◌, arith}
use Rattle.lus_limits.specs.Summaries.{cut}

pub cut_next : (b h w : ℕ) → cut (b + cut (h + cut w)) ≡ cut (b + (h + w))
cut_next b h w = omega arith
