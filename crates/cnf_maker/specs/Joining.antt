-- Two sums joined from their fronts.
use Rattle.std.specs.Prelude.{ℕ, ◌≡◌, List, ◌++◌, Result, Ok}
use lib.IntN.{ℤ}
use Rattle.kind_num.specs.declared.Op.{Op}
use Rattle.kind_num.specs.declared.Past.{Past}
use Rattle.sys_terms.specs.Evaluated.{and_then, exact}
use Rattle.cnf_maker.specs.Linear.{put, with_term, with_terms}

-- the terms that are made, and those that two lists still give
abbrev pub pending : Op → List (ℕ × ℤ) → List (ℕ × ℤ) → List (ℕ × ℤ) → Result (List (ℕ × ℤ)) Past
pending op made ts us = and_then (with_terms op ts us) (λ vs. Ok (made ++ vs))

-- the coefficient of x in front of ts is c, or 0 where it has none, and `rest` are the terms after it
abbrev pub HasAt : Op → List (ℕ × ℤ) → ℕ → ℤ → ℤ → List (ℕ × ℤ) → Type 0
HasAt op ts x b c rest = with_term op ts x b ≡ and_then (exact op c b) (λ z. Ok (put x z rest))
