-- How many names a declaration has, cut.
use Rattle.std.specs.Prelude.{ℕ, min}

-- one past the greatest number of names
abbrev pub name_bound : ℕ
name_bound = 2001

abbrev pub cut_names : ℕ → ℕ
cut_names k = min name_bound k
