-- Weights, cut where they are too great, and the values and weights that are kept of expressions.
use Rattle.std.specs.Prelude.{ℕ, min, nat_le, nat_lt, nat_abs, Bool, true, false, ◌&&◌, Option, Some, None, option_map}
use Rattle.lus_meaning.specs.declared.value.Value.{Value as CodeValue}
use Rattle.lus_meaning.specs.CodeValue.{value_view}
use Rattle.lus_meaning.specs.Value.{Value, absent, flag, whole}
use Rattle.lus_meaning.specs.Scope.{Worth}

-- the least weight that is too great
abbrev pub heaviest : ℕ
heaviest = 9223372036854775809

-- a weight, or the least that is too great where it is that or more
abbrev pub cut : Option ℕ → Option ℕ
cut = option_map (λ w. min heaviest w)

abbrev pub known_value : Option CodeValue → Value
known_value None = absent
known_value (Some v) = value_view v

abbrev pub cut_worth : Worth → Worth
cut_worth w = record { value = w.value; weight = cut w.weight }

-- a number is no larger than its weight, which isn't too great
abbrev pub is_bounded : Value → Option ℕ → Bool
is_bounded absent w = true
is_bounded (flag b) w = true
is_bounded (whole n) None = false
is_bounded (whole n) (Some w) = nat_le (nat_abs n) w && nat_lt w heaviest
