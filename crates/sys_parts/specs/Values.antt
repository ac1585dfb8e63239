-- Values of constants, of which numbers are kept that are not too great.
use Rattle.std.specs.Prelude.{ℕ, nat_lt, nat_abs, Bool, true, cond, Option, Some, None}
use Rattle.lus_meaning.specs.declared.value.Value.{Value as CodeValue}
use Rattle.lus_meaning.specs.CodeValue.{value_view}
use Rattle.lus_meaning.specs.Value.{Value, absent, flag, whole}

-- a value; none is absent
abbrev pub known_value : Option CodeValue → Value
known_value None = absent
known_value (Some v) = value_view v

-- the least size of a number that is too great
abbrev pub greatest : ℕ
greatest = 9223372036854775809

abbrev pub is_small : Value → Bool
is_small absent = true
is_small (flag b) = true
is_small (whole n) = nat_lt (nat_abs n) greatest

-- absent, where it is a number that is too great
abbrev pub tame : Value → Value
tame v = cond (is_small v) v absent
