-- Terms that compare no numbers.
use Rattle.std.specs.Prelude.{Bool, true, false, ◌&&◌}
use Rattle.sys_terms.specs.View.{Formula, truth, flag, negation, both, same, choice, at_most, equal}

abbrev pub is_boolean : Formula → Bool
is_boolean (truth b) = true
is_boolean (flag v) = true
is_boolean (negation f) = is_boolean f
is_boolean (both f g) = is_boolean f && is_boolean g
is_boolean (same f g) = is_boolean f && is_boolean g
is_boolean (choice c f g) = is_boolean c && (is_boolean f && is_boolean g)
is_boolean (at_most a b) = false
is_boolean (equal a b) = false
