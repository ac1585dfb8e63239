-- What holds of the names of a frame: each is what gives it where its clock is on, else 0 or false.
use Rattle.std.specs.Prelude.{ℕ, zero, suc, Bool, cond, List, [], ◌∷◌, Option, Some, None, slice_get, unwrap_or}
use Rattle.std.specs.Str.{bytes_eq}
use Rattle.lus_tree.specs.Tree.{Name, Expression, Variable}
use Rattle.lus_meaning.specs.Scene.{clock_from}
use Rattle.lus_meaning.specs.Run.{Equation}
use Rattle.lus_meaning.specs.Depends.{named_in}
use Rattle.sys_terms.specs.View.{Formula, negation, both}
use Rattle.sys_meaning.specs.Part.{Part, no_part, variable, zero_of, choose_part, equal_parts}
use Rattle.sys_texts.specs.Sights.{Sight, Mode, name_number}
use Rattle.sys_texts.specs.Texts.{right_parts, present}

-- the right side of the equation of a name, and the place of the name among its left names
pub record Right : Type 0 where
  pub side : Expression
  pub place : ℕ

abbrev pub place_in : List Name → Name → ℕ
place_in [] x = zero
place_in (y ∷ ys) x = cond (bytes_eq x y) zero (suc (place_in ys x))

abbrev pub right_of : List Equation → Name → Option Right
right_of [] x = None
right_of (e ∷ es) x = cond (named_in x e.names) (Some record { side = e.right; place = place_in e.names x }) (right_of es x)

-- what a right side gives to the left name of that place
abbrev pub part_given : Sight → List Mode → Right → Part
part_given s ms r = unwrap_or (slice_get (right_parts s ms r.side) r.place) no_part

-- what gives a name: the caller, or else an equation
abbrev pub given_or : Sight → List Mode → Option Part → Option Right → Option Part
given_or s ms (Some p) r = Some p
given_or s ms None (Some r) = Some (part_given s ms r)
given_or s ms None None = None

abbrev pub variable_of : Sight → Variable → Part
variable_of s v = variable v.sort (name_number s v.name.text)

abbrev pub is_zero : Sight → Variable → Formula
is_zero s v = equal_parts (variable_of s v) (zero_of v.sort)

-- the part where its clock is on, else 0 or false
abbrev pub where_on : Sight → Variable → Part → Part
where_on s v p = choose_part (present s (clock_from v.clock)) p (zero_of v.sort)

abbrev pub equals_where_on : Sight → Variable → Part → Formula
equals_where_on s v p = equal_parts (variable_of s v) (where_on s v p)

-- a free name is 0 or false where its clock is off
abbrev pub is_free : Sight → Variable → Formula
is_free s v = negation (both (negation (present s (clock_from v.clock))) (negation (is_zero s v)))

-- an input that nothing gives may be anything
abbrev pub name_conditions : Sight → Bool → Variable → Option Part → List Formula
name_conditions s free v (Some p) = equals_where_on s v p ∷ []
name_conditions s free v None = cond free [] (is_free s v ∷ [])
