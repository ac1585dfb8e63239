-- Which value is the first that is outside 128 bits.
use Rattle.std.specs.Prelude.{◌≡◌, ℕ, ◌<◌, cond, List, [], ◌∷◌, ◌++◌, Option, Some, None, ℤ, ◌+ℤ◌, ◌-ℤ◌, ◌*ℤ◌, neg_ℤ, pos}
use Rattle.std.specs.Int.{int_div_euclid}
use Rattle.std.specs.List.{AllByRecursion}
use Rattle.lus_tree.specs.declared.place.Pos.{Pos}
use Rattle.lus_tree.specs.declared.expression.Operator.{Operator}
use Rattle.lus_tree.specs.declared.expression.Operator.TheVariants as operators
use Rattle.lus_tree.specs.Tree.{Expression, minus, binary}
use Rattle.lus_meaning.specs.Value.{Value, absent, flag, whole, Instants}
use Rattle.lus_meaning.specs.Frame.{Frame, call_frame}
use Rattle.lus_meaning.specs.Scene.{Clock, Instance, call_instance, Scene, is_on}
use Rattle.lus_meaning.specs.Meaning.{value}
use Rattle.lus_meaning.specs.Occurrences.{own}
use Rattle.lus_meaning.specs.Contract.{scene}
use Rattle.lus_meaning.specs.Run.{active}
use Rattle.lus_meaning.specs.Verdict.{throughout}
use Rattle.kind_num.specs.Exact.{within}
use Rattle.kind_num.specs.declared.Op.{Op}
use Rattle.kind_num.specs.declared.Op.TheVariants as ops
use Rattle.kind_num.specs.declared.Past.{Past}
use Rattle.sys_meaning.specs.Defaults.{site_of}
use Rattle.lus_evaluation.specs.Part.{Part}

-- ---- one operation

-- the operands where the result is outside 128 bits
abbrev pub past_at : Op → ℤ → ℤ → ℤ → Option Past
past_at op x y z = cond (within z) None (Some record { op = op; left = x; right = y })

-- of two whole numbers; of `div` and `mod` the quotient counts
abbrev pub past_of_numbers : Operator → ℤ → ℤ → Option Past
past_of_numbers operators.Add x y = past_at ops.Add x y (x +ℤ y)
past_of_numbers operators.Sub x y = past_at ops.Sub x y (x -ℤ y)
past_of_numbers operators.Mul x y = past_at ops.Mul x y (x *ℤ y)
past_of_numbers operators.Div x y = past_at ops.Div x y (int_div_euclid x y)
past_of_numbers operators.Mod x y = past_at ops.Div x y (int_div_euclid x y)
past_of_numbers _ x y = None

abbrev pub past_of_values : Operator → Value → Value → Option Past
past_of_values o (whole x) (whole y) = past_of_numbers o x y
past_of_values o _ _ = None

-- a minus takes its operand from 0
abbrev pub past_of_minus : Value → Option Past
past_of_minus (whole x) = past_at ops.Sub (pos 0) x (neg_ℤ x)
past_of_minus absent = None
past_of_minus (flag b) = None

-- of an expression whose operands have these values
abbrev pub past_of : (Expression → Value) → Expression → Option Past
past_of v (minus p a) = past_of_minus (v a)
past_of v (binary p o a b) = past_of_values o (v a) (v b)
past_of v _ = None

-- ---- in a frame

-- the scene of the frame at the end of a way of calls
abbrev pub scene_on : List ℕ → Instance → Instants → Frame → Scene
scene_on [] i b f = scene i b f
scene_on (k ∷ w) i b f = scene_on w (call_instance i k) (active (scene i b f) (site_of i k)) (call_frame f k)

-- where the clock of its place is on: whether a part's own operator has a result outside 128 bits
abbrev pub past_in : Scene → Clock → Expression → ℕ → Option Past
past_in s c e t = cond (is_on s c t) (past_of (λ a. value s c a t) e) None

abbrev pub part_past : Instance → Frame → Part → ℕ → Option Past
part_past i f q t = past_in (scene_on q.way i throughout f) q.clock q.expression t

abbrev pub NonePast : Instance → Frame → List Part → ℕ → Type 0
NonePast i f qs t = AllByRecursion (λ q. part_past i f q t ≡ None) qs

-- At these parts and n instants of a frame no value is outside 128 bits.
abbrev pub IsWithin : Instance → Frame → List Part → ℕ → Type 0
IsWithin i f qs n = (t : ℕ) → t < n → NonePast i f qs t

-- The first value that is outside 128 bits, if these parts are evaluated in their order at one instant after the other: the operator's place, the instant and
-- the operands.
pub record IsFirstPast (i : Instance) (f : Frame) (qs : List Part) (n : ℕ) (at : Pos) (t : ℕ) (past : Past) : Type 0 where
  pub below : t < n
  pub earlier : (u : ℕ) → u < t → NonePast i f qs u
  pub front : List Part
  pub part : Part
  pub rest : List Part
  pub split : qs ≡ front ++ part ∷ rest
  pub before : NonePast i f front t
  pub place : at ≡ own part.expression
  pub outside : part_past i f part t ≡ Some past
