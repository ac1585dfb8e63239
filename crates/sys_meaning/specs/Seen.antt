-- What an expression is worth in one row of values: names, memories and flags as they stand, absent as 0 or false.
use Rattle.std.specs.Prelude.{ℕ, zero, suc, Bool, true, false, not, ◌&&◌, List, [], ◌∷◌, map, length, Option, Some, None, option_map, option_to_list, unwrap_or, pos}
use Rattle.std.specs.Map.{lookup}
use Rattle.std.specs.Str.{bytes_eq}
use Rattle.lus_tree.specs.Tree.{Name, text_of, Expression, truth, number, name, negation, minus, pre, arrow, binary, choice, sampled, merged, call, condact, mode_name}
use Rattle.lus_meaning.specs.Value.{Value, absent, flag, whole, is, not_value, minus_value, apply, choose}
use Rattle.lus_meaning.specs.Scene.{Clock, base, sampled_by, Instance, component_of, constants_of, outputs_of, call_instance, clock_of, variables}
use Rattle.lus_meaning.specs.Meaning.{mode_key}
use Rattle.sys_terms.specs.Meaning.{Values}
use Rattle.sys_meaning.specs.Part.{value_in}
use Rattle.sys_meaning.specs.Slot.{sort_on, beat, named, memory, starting, held, Place, own, in_call}
use Rattle.sys_meaning.specs.Items.{Key, Known}

-- a value for each variable
abbrev pub Row : Type 0
Row = Place → Value

-- what an expression is seen over: an instance, the values of its frame's variables, and what the modes ask
pub record Sight : Type 0 where
  pub place : Instance
  pub row : Row
  pub modes : Known Value

abbrev pub seen_or : Option Value → Value → Value
seen_or None v = v
seen_or (Some w) v = w

abbrev pub seen_name : Sight → Name → Value
seen_name r x = seen_or (lookup (bytes_eq x) (constants_of r.place)) (r.row (own (named x)))

abbrev pub seen_output : Sight → ℕ → Name → Value
seen_output r k y = r.row (in_call k (own (named y)))

-- the output where the call's frame is active, else what is held
abbrev pub seen_latest : Sight → ℕ → Name → Value
seen_latest r k y = choose (r.row (in_call k (own beat))) (seen_output r k y) (r.row (own (held k y)))

abbrev pub outputs_at : Sight → ℕ → List Name
outputs_at r k = outputs_of (call_instance r.place k)

abbrev pub head_value : List Value → Value
head_value [] = absent
head_value (v ∷ vs) = v

abbrev pub seen_mode : Sight → Key → Value
seen_mode r key = unwrap_or (lookup (mode_key key) r.modes) (flag false)

abbrev pub seen : Sight → Expression → Value
seen r (truth p b) = flag b
seen r (number p n) = whole (pos n)
seen r (name p x) = seen_name r x
seen r (negation p a) = not_value (seen r a)
seen r (minus p a) = minus_value (seen r a)
seen r (pre p k a) = r.row (own (memory k))
seen r (arrow p k a b) = choose (r.row (own (starting k))) (seen r a) (seen r b)
seen r (binary p o a b) = apply o (seen r a) (seen r b)
seen r (choice p a b d) = choose (seen r a) (seen r b) (seen r d)
seen r (sampled p a b x) = seen r a
seen r (merged p x a b) = choose (r.row (own (named x.text))) (seen r a) (seen r b)
seen r (call p k f as_) = head_value (map (seen_output r k) (outputs_at r k))
seen r (condact p k a f as_ ds) = head_value (map (seen_latest r k) (outputs_at r k))
seen r (mode_name p d m) = seen_mode r (option_to_list (option_map text_of d), m.text)

-- the outputs of a call, or one value
abbrev pub seen_right : Sight → Expression → List Value
seen_right r (call p k f as_) = map (seen_output r k) (outputs_at r k)
seen_right r (condact p k a f as_ ds) = map (seen_latest r k) (outputs_at r k)
seen_right r e = seen r e ∷ []

-- whether a clock is on, of which no more clocks than said follow from one another
abbrev pub seen_on_within : ℕ → Sight → Clock → Bool
seen_on_within m r base = is true (r.row (own beat))
seen_on_within zero r (sampled_by b x) = false
seen_on_within (suc m) r (sampled_by true x) = is true (r.row (own (named x)))
seen_on_within (suc m) r (sampled_by false x) =
    seen_on_within m r (clock_of (component_of r.place) x) && not (is true (r.row (own (named x))))

abbrev pub seen_on : Sight → Clock → Bool
seen_on r c = seen_on_within (length (variables (component_of r.place))) r c

-- ---- the row of a state

-- the values of the places of a frame, by the numbers of its variables
abbrev pub row_of : Instance → (Place → ℕ) → Values → Row
row_of i at now p = value_in now (sort_on p.0 i p.1) (at p)
