-- Expressions over slots, by what names and numbers mean in a frame.
use Rattle.std.specs.Prelude.{◌≡◌, ℕ, pos, false, cond, ◌&&◌, List, [], ◌∷◌, map, Option, option_map, option_to_list}
use Rattle.std.specs.Option.{option_map_or}
use Rattle.std.specs.Map.{lookup}
use Rattle.std.specs.Str.{bytes_eq}
use Rattle.lus_tree.specs.Tree.{Name, text_of, Expression, truth, number, name, negation, minus, pre, arrow, binary, choice, sampled, merged, call, condact, mode_name}
use Rattle.lus_meaning.specs.Value.{flag, whole}
use Rattle.lus_meaning.specs.Scene.{constants_of}
use Rattle.sys_meaning.specs.Slot.{named, memory, starting, own}
use Rattle.sys_texts.specs.Sights.{Sight, Call, Output, Way, is_way, counted_from_one, number_at, name_number}
use Rattle.slot_values.specs.Resolution.{Resolution}
use Rattle.slot_values.specs.Resolution as r
use Rattle.slot_values.specs.Resolved.{Numbering, constant_or_slot, first_resolution, latest_resolution, mode_resolution, output_resolution, outputs_at}

-- ---- modes

-- a mode: the way to it, its name, and what it asks
pub record Asked : Type 0 where
  pub way : Way
  pub name : Name
  pub asked : Resolution

-- what the first mode of that name asks
abbrev pub asked_of : List Asked → Option Name → Name → Resolution
asked_of [] c x = r.known (flag false)
asked_of (m ∷ ms) c x = cond (is_way c m.way && bytes_eq x m.name) m.asked (asked_of ms c x)

-- ---- names and calls

abbrev pub name_by : Sight → Name → Resolution
name_by s x = constant_or_slot (s.constant x) (r.slot (name_number s x))

abbrev pub output_by : Output → Resolution
output_by o = r.slot o.number

-- where it may be held
abbrev pub latest_by : Resolution → ℕ → Output → Resolution
latest_by a b o = r.latest a b o.number o.held

abbrev pub outputs_by : Option Call → List Resolution
outputs_by c = option_map_or (λ c. map output_by c.outputs) c []

abbrev pub latest_each_by : Resolution → Option Call → List Resolution
latest_each_by a c = option_map_or (λ c. map (latest_by a c.beat) c.outputs) c []

abbrev pub call_by : Sight → ℕ → Option Call
call_by s k = counted_from_one s.calls k

-- ---- expressions

abbrev pub resolved_by : Sight → List Asked → Expression → Resolution
resolved_by s ms (truth p b) = r.known (flag b)
resolved_by s ms (number p n) = r.known (whole (pos n))
resolved_by s ms (name p x) = name_by s x
resolved_by s ms (negation p a) = r.negated (resolved_by s ms a)
resolved_by s ms (minus p a) = r.opposite p.at (resolved_by s ms a)
resolved_by s ms (pre p k a) = r.slot (number_at s.memories s.missing k)
resolved_by s ms (arrow p k a b) =
    r.started (number_at s.starts s.missing k) (resolved_by s ms a) (resolved_by s ms b)
resolved_by s ms (binary p o a b) = r.combined p.at o (resolved_by s ms a) (resolved_by s ms b)
resolved_by s ms (choice p a b d) = r.chosen (resolved_by s ms a) (resolved_by s ms b) (resolved_by s ms d)
resolved_by s ms (sampled p a q x) = r.sampled (name_number s x.text) q (resolved_by s ms a)
resolved_by s ms (merged p x a b) = r.merged (name_number s x.text) (resolved_by s ms a) (resolved_by s ms b)
resolved_by s ms (call p k f as_) = first_resolution (outputs_by (call_by s k))
resolved_by s ms (condact p k a f as_ ds) = first_resolution (latest_each_by (resolved_by s ms a) (call_by s k))
resolved_by s ms (mode_name p d m) = asked_of ms (option_map text_of d) m.text

-- those of a right side: one for each output of a call, else one
abbrev pub rights_by : Sight → List Asked → Expression → List Resolution
rights_by s ms (call p k f as_) = outputs_by (call_by s k)
rights_by s ms (condact p k a f as_ ds) = latest_each_by (resolved_by s ms a) (call_by s k)
rights_by s ms e = resolved_by s ms e ∷ []

-- ---- what an expression reads

-- the numbers that a resolution is made by are those of the sight
pub record IsNumberedBy (s : Sight) (ms : List Asked) (g : Numbering) : Type 0 where
  pub constants : (x : Name) → lookup (bytes_eq x) (constants_of g.place) ≡ s.constant x
  pub names : (x : Name) → g.number (own (named x)) ≡ name_number s x
  pub memories : (k : ℕ) → g.number (own (memory k)) ≡ number_at s.memories s.missing k
  pub starts : (k : ℕ) → g.number (own (starting k)) ≡ number_at s.starts s.missing k
  pub output : (k : ℕ) → first_resolution (map (output_resolution g k) (outputs_at g k)) ≡ first_resolution (outputs_by (call_by s k))
  pub latest : (k : ℕ) (a : Resolution) →
      first_resolution (map (latest_resolution g k a) (outputs_at g k)) ≡ first_resolution (latest_each_by a (call_by s k))
  pub modes : (c : Option Name) (x : Name) → mode_resolution g (option_to_list c, x) ≡ asked_of ms c x
