-- The resolution of an expression: its names as numbers of slots.
use Rattle.std.specs.Prelude.{ℕ, List, [], ◌∷◌, map, Option, Some, None, option_map, option_to_list, unwrap_or, pos, false}
use Rattle.std.specs.Map.{lookup}
use Rattle.std.specs.Str.{bytes_eq}
use Rattle.lus_tree.specs.Tree.{Name, text_of, Expression, truth, number, name, negation, minus, pre, arrow, binary, choice, sampled, merged, call, condact, mode_name}
use Rattle.lus_meaning.specs.Value.{Value, absent, flag, whole}
use Rattle.lus_meaning.specs.Scene.{Instance, constants_of, outputs_of, call_instance}
use Rattle.lus_meaning.specs.Meaning.{mode_key}
use Rattle.sys_meaning.specs.Slot.{beat, named, memory, starting, held, Place, own, in_call}
use Rattle.sys_meaning.specs.Items.{Key, Known}
use Rattle.slot_values.specs.Resolution.{Resolution}
use Rattle.slot_values.specs.Resolution as r

-- what an expression is resolved over: an instance, the number of each place of its frame, and what the modes ask
pub record Numbering : Type 0 where
  pub place : Instance
  pub number : Place → ℕ
  pub modes : Known Resolution

abbrev pub slot_of : Numbering → Place → Resolution
slot_of g p = r.slot (g.number p)

abbrev pub constant_or_slot : Option Value → Resolution → Resolution
constant_or_slot None e = e
constant_or_slot (Some v) e = r.known v

-- a constant is its value, any other name its slot
abbrev pub name_resolution : Numbering → Name → Resolution
name_resolution g x = constant_or_slot (lookup (bytes_eq x) (constants_of g.place)) (slot_of g (own (named x)))

-- an output of a call is the callee's slot
abbrev pub output_resolution : Numbering → ℕ → Name → Resolution
output_resolution g k y = slot_of g (in_call k (own (named y)))

-- of a call that runs while a condition is true, what is held stands besides
abbrev pub latest_resolution : Numbering → ℕ → Resolution → Name → Resolution
latest_resolution g k a y =
    r.latest a (g.number (in_call k (own beat))) (g.number (in_call k (own (named y)))) (g.number (own (held k y)))

abbrev pub outputs_at : Numbering → ℕ → List Name
outputs_at g k = outputs_of (call_instance g.place k)

abbrev pub first_resolution : List Resolution → Resolution
first_resolution [] = r.known absent
first_resolution (e ∷ es) = e

abbrev pub mode_resolution : Numbering → Key → Resolution
mode_resolution g key = unwrap_or (lookup (mode_key key) g.modes) (r.known (flag false))

abbrev pub resolution : Numbering → Expression → Resolution
resolution g (truth p b) = r.known (flag b)
resolution g (number p n) = r.known (whole (pos n))
resolution g (name p x) = name_resolution g x
resolution g (negation p a) = r.negated (resolution g a)
resolution g (minus p a) = r.opposite p.at (resolution g a)
resolution g (pre p k a) = slot_of g (own (memory k))
resolution g (arrow p k a b) = r.started (g.number (own (starting k))) (resolution g a) (resolution g b)
resolution g (binary p o a b) = r.combined p.at o (resolution g a) (resolution g b)
resolution g (choice p a b d) = r.chosen (resolution g a) (resolution g b) (resolution g d)
resolution g (sampled p a q x) = r.sampled (g.number (own (named x.text))) q (resolution g a)
resolution g (merged p x a b) = r.merged (g.number (own (named x.text))) (resolution g a) (resolution g b)
resolution g (call p k f as_) = first_resolution (map (output_resolution g k) (outputs_at g k))
resolution g (condact p k a f as_ ds) = first_resolution (map (latest_resolution g k (resolution g a)) (outputs_at g k))
resolution g (mode_name p d m) = mode_resolution g (option_to_list (option_map text_of d), m.text)

-- those of a right side: one for each output of a call, else one
abbrev pub right_resolutions : Numbering → Expression → List Resolution
right_resolutions g (call p k f as_) = map (output_resolution g k) (outputs_at g k)
right_resolutions g (condact p k a f as_ ds) = map (latest_resolution g k (resolution g a)) (outputs_at g k)
right_resolutions g e = resolution g e ∷ []
