-- A frame as an instance with the numbers of its places, by its sight.
use Rattle.std.specs.Prelude.{ℕ, List, [], ◌∷◌, map, Option, Some, None}
use Rattle.std.specs.Option.{option_map_or}
use Rattle.std.specs.Borrow.{Bor}
use Rattle.indexmap.specs.IndexMap.{IndexMap}
use Rattle.lus_tree.specs.declared.place.Sort.TheVariants.{Bool as Flags}
use Rattle.lus_tree.specs.Tree.{Name, Variable}
use Rattle.lus_meaning.specs.Value.{Value}
use Rattle.lus_meaning.specs.Scene.{Instance, Instances, instance, no_component, no_instance, no_instances, with_instance}
use Rattle.sys_meaning.specs.Slot.{beat, named, memory, starting, so_far, held, Place}
use Rattle.sys_meaning.specs.Defaults.{no_site}
use Rattle.sys_meaning.specs.Items.{Key}
use Rattle.sys_parts.specs.Constants.{constant_view}
use Rattle.sys_parts.specs.declared.constant.Constant.{Constant}
use Rattle.sys_texts.specs.Sights.{Sight, Call, Output, Way, own, through, deeper, name_number, number_at}
use Rattle.sys_texts.specs.Views.{sight_view}
use Rattle.sys_texts.specs.declared.sight.Sight.{Sight as SightCode}
use Rattle.slot_resolver.specs.declared.slots.Held.{Held}
use Rattle.slot_values.specs.Resolution.{Resolution}
use Rattle.slot_values.specs.Resolved.{Numbering}
use Rattle.frame_sources.specs.Resolved.{Asked, call_by}

-- ---- an instance with the constants of a sight, in which a call has an output where the sight's call has one

abbrev pub constants_seen : {S : Type 0} → IndexMap (Bor (List ℕ)) Constant S → List (Name × Value)
constants_seen m = map (λ e. (e.0.now, constant_view e.1)) m.entries

abbrev pub unnamed : Variable
unnamed = record { name = no_component.name; sort = Flags; clock = None }

abbrev pub callee_seen : List Output → Instance
callee_seen [] = no_instance
callee_seen (o ∷ os) = instance (record no_component { outputs = unnamed ∷ [] }) [] no_instances

abbrev pub callees_seen : List Call → Instances
callees_seen [] = no_instances
callees_seen (c ∷ cs) = with_instance no_site (callee_seen c.outputs) (callees_seen cs)

abbrev pub place_seen : SightCode → Instance
place_seen s = instance no_component (constants_seen s.constants) (callees_seen (sight_view s).calls)

-- ---- its numbers

-- of the first output of a call
abbrev pub first_number : (Output → ℕ) → ℕ → List Output → ℕ
first_number f n [] = n
first_number f n (o ∷ os) = f o

abbrev pub number_seen : Sight → Place → ℕ
number_seen s ([], named x) = name_number s x
number_seen s ([], memory k) = number_at s.memories s.missing k
number_seen s ([], starting k) = number_at s.starts s.missing k
number_seen s ([], held k y) = option_map_or (λ c. first_number (λ o. o.held) s.missing c.outputs) (call_by s k) s.missing
number_seen s ([], beat) = s.beat
number_seen s ([], so_far) = s.missing
number_seen s (k ∷ [], named y) = option_map_or (λ c. first_number (λ o. o.number) s.missing c.outputs) (call_by s k) s.missing
number_seen s (k ∷ [], beat) = option_map_or (λ c. c.beat) (call_by s k) s.missing
number_seen s _ = s.missing

-- ---- modes

abbrev pub path_of : Way → List Name
path_of own = []
path_of (through c) = c ∷ []
path_of deeper = [] ∷ [] ∷ []

abbrev pub key_of : Asked → Key × Resolution
key_of m = ((path_of m.way, m.name), m.asked)

-- what the frame of a sight is resolved over, where these modes are known
abbrev pub numbering_seen : SightCode → List Asked → Numbering
numbering_seen s ms = record { place = place_seen s; number = number_seen (sight_view s); modes = map key_of ms }

-- ---- what is found of a call

abbrev pub first_slot : List Output → Option ℕ
first_slot [] = None
first_slot (o ∷ os) = Some o.number

abbrev pub output_seen : Option Call → Option ℕ
output_seen None = None
output_seen (Some c) = first_slot c.outputs

abbrev pub first_held : ℕ → List Output → Option Held
first_held b [] = None
first_held b (o ∷ os) = Some record { beat = b; output = o.number; held = o.held }

abbrev pub held_seen : Option Call → Option Held
held_seen None = None
held_seen (Some c) = first_held c.beat c.outputs
