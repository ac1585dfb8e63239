-- The sight of a frame that stands at a number finds what the translation finds.
use Rattle.std.specs.Prelude.{◌≡◌, ℕ, ◌<◌, ◌^◌, true, false, List, map, length, get_or, Contains, Option, option_to_list, unwrap_or}
use Rattle.std.specs.List.{AllByRecursion}
use Rattle.std.specs.Map.{lookup}
use Rattle.lus_tree.specs.Tree.{Name, Variable, Component, Program}
use Rattle.lus_meaning.specs.ClockFaults.{components}
use Rattle.lus_meaning.specs.Meaning.{mode_key}
use Rattle.lus_meaning.specs.Program.{all_sites, constants_in, instance_of}
use Rattle.lus_meaning.specs.RuleLaws.{OfEach}
use Rattle.lus_meaning.specs.Scene.{Manner, plain, while_true, as_import, Site, no_component}
use Rattle.lus_limits.specs.Calls.{way_of}
use Rattle.lus_limits.specs.Instances.{callee}
use Rattle.lus_limits.specs.Summaries.{bound}
use Rattle.lus_limits.specs.Widths.{frame_width}
use Rattle.sys_terms.specs.View.{Formula, truth}
use Rattle.sys_meaning.specs.Defaults.{default_of}
use Rattle.sys_meaning.specs.Items.{Known}
use Rattle.sys_meaning.specs.Slot.{Place, own, in_call, beat, named, so_far, held}
use Rattle.sys_meaning.specs.System.{has_so_far}
use Rattle.sys_places.specs.Places.{StandsAt}
use Rattle.sys_texts.specs.Laws.{IsSightOf}
use Rattle.sys_texts.specs.Sights.{Call, Output, Mode, asked_of}
use Rattle.sys_tables.specs.Numbers.{HasRoom, keeps_so_far, sight_at, so_far_number}
use Rattle.sys_tables.specs.Tabled.{Linked, constants_known, place_of, table_of}

-- ---- constants

abbrev pub ConstantsAreKnown : Type 0
ConstantsAreKnown = OfEach (λ p n. constants_known p n ≡ constants_in p n)

-- what a call holds at first: of one under a condition the values of the defaults, in the order of the outputs
abbrev pub HasItsDefaults : Program → Component → Linked → Manner → Type 0
HasItsDefaults p n l plain = Unit {0}
HasItsDefaults p n l (while_true a) =
    l.defaults ≡ map (λ v. default_of (instance_of p n) l.site.number v.name.text) l.outputs
HasItsDefaults p n l (as_import xs) = Unit {0}

abbrev pub DefaultsAreKnown : Type 0
DefaultsAreKnown = OfEach (λ p n. AllByRecursion (λ l. HasItsDefaults p n l l.site.manner) (table_of p n).calls)

-- ---- callees

abbrev pub CalleesStand : Type 0
CalleesStand = (p : Program) (x : Name) → get_or (components p) (place_of p x) no_component ≡ callee p x

abbrev pub CalleesAreThere : Type 0
CalleesAreThere = OfEach (λ p n. (s : Site) → Contains (all_sites n) s → place_of p s.callee < length (components p))

-- ---- numbers

abbrev pub FramesHaveRoom : Type 0
FramesHaveRoom = OfEach (λ p n. (m : Manner) (base : ℕ) → frame_width p m n < bound → base < 2 ^ 31 → HasRoom (way_of m) (table_of p n) base)

-- an output of a call, and the call, by the number of each variable
abbrev pub output_of : (Place → ℕ) → ℕ → Variable → Output
output_of at k v = record {
  sort = v.sort;
  number = at (in_call k (own (named v.name.text)));
  held = at (own (held k v.name.text));
}

abbrev pub call_of : Program → (Place → ℕ) → Site → Call
call_of p at s = record {
  callee = s.callee;
  beat = at (in_call s.number (own beat));
  outputs = map (output_of at s.number) (callee p s.callee).outputs;
}

abbrev pub CallsAreCalls : Type 0
CallsAreCalls =
    OfEach (λ p n. (m : Manner) (at : Place → ℕ) (missing base : ℕ) → frame_width p m n < bound → StandsAt at missing base m (instance_of p n)
    → (sight_at (table_of p n) (way_of m) base missing).calls ≡ map (call_of p at) (all_sites n))

-- a frame keeps whether its assumptions were true so far where the translation says so, and under this number
abbrev pub SoFarIsKept : Type 0
SoFarIsKept = (p : Program) (n : Component) (m : Manner) → keeps_so_far (way_of m) (table_of p n) ≡ has_so_far m n

abbrev pub SoFarStands : Type 0
SoFarStands =
    OfEach (λ p n. (m : Manner) (at : Place → ℕ) (missing base : ℕ) → StandsAt at missing base m (instance_of p n) → has_so_far m n ≡ true
    → at (own so_far) ≡ so_far_number (table_of p n) base)

-- modes ask what is known of them
abbrev pub AreModesOf : List Mode → Known Formula → Type 0
AreModesOf ms ks = (c : Option Name) (m : Name) → asked_of ms c m ≡ unwrap_or (lookup (mode_key (option_to_list c, m)) ks) (truth false)

abbrev pub SightsAreSights : Type 0
SightsAreSights =
    OfEach (λ p n. (m : Manner) (at : Place → ℕ) (missing base : ℕ) → frame_width p m n < bound → StandsAt at missing base m (instance_of p n)
    → (ms : List Mode) (ks : Known Formula) → AreModesOf ms ks
    → IsSightOf (sight_at (table_of p n) (way_of m) base missing) ms (record { place = instance_of p n; number = at; modes = ks }))
