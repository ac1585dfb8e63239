-- What is said of a frame and of those of its calls, by the tables of a program's declarations, with calls nested no
-- deeper than said.
use Rattle.std.specs.Prelude.{ℕ, zero, suc, List, [], ◌∷◌, ◌++◌, map, cond, Option, Some, None, slice_get}
use Rattle.std.specs.List.{AllByRecursion}
use Rattle.lus_tree.specs.declared.place.Sort.TheVariants.{Bool as Flags}
use Rattle.lus_meaning.specs.Value.{Value}
use Rattle.lus_meaning.specs.Scene.{Manner, plain, while_true, as_import, Site, contract_statements}
use Rattle.lus_meaning.specs.Occurrences.{Start}
use Rattle.kind_num.specs.declared.Shape.{Shape}
use Rattle.lus_limits.specs.Calls.{way_of}
use Rattle.lus_limits.specs.declared.calls.Way.{Way}
use Rattle.lus_limits.specs.declared.calls.Way.TheVariants.{Plain, Condition, Import}
use Rattle.sys_terms.specs.View.{Formula, same, Machine}
use Rattle.sys_meaning.specs.Part.{Part}
use Rattle.sys_meaning.specs.System.{shape_of}
use Rattle.sys_texts.specs.Sights.{Sight, Mode, Call, Output, flag_at, name_part}
use Rattle.sys_texts.specs.Texts.{part_of, sort_by}
use Rattle.sys_contracts.specs.Items.{Items, no_items, contract_items, promises}
use Rattle.sys_conditions.specs.Conditioned.{memory_conditions, start_conditions, at_first, so_far_condition, assert_conditions, body_properties, owed, runs_where, held_conditions, held_at_first}
use Rattle.sys_tables.specs.Tabled.{Linked, Tabled}
use Rattle.sys_tables.specs.Numbers.{HasRoom, behind_own, frame_base, keeps_so_far, sight_at, so_far_number}
use Rattle.sys_frames.specs.Lists.{Lists, no_lists, joined}
use Rattle.sys_frames.specs.Streams.{streams_here}

-- ---- room

-- of a frame of a declaration, that runs so, and has its variables from there on
abbrev pub OfFrame : Type 1
OfFrame = Tabled → Way → ℕ → Type 0

abbrev pub IfThere : OfFrame → Option Tabled → Way → ℕ → Type 0
IfThere P None w b = Unit {0}
IfThere P (Some t) w b = P t w b

-- of the frame of a call, where the calls of its caller stand from there on
abbrev pub OfCall : OfFrame → List Tabled → ℕ → Linked → Type 0
OfCall P ts from q = IfThere P (slice_get ts q.place) (way_of q.site.manner) (frame_base from q)

-- no number of the frames of calls and of those of their calls is 2^32 or more
abbrev pub CallsHaveRoom : ℕ → List Tabled → ℕ → List Linked → Type 0
CallsHaveRoom zero ts from qs = Unit {0}
CallsHaveRoom (suc d) ts from qs =
    AllByRecursion (OfCall (λ t w b. HasRoom w t b × CallsHaveRoom d ts (behind_own w t b) t.calls) ts from) qs

abbrev pub HasRoomWithin : ℕ → List Tabled → OfFrame
HasRoomWithin d ts t w b = HasRoom w t b × CallsHaveRoom d ts (behind_own w t b) t.calls

-- ---- the items of contracts

-- what is said of the items of a frame
abbrev pub ItemsOf : Type 0
ItemsOf = Tabled → Way → ℕ → Items

abbrev pub items_or_none : ItemsOf → Option Tabled → Way → ℕ → Items
items_or_none f None w b = no_items
items_or_none f (Some t) w b = f t w b

-- those of a call: of an import those of its frame; a contract looks at no others
abbrev pub called_item : ItemsOf → List Tabled → ℕ → ℕ → Manner → Items
called_item f ts place b plain = no_items
called_item f ts place b (while_true a) = no_items
called_item f ts place b (as_import xs) = items_or_none f (slice_get ts place) Import b

abbrev pub called_items : ItemsOf → List Tabled → ℕ → List Linked → List Items
called_items f ts from qs = map (λ q. called_item f ts q.place (frame_base from q) q.site.manner) qs

-- those of calls that stand from there on, with others nested in them no deeper than said; at 0 there are none
abbrev pub items_below : ℕ → List Tabled → ℕ → ℕ → List Linked → List Items
items_below zero ts missing from qs = []
items_below (suc d) ts missing from qs =
    called_items (λ t w b. contract_items (sight_at t w b missing) (items_below d ts missing (behind_own w t b) t.calls)
    (contract_statements t.component)) ts from qs

-- those of a frame that is seen so, whose calls stand from there on
abbrev pub items_seen : ℕ → List Tabled → ℕ → Tabled → Sight → ℕ → Items
items_seen d ts missing t s from =
    contract_items s (items_below d ts missing from t.calls) (contract_statements t.component)

abbrev pub items_within : ℕ → List Tabled → ℕ → ItemsOf
items_within d ts missing t w b = items_seen d ts missing t (sight_at t w b missing) (behind_own w t b)

-- ---- a frame itself

-- the number of the variable that says whether the assumptions were true so far
abbrev pub so_far_of : Tabled → Way → ℕ → Option ℕ
so_far_of t w b = cond (keeps_so_far w t) (Some (so_far_number t b)) None

abbrev pub so_far_shapes : Option ℕ → List Shape
so_far_shapes None = []
so_far_shapes (Some n) = shape_of Flags ∷ []

abbrev pub so_far_first : Option ℕ → List Formula
so_far_first None = []
so_far_first (Some n) = flag_at n ∷ []

abbrev pub so_far_next : Sight → Option ℕ → List Formula → List Formula
so_far_next s None assumes = []
so_far_next s (Some n) assumes = so_far_condition s n assumes ∷ []

abbrev pub start_shapes : List Start → List Shape
start_shapes ss = map (λ a. shape_of Flags) ss

-- the beat, the streams, what `pre` and `->` keep, and whether the assumptions were true so far
abbrev pub own_shapes : Sight → Tabled → Option ℕ → List Shape
own_shapes s t n =
    shape_of Flags
    ∷ map (λ v. shape_of v.variable.sort) t.streams
    ++ (map (λ u. shape_of (sort_by s u.operand)) t.memories
    ++ (start_shapes t.starts ++ so_far_shapes n))

-- where it is active, and what its caller gives
abbrev pub own_lists : Tabled → Sight → Items → Option ℕ → Formula → List Part → Lists
own_lists t s r n active given = record {
  shapes = own_shapes s t n;
  first = at_first s t.starts ++ so_far_first n;
  here = active ∷ streams_here s r.modes t.streams given;
  next = memory_conditions s r.modes t.memories ++ (start_conditions s t.starts ++ so_far_next s n r.assumes);
  asserts = assert_conditions s r.modes t.component.body;
}

-- ---- its calls

-- as many as there are both outputs and defaults
abbrev pub held_shapes : List Output → List Value → List Shape
held_shapes [] ds = []
held_shapes (o ∷ os) [] = []
held_shapes (o ∷ os) (d ∷ ds) = shape_of o.sort ∷ held_shapes os ds

-- what is held of a call
abbrev pub held_lists : List Value → Call → Manner → Lists
held_lists ds c plain = no_lists
held_lists ds c (as_import xs) = no_lists
held_lists ds c (while_true a) = record {
  shapes = held_shapes c.outputs ds;
  first = held_at_first c.outputs ds;
  here = [];
  next = held_conditions c.beat c.outputs;
  asserts = [];
}

-- an import's outputs are names of the caller
abbrev pub outputs_given : Sight → Manner → List Part
outputs_given s plain = []
outputs_given s (while_true a) = []
outputs_given s (as_import xs) = map (name_part s) xs

-- what a caller gives to the inputs of a call, and behind them to its outputs
abbrev pub given_by : Sight → List Mode → Site → List Part
given_by s ms c = map (part_of s ms) c.arguments ++ outputs_given s c.manner

-- where a call's frame is active
abbrev pub active_where : Sight → List Mode → Site → Call → Formula
active_where s ms site c = same (flag_at c.beat) (runs_where s ms site.clock site.manner)

-- what is said of a frame and of those of its calls
abbrev pub ListsOf : Type 0
ListsOf = Tabled → Way → ℕ → Formula → List Part → Lists

abbrev pub lists_or_none : ListsOf → Option Tabled → Way → ℕ → Formula → List Part → Lists
lists_or_none f None w b active given = no_lists
lists_or_none f (Some t) w b active given = f t w b active given

abbrev pub call_lists : ListsOf → List Tabled → Sight → List Mode → ℕ → Linked → Call → Lists
call_lists f ts s ms from q c =
    joined (held_lists q.defaults c q.site.manner)
    (lists_or_none f (slice_get ts q.place) (way_of q.site.manner) (frame_base from q) (active_where s ms q.site c)
    (given_by s ms q.site))

abbrev pub call_lists_or_none : ListsOf → List Tabled → Sight → List Mode → ℕ → Linked → Option Call → Lists
call_lists_or_none f ts s ms from q None = no_lists
call_lists_or_none f ts s ms from q (Some c) = call_lists f ts s ms from q c

-- the calls from that place on, of a frame that is seen so
abbrev pub calls_lists : ListsOf → List Tabled → Sight → List Mode → ℕ → ℕ → List Linked → Lists
calls_lists f ts s ms from j [] = no_lists
calls_lists f ts s ms from j (q ∷ qs) =
    joined (call_lists_or_none f ts s ms from q (slice_get s.calls j)) (calls_lists f ts s ms from (suc j) qs)

-- those of calls that stand from there on, with others nested in them no deeper than said
abbrev pub lists_below : ℕ → List Tabled → ℕ → Sight → List Mode → ℕ → List Linked → Lists
lists_below zero ts missing s ms from qs = no_lists
lists_below (suc d) ts missing s ms from qs =
    calls_lists (λ t w b active given. joined
    (own_lists t (sight_at t w b missing) (items_within d ts missing t w b) (so_far_of t w b) active given)
    (lists_below d ts missing (sight_at t w b missing) (items_within d ts missing t w b).modes (behind_own w t b) t.calls))
    ts s ms from 0 qs

-- a frame that is seen so and has these items
abbrev pub lists_seen : ℕ → List Tabled → ℕ → Tabled → Sight → Items → Way → ℕ → Formula → List Part → Lists
lists_seen d ts missing t s r w b active given =
    joined (own_lists t s r (so_far_of t w b) active given)
    (lists_below d ts missing s r.modes (behind_own w t b) t.calls)

abbrev pub lists_within : ℕ → List Tabled → ℕ → ListsOf
lists_within d ts missing t w b active given =
    lists_seen d ts missing t (sight_at t w b missing) (items_within d ts missing t w b) w b active given

-- ---- the system

-- what a call owes: the assumptions of its callee, but an import owes nothing
abbrev pub owed_by : ItemsOf → Option Tabled → ℕ → ℕ → Manner → List Formula
owed_by f o b beat plain = owed beat (items_or_none f o Plain b).assumes
owed_by f o b beat (while_true a) = owed beat (items_or_none f o Condition b).assumes
owed_by f o b beat (as_import xs) = []

-- the beat of a call's frame is its first variable
abbrev pub owed_by_calls : ItemsOf → List Tabled → ℕ → List Linked → List Formula
owed_by_calls f ts from [] = []
owed_by_calls f ts from (q ∷ qs) =
    owed_by f (slice_get ts q.place) (frame_base from q) (frame_base from q) q.site.manner ++ owed_by_calls f ts from qs

-- of all calls of a frame, with others nested in them no deeper than said
abbrev pub owed_within : ℕ → List Tabled → ℕ → Tabled → ℕ → List Formula
owed_within zero ts missing t from = []
owed_within (suc d) ts missing t from = owed_by_calls (items_within d ts missing) ts from t.calls

-- the properties of the body, what the contract promises, and what is owed
abbrev pub properties_over : Sight → Items → Tabled → List Formula → List Formula
properties_over s r t owes = body_properties s r.modes t.component.body ++ (promises r ++ owes)

abbrev pub machine_of : Lists → List Formula → List Formula → Machine
machine_of l assumes properties = record {
  shapes = l.shapes;
  first = l.first;
  here = l.here;
  next = l.next;
  legal = assumes ++ l.asserts;
  properties = properties;
}

-- the system of a declaration, of a frame that is seen so
abbrev pub system_over : ℕ → List Tabled → ℕ → Tabled → Sight → Items → Machine
system_over d ts missing t s r =
    machine_of (lists_seen d ts missing t s r Plain 0 (flag_at s.beat) []) r.assumes
    (properties_over s r t (owed_within d ts missing t (behind_own Plain t 0)))

abbrev pub system_within : ℕ → List Tabled → ℕ → Tabled → Machine
system_within d ts missing t =
    system_over d ts missing t (sight_at t Plain 0 missing) (items_within d ts missing t Plain 0)
