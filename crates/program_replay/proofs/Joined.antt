-- What is told or shown of slots is so of the one frame of the trace.
use Rattle.std.proofs.Common.{◌≡◌, ℕ, ◌<◌, List, [], Option, Some, None, slice_get, refl, sym, ap, ◌∙◌, subst}
use Rattle.std.specs.Prelude.{Contains}
use Rattle.lus_tree.specs.Lookup.{nodes_of}
use Rattle.lus_tree.specs.Tree.{Name, Component, Program}
use Rattle.lus_meaning.specs.ClockFaults.{components}
use Rattle.lus_meaning.specs.Fits.{FitsInstance, FitsProgram, first_failed, misfit, node_tests}
use Rattle.lus_meaning.specs.Frame.{entry}
use Rattle.lus_meaning.specs.Program.{instance_of}
use Rattle.lus_meaning.specs.Refusals.{IsChecked, IsWithinLimits}
use Rattle.lus_meaning.specs.Replay.{frame_on}
use Rattle.lus_meaning.specs.Scene.{Instance}
use Rattle.lus_meaning.specs.Slots.{width}
use Rattle.lus_meaning.specs.TraceView.{Listing, lines_of}
use Rattle.lus_layouts.proofs.Fits.{nodes_fit}
use Rattle.frame_names.specs.Slots.{KnowsSlots, slot_there}
use Rattle.slot_values.specs.Evaluated.{SlotValues}
use Rattle.slot_rows.specs.Table.{Row, rows, value_in}
use Rattle.slot_sources.specs.Sources.{sources_of}
use Rattle.slot_replay.specs.Answer.{AreBreaks, AreLawful, GoesThrough, IsToldOf, seen_in}
use Rattle.slot_replay.specs.Parts.{Part as SlotPart}
use Rattle.slot_replay.specs.Shown.{Shown}
use Rattle.slot_replay.specs.declared.fault.ReplayFault.{ReplayFault as SlotFault}
use Rattle.slot_replay.specs.declared.fault.ReplayFault.TheVariants as slots
use Rattle.replay_laws.specs.OverSlots.{AreDeclaredParts, conditions_over}
use Rattle.replay_laws.specs.Replayed.{AnswerIsShown, IsReplayable, IsShown, OfOneFrame, ToldIsMet}
use Rattle.program_replay.specs.Answer.{ShowsTrace, value_of}
use Rattle.program_replay.specs.Faults.{IsFault}
use Rattle.program_replay.specs.Instants.{AreNamedParts}
use Rattle.program_replay.specs.Named.{Numbered, numbers_from}
use Rattle.program_replay.specs.Slots.{IsTable, ShowsSlots, TellsSlots}
use Rattle.program_replay.specs.Told.{of_slots}
use Rattle.program_replay.proofs.Numbers.{IsFound, declared_there, first_none, found_from, from_first}
use Rattle.program_replay.proofs.Values.{no_value, same_in_all, same_values}

some_same : {A : Type 0} (x y : A) → Some x ≡ Some y → x ≡ y
some_same x y e = cc

-- a name that no node has doesn't fit
pub unnamed_misfit : (p : Program) (t : Listing) → None ≡ numbers_from 0 0 t.node p → misfit p t ≡ Some t.node_at
unnamed_misfit p t e = ap (λ o. first_failed (node_tests p o t)) (sym (first_none 0 0 t.node p e))

pub node_small : (p : Program) (x : Name) (m : Numbered) → numbers_from 0 0 x p ≡ Some m → IsWithinLimits p None → width (instance_of p m.node) < 20001
node_small p x m e h =
    let found = found_from 0 0 x p m e in
    nodes_fit p None h m.node (declared_there (nodes_of p) found.number m.node found.node)

pub node_declared : (p : Program) (x : Name) (m : Numbered) → numbers_from 0 0 x p ≡ Some m → Contains (components p) m.node
node_declared p x m e =
    let found = found_from 0 0 x p m e in
    declared_there (components p) found.place m.node found.component

pub node_place : (p : Program) (x : Name) (m : Numbered) → numbers_from 0 0 x p ≡ Some m → slice_get (components p) m.place ≡ Some m.node
node_place p x m e =
    let found = found_from 0 0 x p m e in
    ap (slice_get (components p)) (from_first m.place found.place found.behind_components) ∙ found.component

module _ (p : Program) (t : Listing) (c : IsChecked p) (fits : FitsProgram p t) (m : Numbered) (is_found : numbers_from 0 0 t.node p ≡ Some m) where
  found : IsFound 0 0 t.node p m
  found = found_from 0 0 t.node p m is_found

  abbrev d : Component
  d = m.node

  abbrev i : Instance
  i = instance_of p d

  pub place_is : slice_get (components p) m.place ≡ Some d
  place_is = node_place p t.node m is_found

  lines_fit : FitsInstance i t.length (lines_of t)
  lines_fit = subst (λ n. FitsInstance (instance_of p n) t.length (lines_of t)) (some_same fits.node d (sym fits.named ∙ found.named)) fits.lines

  replayable : (table : List Row) (x : IsTable i (lines_of t) t.length table) → IsReplayable p m.place d (lines_of t) t.length x.choices x.order
  replayable table x = record {
    checked = c;
    declared = place_is;
    fits = lines_fit;
    order = x.is_order;
    chosen = x.chosen;
  }

  named_declared : (ps : List SlotPart) → AreNamedParts p t.node ps → AreDeclaredParts p m.place ps
  named_declared ps h = h m is_found

  pub fault_told : ToldIsMet → (e : SlotFault) → TellsSlots i (lines_of t) t.length (AreNamedParts p t.node) e → IsFault p t (of_slots e)
  fault_told told (slots.Past at u past) h =
      let x = h.is_table in
      let moved : IsToldOf (seen_in h.table) (conditions_over i) (AreDeclaredParts p m.place) t.length u (record { at = at; past = past }) =
      record { parts = h.told.parts; are_parts = named_declared h.told.parts h.told.are_parts; told = h.told.told } in
      let q = told p m.place d (lines_of t) t.length x.choices x.order (replayable h.table x) u (record { at = at; past = past })
      (subst (λ table. IsToldOf (seen_in table) (conditions_over i) (AreDeclaredParts p m.place) t.length u (record { at = at; past = past })) x.filled moved)
      in (
        fits,
        record {
          node = d;
          named = found.named;
          frame = q.frame;
          is_frame = q.is_frame;
          only = q.only;
          meets = q.so;
        },
      )
  fault_told told slots.Memory h = tt

  pub declared : Contains (components p) d
  declared = declared_there (components p) m.place d place_is

  pub small : IsWithinLimits p None → width i < 20001
  small h = node_small p t.node m is_found h

  abbrev Says : Shown → List Row → Type 0
  Says r table = GoesThrough (seen_in table) (conditions_over i) (AreDeclaredParts p m.place) t.length
      × AreBreaks (value_in table) (conditions_over i) t.length r.breaks × AreLawful (value_in table) (conditions_over i) t.length r.lawful

  pub trace_shown : AnswerIsShown → IsWithinLimits p None → (r : Shown) → ShowsSlots i (lines_of t) t.length (AreNamedParts p t.node) r
      → (slot : List ℕ → Name → Option ℕ) → KnowsSlots p m.place slot → (n : ℕ) → n ≡ m.number
      → ShowsTrace p t (record { breaks = r.breaks; lawful = r.lawful; value = value_of slot r.value; node = n })
  trace_shown answered limits r h slot known n k = record {
    shown = record { breaks = r.breaks; lawful = r.lawful; value = λ path x u. entry (frame_on q.frame path) x u };
    replays = record {
      node = d;
      named = found.named;
      replays = record {
        frame = q.frame;
        is_frame = q.is_frame;
        only = q.only;
        breaks = q.so.breaks;
        lawful = q.so.lawful;
        values = λ path x u. refl;
      };
    };
    within = q.so.within;
    node = ap (slice_get (nodes_of p)) (k ∙ from_first m.number found.number found.behind_nodes) ∙ found.node;
    breaks = λ k. refl;
    lawful = refl;
    values = same_values i slot knows r.value filled_rows in_table q.frame [] q.so.names;
    frames = same_in_all i slot knows r.value filled_rows in_table q.frame q.so.within.parts q.so.frames;
    others = no_value i slot knows r.value filled_rows in_table;
  }
    where
      x : IsTable i (lines_of t) t.length h.table
      x = h.is_table

      gone : GoesThrough (seen_in h.table) (conditions_over i) (AreDeclaredParts p m.place) t.length
      gone e = let g = h.going_on e in record { parts = g.parts; are_parts = named_declared g.parts g.are_parts; going_on = g.going_on }

      moved : Says r (rows x.choices (sources_of i) x.order t.length)
      moved = subst (Says r) x.filled (gone, h.breaks, h.lawful)

      filled_rows : ℕ → SlotValues
      filled_rows = value_in (rows x.choices (sources_of i) x.order t.length)

      q : OfOneFrame (lines_of t) i t.length (λ f. IsShown i f t.length filled_rows r.breaks r.lawful)
      q = answered p m.place d (lines_of t) t.length x.choices x.order (replayable h.table x) moved.0 r.breaks r.lawful moved.1 moved.2

      knows : (w : List ℕ) (y : Name) → slot w y ≡ slot_there i w y
      knows = known d place_is (small limits)

      in_table : (k u : ℕ) → r.value k u ≡ filled_rows u k
      in_table k u = h.value k u ∙ ap (λ table. value_in table u k) x.filled
