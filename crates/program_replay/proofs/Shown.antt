-- What the replay of slots shows and tells, by the table that lines of a trace choose.
use Rattle.std.proofs.Common.{◌≡◌, ℕ, List, Option, Some, None, Result, Ok, Err, slice_get, refl, sym, ap, ◌∙◌, subst}
use Rattle.std.specs.Prelude.{IfErr, IfOk, OnOk, option_map}
use Rattle.std.specs.Option.{option_map_or}
use Rattle.kind_num.specs.declared.Shape.{Shape}
use Rattle.lus_meaning.specs.Scene.{Instance}
use Rattle.lus_meaning.specs.Slots.{Cell, beat_cell, name_cell, memory_cell, start_cell, sofar_cell, held_cell, Slot, slots}
use Rattle.lus_meaning.specs.Trace.{BareLine}
use Rattle.lus_meaning.specs.Value.{Value}
use Rattle.slot_sources.specs.Rows.{Choices}
use Rattle.slot_sources.specs.Source.{Source}
use Rattle.slot_sources.specs.Sources.{sources_of}
use Rattle.slot_rows.specs.Order.{IsSlotOrder}
use Rattle.slot_rows.specs.Table.{Row, rows, value_in}
use Rattle.slot_replay.specs.declared.fault.ReplayFault.{ReplayFault}
use Rattle.slot_replay.specs.declared.fault.ReplayFault.TheVariants as faults
use Rattle.slot_replay.specs.declared.replayed.Replayed.{Replayed}
use Rattle.slot_replay.specs.Answer.{AreBreaks, AreLawful, GoesThrough, IsPast, IsToldOf, seen_in}
use Rattle.slot_replay.specs.Conditions.{Conditions}
use Rattle.slot_replay.specs.Parts.{Part}
use Rattle.slot_replay.specs.Shown.{replayed_view}
use Rattle.trace_fits.specs.Given as given
use Rattle.trace_fits.specs.Given.{ListedPlace, given_at}
use Rattle.replay_laws.specs.Chosen as chosen
use Rattle.replay_laws.specs.Chosen.{Chooses, ShapesChoose, choices_by, listed_of, slot_shapes}
use Rattle.replay_laws.specs.OverSlots.{conditions_over}
use Rattle.program_replay.specs.Slots.{IsTable, ShowsSlots, TellsSlots}

-- ---- what is chosen

same_subject : (c : Cell) → given.subject_in c ≡ chosen.subject_in c
same_subject beat_cell = refl
same_subject (name_cell v) = refl
same_subject (memory_cell m) = refl
same_subject (start_cell a) = refl
same_subject sofar_cell = refl
same_subject (held_cell c v d) = refl

same_listed : (ls : List BareLine) (o : Option ListedPlace) (t : ℕ) → given.listed_there ls o t ≡ chosen.listed_there ls o t
same_listed ls None t = refl
same_listed ls (Some q) t = refl

same_place : (o : Option Slot) → option_map_or given.place_in o None ≡ option_map_or chosen.place_in o None
same_place None = refl
same_place (Some q) = ap (λ s. option_map (λ x. (q.path, x)) s) (same_subject q.cell)

same_given : (i : Instance) (ls : List BareLine) (k t : ℕ) → given_at i ls k t ≡ listed_of i ls k t
same_given i ls k t =
    same_listed ls (option_map_or given.place_in (slice_get (slots i) k) None) t
    ∙ ap (λ o. chosen.listed_there ls o t) (same_place (slice_get (slots i) k))

pub are_chosen : ShapesChoose → (i : Instance) (ls : List BareLine) (ss : List Shape) → ss ≡ slot_shapes i → (told : ℕ → ℕ → Value)
    → ((k t : ℕ) → told k t ≡ given_at i ls k t) → Chooses ls i (choices_by ss told)
are_chosen choose i ls ss e told g =
    subst (λ ss. Chooses ls i (choices_by ss told)) (sym e) (choose i ls told (λ k t. g k t ∙ same_given i ls k t))

-- ---- what is shown and told

module _ (i : Instance) (ls : List BareLine) (n : ℕ) (c : Choices) (h : Chooses ls i c) (es : List Source) (s : es ≡ sources_of i) (ks : List ℕ)
    (o : IsSlotOrder es ks) (q : Conditions) (y : q ≡ conditions_over i) (AreParts : List Part → Type 0) where
  abbrev table : List Row
  table = rows c es ks n

  is_table : IsTable i ls n table
  is_table = record {
    order = ks;
    is_order = subst (λ es. IsSlotOrder es ks) s o;
    choices = c;
    chosen = h;
    filled = ap (λ es. rows c es ks n) s;
  }

  pub shown : (r : Result Replayed ReplayFault) → OnOk r (GoesThrough (seen_in table) q AreParts n)
      → IfOk r (λ r. AreBreaks (value_in table) q n (replayed_view r).breaks) → IfOk r (λ r. AreLawful (value_in table) q n (replayed_view r).lawful)
      → IfOk r (λ r. (k t : ℕ) → (replayed_view r).value k t ≡ value_in table t k) → IfOk r (λ r. ShowsSlots i ls n AreParts (replayed_view r))
  shown (Ok r) g b l v = record {
    table = table;
    is_table = is_table;
    going_on = subst (λ q. GoesThrough (seen_in table) q AreParts n) y g;
    breaks = subst (λ q. AreBreaks (value_in table) q n (replayed_view r).breaks) y b;
    lawful = subst (λ q. AreLawful (value_in table) q n (replayed_view r).lawful) y l;
    value = v;
  }
  shown (Err e) g b l v = tt

  pub told : (r : Result Replayed ReplayFault) → IfErr r (IsPast (seen_in table) q AreParts n) → IfErr r (TellsSlots i ls n AreParts)
  told (Ok r) p = tt
  told (Err (faults.Past at t past)) p = record { table = table; is_table = is_table; told = subst (λ q. IsToldOf (seen_in table) q AreParts n t (record { at = at; past = past })) y p }
  told (Err faults.Memory) p = tt
