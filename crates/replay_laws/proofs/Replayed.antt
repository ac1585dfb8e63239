-- What is told by the table, and what it answers, is so of the one frame of the lines.
use Rattle.std.proofs.Common.{◌≡◌, ℕ, zero, suc, ◌<◌, ◌≤◌, true, List, [], ◌∷◌, map, length, get_or, ap, ◌∙◌, subst, arith, Option, Some, slice_get}
use Rattle.std.specs.Prelude.{Contains}
use Rattle.std.proofs.Math.ListN.{get_or-eq_default}
use Rattle.lus_tree.specs.Tree.{Component, Program}
use Rattle.lus_meaning.specs.ClockFaults.{components}
use Rattle.lus_meaning.specs.Frame.{Frame}
use Rattle.lus_meaning.specs.Program.{instance_of}
use Rattle.lus_meaning.specs.Run.{IsRun}
use Rattle.lus_meaning.specs.Scene.{Instance}
use Rattle.lus_meaning.specs.Trace.{BareLine, IsFrameOf}
use Rattle.lus_meaning.specs.Value.{absent}
use Rattle.lus_meaning.specs.Verdict.{throughout}
use Rattle.lus_meaning.proofs.Lists.{all_from_both}
use Rattle.lus_evaluation.specs.Outcome.{MeetsPast}
use Rattle.lus_evaluation.specs.Part.{Part}
use Rattle.lus_evaluation.specs.Past.{IsFirstPast, IsWithin}
use Rattle.slot_values.specs.declared.resolved.PastAt.{PastAt}
use Rattle.slot_sources.specs.Rows.{Choices}
use Rattle.slot_sources.specs.Sources.{sources_of}
use Rattle.slot_rows.specs.Table.{Row, no_row, value_in}
use Rattle.slot_rows.proofs.Agreed.{rows_whole}
use Rattle.evaluation_laws.specs.Rows.{AreCalls, row_at}
use Rattle.evaluation_laws.specs.Laws.{HasOneEvaluation}
use Rattle.evaluation_laws.proofs.Evaluations.{each_has_one_evaluation}
use Rattle.frame_laws.proofs.OneFrame.{one_frame}
use Rattle.row_laws.proofs.Follow.{rows_follow}
use Rattle.row_laws.proofs.Frames.{sources_read_slots}
use Rattle.condition_laws.proofs.Runs.{breaks_by_rows, lawful_by_rows}
use Rattle.order_laws.proofs.FirstByRows.{first_past_by_rows}
use Rattle.within_laws.proofs.Instants.{instants_are_within}
use Rattle.within_laws.proofs.Slots.{parts_are_over_slots, parts_stand_at_calls}
use Rattle.rest_laws.specs.Rests.{EachEvaluationRests, NamesIn, Rests}
use Rattle.slot_replay.specs.Parts.{Part as SlotPart}
use Rattle.slot_replay.specs.Answer.{AllGoOn, AreBreaks, AreLawful, GoesThrough, HasGoneOn, IsFirstTold, IsToldOf, met_before, seen_in}
use Rattle.slot_replay.specs.Following.{AreCovered, ConditionsWithin, PartsWithin}
use Rattle.slot_replay.proofs.Followed.{told_first, within_agrees, within_breaks, within_going_on, within_lawful}
use Rattle.replay_laws.specs.OverSlots.{AreDeclaredParts, ArePartsOf, conditions_over, over_slots}
use Rattle.replay_laws.specs.Replayed.{AnswerIsShown, HaveNames, IsReplayable, IsShown, OfOneFrame, ToldIsMet, table_of}
use Rattle.replay_laws.proofs.Answers.{lawful_rows, row_breaks}
use Rattle.replay_laws.proofs.Choices.{follow_chosen}
use Rattle.replay_laws.proofs.Covered.{are_covered, conditions_covered, first_is_past, slots_within}
use Rattle.replay_laws.proofs.Names.{have_names}

contained : (ds : List Component) (k : ℕ) (d : Component) → slice_get ds k ≡ Some d → Contains ds d
contained [] k d e = cc
contained (m ∷ ds) zero d e = (zero, omega arith, some_same m d e)
  where
    some_same : (m d : Component) → Some m ≡ Some d → m ≡ d
    some_same m d e = cc
contained (m ∷ ds) (suc k) d e =
    let r : Contains ds d = contained ds k d e in
    (suc r.0, omega (arith, r.1), r.2)

module _ (rest : EachEvaluationRests) (p : Program) (k : ℕ) (d : Component) (ls : List BareLine) (n : ℕ) (c : Choices) (ks : List ℕ)
    (h : IsReplayable p k d ls n c ks) where
  abbrev i : Instance
  i = instance_of p d

  abbrev table : List Row
  table = table_of p d n c ks

  j : Contains (components p) d
  j = contained (components p) k d h.declared

  -- ---- the one frame, and the one evaluation

  one : (f : Frame) × IsFrameOf ls i n f × ((g : Frame) → IsFrameOf ls i n g → g ≡ f)
  one = one_frame p h.checked d j n ls h.fits

  abbrev f : Frame
  f = one.0

  run : IsRun i n throughout f
  run = one.1.run

  evaluated : HasOneEvaluation i
  evaluated = each_has_one_evaluation p h.checked d j

  abbrev qs : List Part
  qs = evaluated.parts

  abbrev parts : List SlotPart
  parts = map (over_slots i) qs

  rests : Rests i qs
  rests = rest p h.checked d j qs evaluated.evaluation

  are_they : (ps : List SlotPart) → AreDeclaredParts p k ps → ps ≡ parts
  are_they ps a = let q : ArePartsOf ps i = a d h.declared in q.over ∙ ap (map (over_slots i)) (evaluated.one q.parts q.evaluation)

  covered : AreCovered (sources_of i) c ks (conditions_over i) parts rests.in_set n (λ t. row_at i f t)
  covered = are_covered p h.checked d j qs evaluated.evaluation n f run parts_are_over_slots rests instants_are_within
      (sources_read_slots p h.checked d j) c ks h.order
      (follow_chosen i ls c h.chosen (λ t. row_at i f t) n (rows_follow p h.checked d j ls n f one.1))

  of_one_frame : (P : Frame → Type 0) → P f → OfOneFrame ls i n P
  of_one_frame P a = record { frame = f; is_frame = one.1; only = one.2; so = a }

  -- ---- what is told

  told_met : (t : ℕ) (x : PastAt) → IsToldOf (seen_in table) (conditions_over i) (AreDeclaredParts p k) n t x
      → OfOneFrame ls i n (λ f. MeetsPast i f n x.at t x.past)
  told_met t x told = of_one_frame (λ f. MeetsPast i f n x.at t x.past) (record { parts = qs; evaluation = evaluated.evaluation; first = first })
    where
      mine : IsFirstTold (seen_in table) (conditions_over i) parts n t x
      mine = subst (λ ps. IsFirstTold (seen_in table) (conditions_over i) ps n t x) (are_they told.parts told.are_parts) told.told

      first : IsFirstPast i f qs n x.at t x.past
      first = first_is_past p h.checked d j qs evaluated.evaluation n f run parts_are_over_slots first_past_by_rows t x
          (told_first (sources_of i) c ks (conditions_over i) parts rests.in_set n (λ t. row_at i f t) covered t x mine)

  -- ---- what is answered

  module _ (through : GoesThrough (seen_in table) (conditions_over i) (AreDeclaredParts p k) n) where
    going_on : met_before (seen_in table) (conditions_over i) n ≡ true → AllGoOn (seen_in table) (conditions_over i) parts n
    going_on met = let g : HasGoneOn (seen_in table) (conditions_over i) (AreDeclaredParts p k) n = through met in
        subst (λ ps. AllGoOn (seen_in table) (conditions_over i) ps n) (are_they g.parts g.are_parts) g.going_on

    within : (t : ℕ) → t < n → PartsWithin parts (row_at i f t)
    within = within_going_on (sources_of i) c ks (conditions_over i) parts rests.in_set n (λ t. row_at i f t) covered going_on

    stays : IsWithin i f qs n
    stays t l = slots_within p h.checked d j qs evaluated.evaluation n f run parts_are_over_slots t l (within t l)

    agree : (t : ℕ) → t < n → (s : ℕ) → rests.in_set s ≡ true → value_in table t s ≡ row_at i f t s
    agree = within_agrees (sources_of i) c ks (conditions_over i) parts rests.in_set n (λ t. row_at i f t) covered within

    behind : (t : ℕ) → n ≤ t → (s : ℕ) → value_in table t s ≡ absent
    behind t l s = ap (λ r. get_or r.values s absent) (get_or-eq_default table no_row
        (let e : length table ≡ n = rows_whole c (sources_of i) ks n in omega (arith, l, e)))

    names_there : (w : List ℕ) → AreCalls i w → NamesIn i rests.in_set w → HaveNames i f (value_in table) w
    names_there w a = have_names p h.checked d j n f run w a rests.in_set (value_in table) agree behind

    shown : (hits : ℕ → Option ℕ) (a : ℕ) → AreBreaks (value_in table) (conditions_over i) n hits → AreLawful (value_in table) (conditions_over i) n a
        → OfOneFrame ls i n (λ f. IsShown i f n (value_in table) hits a)
    shown hits a breaks lawful = of_one_frame (λ f. IsShown i f n (value_in table) hits a) (record {
      within = record { parts = qs; evaluation = evaluated.evaluation; within = stays };
      breaks = breaks_by_rows p h.checked d j n f run hits (row_breaks (λ t. row_at i f t) (conditions_over i) n quiet hits
          (within_breaks (sources_of i) c ks (conditions_over i) parts rests.in_set n (λ t. row_at i f t) covered within hits breaks));
      lawful = lawful_by_rows p h.checked d j n f run a (lawful_rows (λ t. row_at i f t) (conditions_over i) n quiet a
          (within_lawful (sources_of i) c ks (conditions_over i) parts rests.in_set n (λ t. row_at i f t) covered within a lawful));
      names = names_there [] tt rests.names;
      frames = all_from_both (λ q. AreCalls i q.way) (λ q. NamesIn i rests.in_set q.way) (λ q. HaveNames i f (value_in table) q.way)
          (λ q. names_there q.way) qs (parts_stand_at_calls p h.checked d j qs evaluated.evaluation) rests.frame_names;
    })
      where
        quiet : (t : ℕ) → t < n → ConditionsWithin (conditions_over i) (row_at i f t)
        quiet t l = conditions_covered p h.checked d j qs evaluated.evaluation n f run parts_are_over_slots t l (within t l)

pub told_is_met : EachEvaluationRests → ToldIsMet
told_is_met rest p k d ls n c ks h t x told = told_met rest p k d ls n c ks h t x told

pub answer_is_shown : EachEvaluationRests → AnswerIsShown
answer_is_shown rest p k d ls n c ks h through hits a breaks lawful = shown rest p k d ls n c ks h through hits a breaks lawful
