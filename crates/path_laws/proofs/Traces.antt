-- The trace of a path of small numbers fits its program.
use Rattle.std.proofs.Common.{◌≡◌, ℕ, zero, suc, ◌<◌, true, List, [], ◌∷◌, ◌++◌, length, get_or, refl, sym, ap, ◌∙◌, subst, append_assoc, Option, Some, None, slice_get}
use Rattle.std.specs.Prelude.{Contains}
use Rattle.std.specs.List.{AllByRecursion}
use Rattle.lus_tree.specs.declared.place.Sort.TheVariants.{Int as Numbers}
use Rattle.lus_tree.specs.Tree.{Variable, Program}
use Rattle.lus_meaning.specs.Value.{whole}
use Rattle.lus_meaning.specs.Frame.{Frame, calls_in, firsts_of, entry}
use Rattle.lus_meaning.specs.Scene.{plain, Instance, instance, component_of, clock_from, variables, is_on}
use Rattle.lus_meaning.specs.Contract.{scene}
use Rattle.lus_meaning.specs.Program.{instance_of}
use Rattle.lus_meaning.specs.Recompute.{sample}
use Rattle.lus_meaning.specs.Run.{IsRun}
use Rattle.lus_meaning.specs.Trace.{of_name, BareLine, free_names, IsFrameOf}
use Rattle.lus_meaning.specs.Fits.{is_of_sort, is_given, is_listed, same_place, AreDifferent, listable, listable_names, listable_in, FitsInstance}
use Rattle.lus_meaning.specs.Verdict.{throughout}
use Rattle.lus_meaning.specs.ClockFaults.{components}
use Rattle.lus_meaning.specs.Refusals.{IsChecked}
use Rattle.lus_meaning.proofs.Lists.{all_from, map_append}
use Rattle.rule_laws.specs.Laws.{IsUnfolded}
use Rattle.rule_laws.specs.Fitting.{OnBase}
use Rattle.rule_laws.proofs.Unfolded.{component_within, each_unfolded}
use Rattle.run_laws.proofs.Texts.{is_callee}
use Rattle.frame_laws.proofs.OneFrame.{one_frame}
use Rattle.sys_terms.specs.declared.term.Entry.{Entry}
use Rattle.sys_terms.specs.declared.term.Entry.TheVariants as entries
use Rattle.sys_terms.specs.Meaning.{as_number}
use Rattle.sys_terms.specs.Paths.{IsPath}
use Rattle.sys_meaning.specs.Path.{course_of, frame_of_path, name_lines, first_lines, lines_from, lines_below, trace_of}
use Rattle.sys_meaning.specs.System.{number_of, system_of}
use Rattle.sys_meaning.specs.Verdicts.{HasTrace}
use Rattle.sys_meaning.proofs.Traces.{input_given}
use Rattle.sys_meaning.proofs.PathStates.{some_length}
use Rattle.sys_meaning.proofs.Tracing.{any_left}
use Rattle.path_laws.specs.Laws.{is_small_entry, HasSmallNumbers, EachHasTraces}
use Rattle.path_laws.proofs.Lines.{inputs_within, names_within, top_within, all_of_within, lines_differ, Match, match_both, all_taken, SmallCourse, NameGood, own_typed, needed_match, lines_match, lines_placed}
use Rattle.path_laws.proofs.Main.{each_is_well_typed, each_traces}
use Rattle.path_laws.proofs.OnePlace.{slots_apart}

-- ---- small numbers

small_entry : (s : List Entry) → AllByRecursion (λ e. is_small_entry e ≡ true) s → (k : ℕ) → is_of_sort Numbers (whole (as_number (slice_get s k))) ≡ true
small_entry [] a k = refl
small_entry (entries.Flag b ∷ s) a zero = refl
small_entry (entries.Number z ∷ s) a zero = a.0
small_entry (x ∷ s) a (suc k) = small_entry s a.1 k

small_course : (states : List (List Entry)) → HasSmallNumbers states → (t : ℕ) (k : ℕ) →
    is_of_sort Numbers (whole (as_number (slice_get (get_or states t []) k))) ≡ true
small_course [] a t k = refl
small_course (s ∷ states) a zero k = small_entry s a.0 k
small_course (s ∷ states) a (suc t) k = small_course states a.1 t k

-- ---- the lines of the analysed declaration

top_lines : (i : Instance) (n : ℕ) (f : Frame) →
    name_lines [] n f (component_of i).inputs ++ lines_from [] n (free_names (component_of i)) i f
    ≡ lines_from [] n ((component_of i).inputs ++ free_names (component_of i)) i f
top_lines (instance d cs is) n f =
    let inputs : List BareLine = name_lines [] n f d.inputs in
    let free : List BareLine = name_lines [] n f (free_names d) in
    let firsts : List BareLine = first_lines [] 1 (firsts_of f) in
    let below : List BareLine = lines_below [] n is (calls_in f) in
    sym (append_assoc inputs (free ++ firsts) below) ∙ ap (λ l. l ++ below) (sym (append_assoc inputs free firsts)
    ∙ ap (λ l. l ++ firsts) (sym (map_append (λ (v : Variable). record { path = []; subject = of_name v.name.text; values = sample n (entry f v.name.text) })
    d.inputs (free_names d))))

on_base_on : (i : Instance) (f : Frame) (vs : List Variable) → OnBase vs →
    AllByRecursion (λ v. (t : ℕ) → is_on (scene i throughout f) (clock_from v.clock) t ≡ true) vs
on_base_on i f [] a = tt
on_base_on i f (v ∷ vs) a = (λ t. subst (λ o. is_on (scene i throughout f) (clock_from o) t ≡ true) (sym a.0) refl, on_base_on i f vs a.1)

pub each_has_traces : EachHasTraces
each_has_traces p c n j states path small = record {
  fits = fits;
  frame = frame;
  only = λ g q. let r = one_frame p c n j len (trace_of i states) fits in r.2 g q ∙ sym (r.2 (frame_of_path i states) frame);
}
  where
    i : Instance
    i = instance_of p n

    len : ℕ
    len = length states

    f : Frame
    f = frame_of_path i states

    u : IsUnfolded p i
    u = each_unfolded p c n j

    here : Contains (components p) (component_of i)
    here = subst (Contains (components p)) (sym (component_within _ p n)) j

    inputs : List Variable
    inputs = (component_of i).inputs

    free : List Variable
    free = free_names (component_of i)

    frame : IsFrameOf (trace_of i states) i len f
    frame = each_traces p c n j states path

    course : SmallCourse (course_of states) len
    course t l k = small_course states small t k

    some : 0 < len
    some = some_length states path.loose.some

    match : Match (trace_of i states) (listable len i)
    match = match_both (name_lines [] len f inputs) (lines_from [] len free i f) (listable_names [] len true inputs) (listable_in [] len free i)
        (needed_match i (number_of i) (course_of states) len throughout course [] inputs
        (all_of_within (NameGood i (number_of i) (course_of states) len throughout course) inputs (variables (component_of i))
        (inputs_within (component_of i)) (own_typed i (number_of i) (course_of states) len throughout course frame.run))
        (on_base_on i f inputs (is_callee p c i u here).inputs_on_base))
        (lines_match i (number_of i) (course_of states) len throughout course some frame.run [] free (names_within (component_of i)))

    differ : AreDifferent (trace_of i states)
    differ = subst AreDifferent (sym (top_lines i len f))
        (lines_differ (lines_from [] len (inputs ++ free) i f) _
        (lines_placed p c i u here plain (number_of i) (course_of states) len [] (inputs ++ free) (top_within (component_of i)))
        (slots_apart i (each_is_well_typed p c n j).0.tree))

    fits : FitsInstance i len (trace_of i states)
    fits = record {
      taken = all_taken (trace_of i states) (listable len i) match differ;
      once = differ;
      given = all_from (λ v. is_listed (name_lines [] len f inputs) [] (of_name v.name.text) ≡ true) (λ v. is_given (trace_of i states) v ≡ true)
          (λ v e. any_left (λ l. same_place l.path l.subject [] (of_name v.name.text)) (name_lines [] len f inputs) (lines_from [] len free i f) e)
          inputs (input_given len f inputs);
    }
