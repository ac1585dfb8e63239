-- A run whose states are a path is the path's frame.
use Rattle.std.proofs.Common.{◌≡◌, ℕ, zero, suc, ◌<◌, ◌+◌, Bool, true, false, cond, List, [], ◌∷◌, map, length, refl, ap, ◌∙◌, sym, subst, arith, get_or, slice_index_or, unwrap_or, ◌==◌}
use Rattle.std.specs.List.{AllByRecursion}
use Rattle.std.specs.Map.{lookup}
use Rattle.std.specs.Str.{bytes_eq}
use Rattle.std.proofs.lemmas.Bool.{false≢true, true≢false}
use Rattle.lus_tree.specs.declared.place.Sort.{Sort}
use Rattle.lus_tree.specs.Tree.{Name, Variable}
use Rattle.lus_meaning.specs.Value.{Value, absent, flag, whole, Stream, Instants}
use Rattle.lus_meaning.specs.Frame.{Frame, Frames, frame, no_frames, with_frame, calls_in, firsts_of, entry}
use Rattle.lus_meaning.specs.Scene.{Scene, Instance, Instances, instance, no_instances, with_instance, component_of, calls_of, variables, clock_from, is_on}
use Rattle.lus_meaning.specs.Contract.{scene}
use Rattle.lus_meaning.specs.Occurrences.{memories}
use Rattle.lus_meaning.specs.Run.{IsRun, CallsRun, active, first_sorts, is_typed, sort_of, sort_of_name}
use Rattle.lus_meaning.specs.Recompute.{sample}
use Rattle.lus_meaning.specs.Trace.{or_default}
use Rattle.lus_meaning.specs.Verdict.{throughout}
use Rattle.lus_meaning.proofs.Equal.{Rows, names_in, RowFound, rows_found, values_equal, head_name, tail_names, sorted_length}
use Rattle.lus_meaning.proofs.Exists.{length_sample}
use Rattle.lus_meaning.proofs.Stable.{sample_at}
use Rattle.sys_terms.specs.declared.term.Entry.{Entry}
use Rattle.sys_terms.specs.Meaning.{values_of, truth_of}
use Rattle.sys_terms.specs.Paths.{IsPath}
use Rattle.sys_meaning.specs.Slot.{Place, own, named}
use Rattle.sys_meaning.specs.Items.{Key}
use Rattle.sys_meaning.specs.State.{state_of, states_from}
use Rattle.sys_meaning.specs.Part.{value_in}
use Rattle.sys_meaning.specs.Path.{Course, bare_stage, name_by, firsts_by, frame_by, frames_by, course_of, frame_of_path}
use Rattle.sys_meaning.specs.Translate.{present}
use Rattle.sys_meaning.specs.System.{below_call, stage, number_of, system_of}
use Rattle.sys_meaning.specs.Law.{IsRunOf, PathsToRuns, RunsArePathsLaw}
use Rattle.sys_meaning.specs.WellTyped.{IsKnown, MemoryFits, StreamFits, TreeFits, CallsFit, WellTyped}
use Rattle.sys_meaning.proofs.Present.{present_on}
use Rattle.sys_meaning.proofs.Rows.{OwnShown, as_it_is}
use Rattle.sys_meaning.proofs.Owned.{found_one}
use Rattle.sys_meaning.proofs.Offs.{present_same}
use Rattle.sys_meaning.proofs.Taken.{first_by}
use Rattle.sys_meaning.proofs.Shows.{Reads, state_reads}
use Rattle.sys_meaning.proofs.Forward.{drop_calls, drop_frames, later_calls, later_frames, calls_later, frames_later, modes_of, Contracts, call_at_reads, own_fits, shown_here}
use Rattle.sys_meaning.proofs.PathStates.{path_is_run_of, some_length}
use Rattle.sys_meaning.proofs.Whole.{known_contracts, runs_to_paths}
use Rattle.sys_meaning.proofs.Truths.{truths_in_runs}

-- ---- rows

-- rows that are found by their names are the samples of these streams
pub rows_sampled : (n : ℕ) (p q : Rows) (vs : List Variable) (w : Variable → Stream) →
    names_in q ≡ map (λ v. v.name.text) vs → AllByRecursion (RowFound p) q →
    AllByRecursion (λ (x : Name × List Value). length x.1 ≡ n) q →
    AllByRecursion (λ v. (t : ℕ) → t < n →
    slice_index_or (unwrap_or (lookup (bytes_eq v.name.text) p) []) t absent ≡ w v t) vs →
    q ≡ map (λ v. (v.name.text, sample n (w v))) vs
rows_sampled n p [] [] w e a l h = refl
rows_sampled n p [] (v ∷ vs) w e a l h = let d : 0 ≡ suc (length (map (λ v. v.name.text) vs)) = ap length e in
    absurd (omega arith)
rows_sampled n p (x ∷ q) [] w e a l h = let d : suc (length (names_in q)) ≡ 0 = ap length e in absurd (omega arith)
rows_sampled n p ((x, s) ∷ q) (v ∷ vs) w e a l h =
    let k : x ≡ v.name.text = ap head_name e in
    let here : s ≡ sample n (w v) = values_equal n s (sample n (w v)) l.0 (length_sample n (w v))
    (λ t g. sym (ap (λ o. slice_index_or (unwrap_or o []) t absent) a.0)
    ∙ ap (λ z. slice_index_or (unwrap_or (lookup (bytes_eq z) p) []) t absent) k ∙ h.0 t g
    ∙ sym (sample_at n t (w v) g)) in
    rw (k, here, rows_sampled n p q vs w (ap tail_names e) a.1 l.1 h.1) refl

-- an entry is its variable's value where the clock is on
entry_where : (z : Sort) (o on : Bool) (e v : Value) → o ≡ on → is_typed z on e ≡ true → v ≡ or_default z e →
    e ≡ cond o v absent
entry_where z true true e v q h d = sym (d ∙ as_it_is z e h)
entry_where z false false absent v q h d = refl
entry_where z false false (flag b) v q h d = absurd (false≢true h)
entry_where z false false (whole m) v q h d = absurd (false≢true h)
entry_where z true false e v q h d = absurd (true≢false q)
entry_where z false true e v q h d = absurd (false≢true q)

firsts_length : (k : ℕ) (ss : List Sort) (at : Place → ℕ) (c : Course) → length (firsts_by k ss at c) ≡ length ss
firsts_length k [] at c = refl
firsts_length k (s ∷ ss) at c = ap suc (firsts_length (suc k) ss at c)

-- ---- the tree

module _ (Modes : Instance → Key → Type 0) (contracts : Contracts Modes) (c : Course) (n : ℕ) (some : 0 < n) where
  module _ (i : Instance) (at : Place → ℕ) (b : Instants) (f : Frame) (run : IsRun i n b f)
      (fits : TreeFits Modes i) (reads : (t : ℕ) → t < n → Reads Modes i at b f t (c t)) where
    abbrev pub s : Scene
    s = scene i b f

    sh : (t : ℕ) → t < n → OwnShown s (Modes i) at (c t) (c t) t (modes_of Modes i at)
    sh t h = shown_here Modes contracts c n i at b f run fits reads t h (c t)

    entry_is : (v : Variable) → StreamFits i (Modes i) v → (t : ℕ) → t < n →
        entry f v.name.text t ≡ name_by i at c v t
    entry_is v w t h =
        let x : Name = v.name.text in
        let e : Value = entry f x t in
        entry_where v.sort (truth_of (c t) (c t) (present (bare_stage i at) (clock_from v.clock))) (is_on s
        (clock_from v.clock) t) e (value_in (c t) v.sort (at (own (named x))))
        (sym (present_same (c t) (c t) i at (stage i at).modes [] (length (variables (component_of i)))
        (clock_from v.clock))
        ∙ present_on s (Modes i) at (modes_of Modes i at) (c t) (c t) t (sh t h).beats (sh t h).names (sh t h).typed
        (clock_from v.clock) w.clock)
        (subst (λ z. is_typed z (is_on s (clock_from v.clock) t) e ≡ true) w.sort
        (subst (λ k. is_typed (sort_of_name i x) (is_on s k t) e ≡ true) w.name.clock
        ((sh t h).typed x w.name.stream w.name.declared)))
        (subst (λ z. value_in (c t) z (at (own (named x))) ≡ or_default z e) w.sort
        ((sh t h).names x w.name.stream w.name.declared))

    pub entries_are : (vs : List Variable) → AllByRecursion (StreamFits i (Modes i)) vs →
        AllByRecursion (λ v. (t : ℕ) → t < n → entry f v.name.text t ≡ name_by i at c v t) vs
    entries_are [] a = tt
    entries_are (v ∷ vs) a = (entry_is v a.0, entries_are vs a.1)

    pub first_is : (j : ℕ) → j < length (first_sorts i) → (vs : List Value) →
        ((k : ℕ) → slice_index_or vs k absent ≡ slice_index_or (firsts_of f) k absent) →
        slice_index_or vs j absent ≡ slice_index_or (firsts_by 1 (first_sorts i) at c) j absent
    first_is j l vs same =
        let q = (own_fits Modes i fits).firsts j l in
        let m : MemoryFits i (Modes i) (record { number = suc j; clock = q.0; operand = q.1 }) =
        found_one (MemoryFits i (Modes i)) (λ m. m.number == suc j) (memories (component_of i))
        (record { number = suc j; clock = q.0; operand = q.1 }) (own_fits Modes i fits).memories q.2 in
        let here : suc j ≡ 1 + j = omega arith in
        same j ∙ sym ((sh 0 some).memories (suc j) q.0 q.1 q.2)
        ∙ sym (first_by 1 j (first_sorts i) at c (sort_of i q.1) (suc j) m.first here)

  mutual
    pub one_frame : (i : Instance) (at : Place → ℕ) (b : Instants) (f : Frame) (run : IsRun i n b f)
        (fits : TreeFits Modes i) (reads : (t : ℕ) → t < n → Reads Modes i at b f t (c t)) → f ≡ frame_by i at c n
    one_frame (instance d cs is) at b (frame p v fs) run fits reads =
        let i : Instance = instance d cs is in
        let f : Frame = frame p v fs in
        let rows : p ≡ map (λ v. (v.name.text, sample n (name_by i at c v))) (variables d) =
        rows_sampled n p p (variables d) (name_by i at c) run.0.names (rows_found p (rw run.0.names fits.0.once))
        run.0.lengths (entries_are i at b f run fits reads (variables d) fits.0.streams) in
        let firsts : v ≡ firsts_by 1 (first_sorts i) at c =
        values_equal (length (first_sorts i)) v (firsts_by 1 (first_sorts i) at c)
        (sorted_length (first_sorts i) v run.0.firsts) (firsts_length 1 (first_sorts i) at c)
        (λ j l. first_is i at b f run fits reads j l v (λ k. refl)) in
        let calls : fs ≡ frames_by is at c n =
        one_frames is i at b f run fits reads 0 fs refl refl run.1 fits.1 in
        rw (rows, firsts, calls) refl

    one_frames : (is : Instances) (i : Instance) (at : Place → ℕ) (b : Instants) (f : Frame)
        (run : IsRun i n b f) (fits : TreeFits Modes i) (reads : (t : ℕ) → t < n → Reads Modes i at b f t (c t))
        (p : ℕ) (fs : Frames) →
        drop_calls p (calls_of i) ≡ is → drop_frames p (calls_in f) ≡ fs → CallsRun n (scene i b f) is fs →
        CallsFit Modes i is p → fs ≡ frames_by is at c n
    one_frames no_instances i at b f run fits reads p no_frames e d r w = refl
    one_frames no_instances i at b f run fits reads p (with_frame g fs) e d r w = absurd r
    one_frames (with_instance a k is) i at b f run fits reads p no_frames e d r w = absurd r
    one_frames (with_instance a k is) i at b f run fits reads p (with_frame g fs) e d r w =
        let below : (t : ℕ) → t < n → Reads Modes k (below_call a.number at) (active (scene i b f) a) g t (c t) =
        λ t h. call_at_reads Modes i at b f t (c t) a k is g fs p w.0 e d (reads t h) in
        let one : g ≡ frame_by k (below_call a.number at) c n =
        one_frame k (below_call a.number at) (active (scene i b f) a) g r.1 w.1 below in
        let rest : fs ≡ frames_by is at c n =
        one_frames is i at b f run fits reads (suc p) fs (calls_later p (calls_of i) ∙ ap later_calls e)
        (frames_later p (calls_in f) ∙ ap later_frames d) r.2 w.2 in
        rw (one, rest) refl

-- ---- paths

-- the state of an instant is the one listed there
pub state_listed : (i : Instance) (f : Frame) (n t u : ℕ) → u < n →
    get_or (states_from i f t n) u [] ≡ state_of i f (t + u)
state_listed i f zero t u h = absurd (omega arith)
state_listed i f (suc n) t zero h = let here : t ≡ t + 0 = omega arith in ap (state_of i f) here
state_listed i f (suc n) t (suc u) h = let there : suc t + u ≡ t + suc u = omega arith in
    state_listed i f n (suc t) u (omega arith) ∙ ap (state_of i f) there

pub only_run : (i : Instance) → WellTyped IsKnown i → (states : List (List Entry)) → IsPath (system_of i) states →
    (g : Frame) → IsRunOf i states g → g ≡ frame_of_path i states
only_run i w states path g r =
    one_frame IsKnown known_contracts (course_of states) (length states) (some_length states path.loose.some) i
    (number_of i) throughout g r.run w.tree reads
  where
    here : (t : ℕ) → t < length states → state_of i g t ≡ get_or states t []
    here t h = let from : t ≡ 0 + t = omega arith in
        ap (state_of i g) from ∙ sym (state_listed i g (length states) 0 t h) ∙ ap (λ z. get_or z t []) r.goes

    reads : (t : ℕ) → t < length states → Reads IsKnown i (number_of i) throughout g t (course_of states t)
    reads t h = subst (λ z. Reads IsKnown i (number_of i) throughout g t (values_of z)) (here t h)
        (state_reads IsKnown i w g t)

-- the second direction
pub paths_to_runs : PathsToRuns
paths_to_runs i w distinct states path =
    (path_is_run_of i w states path distinct, only_run i w states path)

pub runs_are_paths : RunsArePathsLaw
runs_are_paths i w distinct = record {
  paths = runs_to_paths i w;
  runs = λ states path. record {
    found = frame_of_path i states;
    is = (paths_to_runs i w distinct states path).0;
    only = (paths_to_runs i w distinct states path).1;
  };
  truths = truths_in_runs i w;
}
