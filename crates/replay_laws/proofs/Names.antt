-- The names of a frame of a run, in its rows and behind its end.
use Rattle.std.proofs.Common.{◌≡◌, ℕ, zero, suc, ◌<◌, ◌≤◌, Bool, true, false, cond, List, [], ◌∷◌, length, refl, ap, ◌∙◌, sym, subst, arith, Some, slice_index_or, unwrap_or}
use Rattle.std.specs.Prelude.{Contains}
use Rattle.std.specs.List.{AllByRecursion}
use Rattle.std.specs.Map.{lookup}
use Rattle.std.specs.Str.{bytes_eq}
use Rattle.std.proofs.Math.Logic.{◌⊎◌, inl, inr}
use Rattle.std.proofs.lemmas.Bool.{cases_lt}
use Rattle.std.proofs.Math.ListN.{get_or-eq_default}
use Rattle.lus_tree.specs.Tree.{Component, Name, Program, Variable}
use Rattle.lus_meaning.specs.ClockFaults.{components}
use Rattle.lus_meaning.specs.Contract.{scene}
use Rattle.lus_meaning.specs.Frame.{Frame, call_frame, calls_in, entry, streams_of}
use Rattle.lus_meaning.specs.Program.{instance_of}
use Rattle.lus_meaning.specs.Refusals.{IsChecked}
use Rattle.lus_meaning.specs.Replay.{frame_on}
use Rattle.lus_meaning.specs.Run.{IsRun, active}
use Rattle.lus_meaning.specs.Scene.{Instance, Scene, call_instance, component_of, variables}
use Rattle.lus_meaning.specs.Value.{Instants, Value, absent}
use Rattle.lus_meaning.specs.Verdict.{throughout}
use Rattle.lus_meaning.proofs.Lists.{all_from_both}
use Rattle.sys_meaning.specs.Slot.{named, own}
use Rattle.sys_meaning.specs.Defaults.{site_of}
use Rattle.sys_meaning.specs.WellTyped.{IsKnown, StreamFits, TreeFits}
use Rattle.sys_meaning.proofs.Forward.{calls_fit, calls_of_run, own_fits}
use Rattle.sys_meaning.proofs.Owned.{keeps_text, run_called}
use Rattle.sys_meaning.proofs.Whole.{fits_called}
use Rattle.path_laws.proofs.Main.{each_is_well_typed}
use Rattle.lus_evaluation.specs.Evaluation.{instance_on}
use Rattle.lus_evaluation.specs.Past.{scene_on}
use Rattle.slot_values.specs.Evaluated.{SlotValues}
use Rattle.evaluation_laws.specs.Rows.{AreCalls, RowShows, numbers_there, row_at, scene_there}
use Rattle.evaluation_laws.proofs.RowFrames.{rows_show}
use Rattle.order_laws.proofs.Frames.{same_place}
use Rattle.rest_laws.specs.Rests.{NamesIn}
use Rattle.replay_laws.specs.Replayed.{HaveNames}

-- ---- behind the end of a run

past_all : (xs : List (Name × List Value)) (n : ℕ) → AllByRecursion (λ x. length x.1 ≡ n) xs → (x : Name) (t : ℕ) → n ≤ t
    → slice_index_or (unwrap_or (lookup (bytes_eq x) xs) []) t absent ≡ absent
past_all [] n h x t l = refl
past_all (r ∷ xs) n h x t l = go (bytes_eq x r.0) (past_all xs n h.1 x t l)
  where
    go : (b : Bool) → slice_index_or (unwrap_or (lookup (bytes_eq x) xs) []) t absent ≡ absent
        → slice_index_or (unwrap_or (cond b (Some r.1) (lookup (bytes_eq x) xs)) []) t absent ≡ absent
    go true k = let e = h.0 in get_or-eq_default r.1 absent (omega (arith, l, e))
    go false k = k

-- ---- at the end of a way of calls

frame_there : (w : List ℕ) (i : Instance) (b : Instants) (f : Frame) → AreCalls i w → (scene_on w i b f).frame ≡ frame_on f w
frame_there [] i b f a = refl
frame_there (zero ∷ w) i b f a = let h : 0 < 0 = a.0 in absurd (omega (arith, h))
frame_there (suc k ∷ w) i b f a =
    frame_there w (call_instance i (suc k)) (active (scene i b f) (site_of i (suc k))) (call_frame f (suc k)) a.2

fits_there : (w : List ℕ) (i : Instance) (b : Instants) (f : Frame) → AreCalls i w → TreeFits IsKnown i → TreeFits IsKnown (scene_on w i b f).place
fits_there [] i b f a h = h
fits_there (k ∷ w) i b f a h = fits_there w (call_instance i k) (active (scene i b f) (site_of i k)) (call_frame f k) a.2
    (fits_called IsKnown i k a.0 a.1 (calls_fit IsKnown i h))

lengths_there : (w : List ℕ) (i : Instance) (n : ℕ) (b : Instants) (f : Frame) → AreCalls i w → IsRun i n b f
    → AllByRecursion (λ x. length x.1 ≡ n) (streams_of (scene_on w i b f).frame)
lengths_there [] i n b f a r = (keeps_text i n b f r).lengths
lengths_there (k ∷ w) i n b f a r = lengths_there w (call_instance i k) n (active (scene i b f) (site_of i k)) (call_frame f k) a.2
    (run_called i n (scene i b f) (calls_in f) k a.0 a.1 (calls_of_run i n b f r))

-- ---- of a run

module _ (p : Program) (c : IsChecked p) (d : Component) (j : Contains (components p) d) (n : ℕ) (f : Frame)
    (run : IsRun (instance_of p d) n throughout f) where
  abbrev i : Instance
  i = instance_of p d

  module _ (w : List ℕ) (a : AreCalls i w) where
    abbrev s : Scene
    s = scene_there i f w

    fits : TreeFits IsKnown s.place
    fits = fits_there w i throughout f a (each_is_well_typed p c d j).0.tree

    late : (x : Name) (t : ℕ) → n ≤ t → entry s.frame x t ≡ absent
    late x t l = past_all (streams_of s.frame) n (lengths_there w i n throughout f a run) x t l

    shown : (t : ℕ) → t < n → RowShows i f t w
    shown t l = rows_show p c d j n f run t l w a

    -- rows with the values of a set of slots, and none behind the end, have the names whose slots are in the set
    pub have_names : (in_set : ℕ → Bool) (values : ℕ → SlotValues) → ((t : ℕ) → t < n → (k : ℕ) → in_set k ≡ true → values t k ≡ row_at i f t k)
        → ((t : ℕ) → n ≤ t → (k : ℕ) → values t k ≡ absent) → NamesIn i in_set w → HaveNames i f values w
    have_names in_set values agree behind names =
        all_from_both (StreamFits s.place (IsKnown s.place)) (λ v. in_set (numbers_there i w (own (named v.name.text))) ≡ true)
        (λ v. (t : ℕ) → values t (numbers_there i w (own (named v.name.text))) ≡ entry (frame_on f w) v.name.text t)
        one (variables (component_of (instance_on i w))) streams names
      where
        streams : AllByRecursion (StreamFits s.place (IsKnown s.place)) (variables (component_of (instance_on i w)))
        streams = subst (λ z. AllByRecursion (StreamFits s.place (IsKnown s.place)) (variables (component_of z))) (same_place w i throughout f)
            (own_fits IsKnown s.place fits).streams

        one : (v : Variable) → StreamFits s.place (IsKnown s.place) v → in_set (numbers_there i w (own (named v.name.text))) ≡ true → (t : ℕ)
            → values t (numbers_there i w (own (named v.name.text))) ≡ entry (frame_on f w) v.name.text t
        one v h m t = go (cases_lt t n) ∙ ap (λ g. entry g v.name.text t) (frame_there w i throughout f a)
          where
            go : (t < n) ⊎ (n ≤ t) → values t (numbers_there i w (own (named v.name.text))) ≡ entry s.frame v.name.text t
            go (inl l) = agree t l (numbers_there i w (own (named v.name.text))) m ∙ (shown t l).names v.name.text h.name.stream h.name.declared
            go (inr l) = behind t l (numbers_there i w (own (named v.name.text))) ∙ sym (late v.name.text t l)
