-- In a frame whose names and first values have their types, names and calls have what the values of expressions ask of them.
use Rattle.std.proofs.Common.{◌≡◌, ℕ, zero, suc, pred, ◌<◌, ◌≤◌, Bool, true, false, cond, List, [], ◌∷◌, ◌++◌, map, Option, Some, unwrap_or, option_map, refl, sym, subst}
use Rattle.std.specs.Prelude.{find}
use Rattle.std.specs.List.{AllByRecursion}
use Rattle.std.specs.Str.{bytes_eq}
use Rattle.std.proofs.lemmas.Option.{none-some}
use Rattle.lus_tree.specs.declared.place.Sort.{Sort}
use Rattle.lus_tree.specs.Tree.{Name, Spelled, Variable, Component}
use Rattle.lus_meaning.specs.Value.{Instants}
use Rattle.lus_meaning.specs.Frame.{Frame, Frames, no_frames, with_frame, frame_at, calls_in, firsts_of, call_frame, entry}
use Rattle.lus_meaning.specs.Scene.{Clock, Scene, Site, Instance, Instances, instance, no_instances, with_instance, component_of, calls_of, instance_at, call_instance, outputs_of, clock_from, contract_statements, ghosts, variables, is_on}
use Rattle.lus_meaning.specs.Meaning.{head_stream}
use Rattle.lus_meaning.specs.Contract.{scene}
use Rattle.lus_meaning.specs.Run.{IsRun, CallsRun, is_typed, first_sort, output_sort, first_sorts, have_sorts, active}
use Rattle.lus_meaning.specs.WellMade.{HasTypes, CallsHaveTypes}
use Rattle.lus_meaning.proofs.Now.{left_part, right_part}
use Rattle.lus_meaning.proofs.Unique.{same_bytes}
use Rattle.rule_laws.specs.Laws.{site_at}
use Rattle.rule_laws.specs.Fitting.{NotEmpty, OnBase}
use Rattle.rule_laws.specs.Types.{HasTypedFirsts, CallsHaveTypedFirsts, IsTypedFrame}
use Rattle.rule_laws.proofs.Truths.{same_some}
use Rattle.rule_laws.proofs.Places.{by_number}
use Rattle.rule_laws.proofs.ValuesTyped.{NamesReady}

-- ---- names

abbrev NameTyped : Scene → ℕ → Variable → Type 0
NameTyped s n v = (t : ℕ) → t < n → is_typed v.sort (is_on s (clock_from v.clock) t) (entry s.frame v.name.text t) ≡ true

own_names : (i : Instance) (n : ℕ) (b : Instants) (f : Frame) → HasTypes i n b f → AllByRecursion (NameTyped (scene i b f) n) (variables (component_of i))
own_names (instance d cs is) n b f h = h.0

call_names : (i : Instance) (n : ℕ) (b : Instants) (f : Frame) → HasTypes i n b f → CallsHaveTypes (calls_of i) n (scene i b f) (frame_at (calls_in f))
call_names (instance d cs is) n b f h = h.1

pub own_firsts : (i : Instance) (f : Frame) → HasTypedFirsts i f → have_sorts (first_sorts i) (firsts_of f) ≡ true
own_firsts (instance d cs is) f h = h.0

call_firsts : (i : Instance) (f : Frame) → HasTypedFirsts i f → CallsHaveTypedFirsts (calls_of i) (frame_at (calls_in f))
call_firsts (instance d cs is) f h = h.1

name_ready : (s : Scene) (n : ℕ) (vs : List Variable) → AllByRecursion (NameTyped s n) vs → (x : Name) (c : Clock) (q : Sort)
    → option_map (λ v. clock_from v.clock) (find (λ v. bytes_eq x v.name.text) vs) ≡ Some c → (t : ℕ) → t < n
    → is_typed (unwrap_or (option_map (λ v. v.sort) (find (λ v. bytes_eq x v.name.text) vs)) q) (is_on s c t) (entry s.frame x t) ≡ true
name_ready s n [] a x c q e t l = absurd (none-some c e)
name_ready s n (v ∷ vs) a x c q e t l = go (bytes_eq x v.name.text) refl e (name_ready s n vs a.1 x c q)
  where
    go : (k : Bool) → bytes_eq x v.name.text ≡ k
        → option_map (λ (v : Variable). clock_from v.clock) (cond k (Some v) (find (λ v. bytes_eq x v.name.text) vs)) ≡ Some c
        → (option_map (λ v. clock_from v.clock) (find (λ v. bytes_eq x v.name.text) vs) ≡ Some c → (t : ℕ) → t < n
        → is_typed (unwrap_or (option_map (λ v. v.sort) (find (λ v. bytes_eq x v.name.text) vs)) q) (is_on s c t) (entry s.frame x t) ≡ true)
        → is_typed (unwrap_or (option_map (λ (v : Variable). v.sort) (cond k (Some v) (find (λ v. bytes_eq x v.name.text) vs))) q)
        (is_on s c t) (entry s.frame x t) ≡ true
    go true m g r = subst (λ y. is_typed v.sort (is_on s c t) (entry s.frame y t) ≡ true) (sym (same_bytes x v.name.text m))
        (subst (λ d. is_typed v.sort (is_on s d t) (entry s.frame v.name.text t) ≡ true) (same_some g) (a.0 t l))
    go false m g r = r g t l

-- ---- frames of calls

types_at : (is : Instances) (n : ℕ) (s : Scene) (g : ℕ → Frame) → CallsHaveTypes is n s g → (j : ℕ) (c : Site) → site_at is j ≡ Some c
    → HasTypes (instance_at is j) n (active s c) (g j)
types_at no_instances n s g h j c e = absurd (none-some c e)
types_at (with_instance x i is) n s g h zero c e = subst (λ y. HasTypes i n (active s y) (g 0)) (same_some e) h.0
types_at (with_instance x i is) n s g h (suc j) c e = types_at is n s (λ k. g (suc k)) h.1 j c e

firsts_at : (is : Instances) (g : ℕ → Frame) → CallsHaveTypedFirsts is g → (j : ℕ) (c : Site) → site_at is j ≡ Some c → HasTypedFirsts (instance_at is j) (g j)
firsts_at no_instances g h j c e = absurd (none-some c e)
firsts_at (with_instance x i is) g h zero c e = h.0
firsts_at (with_instance x i is) g h (suc j) c e = firsts_at is (λ k. g (suc k)) h.1 j c e

-- a call's frame is typed where it is active
pub called_frame : (i : Instance) (n : ℕ) (b : Instants) (f : Frame) → IsTypedFrame i n b f → (c : Site) → 1 ≤ c.number
    → site_at (calls_of i) (pred c.number) ≡ Some c → IsTypedFrame (call_instance i c.number) n (active (scene i b f) c) (call_frame f c.number)
called_frame i n b f h c l e = record {
  names = subst (λ j. HasTypes j n (active (scene i b f) c) (call_frame f c.number)) (by_number i c.number l)
      (types_at (calls_of i) n (scene i b f) (frame_at (calls_in f)) (call_names i n b f h.names) (pred c.number) c e);
  firsts = subst (λ j. HasTypedFirsts j (call_frame f c.number)) (by_number i c.number l)
      (firsts_at (calls_of i) (frame_at (calls_in f)) (call_firsts i f h.firsts) (pred c.number) c e);
}

first_output : (s : Scene) (n : ℕ) (vs : List Variable) → NotEmpty vs → OnBase vs → AllByRecursion (NameTyped s n) vs → (t : ℕ) → t < n
    → is_typed (first_sort vs) (s.beat t) (head_stream (map (λ x. entry s.frame x) (map (λ v. v.name.text) vs)) t) ≡ true
first_output s n [] e o a t l = absurd e
first_output s n (v ∷ vs) e o a t l =
    subst (λ (c : Option (Bool × Spelled)). is_typed v.sort (is_on s (clock_from c) t) (entry s.frame v.name.text t) ≡ true) o.0 (a.0 t l)

outputs_typed : (s : Scene) (n : ℕ) (d : Component) → AllByRecursion (NameTyped s n) (variables d) → AllByRecursion (NameTyped s n) d.outputs
outputs_typed s n d a =
    right_part (NameTyped s n) d.inputs d.outputs (left_part (NameTyped s n) (d.inputs ++ d.outputs) d.locals
    (left_part (NameTyped s n) (d.inputs ++ d.outputs ++ d.locals) (ghosts (contract_statements d)) a))

head_ready : (j : Instance) (n : ℕ) (b : Instants) (f : Frame) → HasTypes j n b f → NotEmpty (component_of j).outputs
    → OnBase (component_of j).outputs → (t : ℕ) → t < n
    → is_typed (output_sort j) (b t) (head_stream (map (λ x. entry f x) (outputs_of j)) t) ≡ true
head_ready j n b f h e o t l =
    first_output (scene j b f) n (component_of j).outputs e o (outputs_typed (scene j b f) n (component_of j) (own_names j n b f h)) t l

-- names and calls of a typed frame
pub names_ready : (i : Instance) (n : ℕ) (b : Instants) (f : Frame) → IsTypedFrame i n b f → NamesReady (scene i b f) n
names_ready i n b f h = record {
  names = λ x e c k. name_ready (scene i b f) n (variables (component_of i)) (own_names i n b f h.names) x c _ k;
  calls = λ c k t l. head_ready (call_instance i c.number) n (active (scene i b f) c) (call_frame f c.number)
      (called_frame i n b f h c k.number k.site).names k.outputs k.on_base t l;
}

-- ---- runs

mutual
  run_types : (i : Instance) (n : ℕ) (b : Instants) (f : Frame) → IsRun i n b f → HasTypes i n b f
  run_types (instance d cs is) n b f r = (r.0.types, runs_types is n (scene (instance d cs is) b f) (calls_in f) r.1)

  runs_types : (is : Instances) (n : ℕ) (s : Scene) (fs : Frames) → CallsRun n s is fs → CallsHaveTypes is n s (frame_at fs)
  runs_types no_instances n s no_frames r = tt
  runs_types no_instances n s (with_frame f fs) r = absurd r
  runs_types (with_instance c i is) n s no_frames r = absurd r
  runs_types (with_instance c i is) n s (with_frame f fs) r = (run_types i n (active s c) f r.1, runs_types is n s fs r.2)

mutual
  run_firsts : (i : Instance) (n : ℕ) (b : Instants) (f : Frame) → IsRun i n b f → HasTypedFirsts i f
  run_firsts (instance d cs is) n b f r = (r.0.firsts, runs_firsts is n (scene (instance d cs is) b f) (calls_in f) r.1)

  runs_firsts : (is : Instances) (n : ℕ) (s : Scene) (fs : Frames) → CallsRun n s is fs → CallsHaveTypedFirsts is (frame_at fs)
  runs_firsts no_instances n s no_frames r = tt
  runs_firsts no_instances n s (with_frame f fs) r = absurd r
  runs_firsts (with_instance c i is) n s no_frames r = absurd r
  runs_firsts (with_instance c i is) n s (with_frame f fs) r = (run_firsts i n (active s c) f r.1, runs_firsts is n s fs r.2)

-- the frame of a run is typed
pub typed_run : (i : Instance) (n : ℕ) (b : Instants) (f : Frame) → IsRun i n b f → IsTypedFrame i n b f
typed_run i n b f r = record { names = run_types i n b f r; firsts = run_firsts i n b f r }
