-- The states of a run show each of its frames.
use Rattle.std.proofs.Common.{◌≡◌, ℕ, zero, suc, pred, ◌<◌, ◌≤◌, Bool, true, false, cond, not, ◌&&◌, ◌||◌, List, [], ◌∷◌, ◌++◌, map, refl, ap, ◌∙◌, sym, arith, Option, Some, None, slice_get, slice_index_or, find, subst, ◌⊎◌, inl, inr, ◌==◌}
use Rattle.std.proofs.Math.Nat.{eq-or-lt_of_le}
use Rattle.lus_meaning.proofs.Exists.{self_bytes}
use Rattle.std.specs.List.{AllByRecursion}
use Rattle.std.specs.Str.{bytes_eq}
use Rattle.std.proofs.lemmas.Bool.{false≢true}
use Rattle.lus_tree.specs.declared.place.Sort.{Sort}
use Rattle.lus_tree.specs.declared.place.Sort.TheVariants.{Bool as Flags, Int as Numbers}
use Rattle.lus_tree.specs.Tree.{Name, Variable, Component, Expression, Expressions, no_more, more}
use Rattle.lus_meaning.specs.Value.{Value, absent, flag, whole, Stream, Instants, has_sort, was_on, latest, is}
use Rattle.lus_meaning.specs.Frame.{Frame, Frames, no_frames, with_frame, frame_at, calls_in, entry, first_value, firsts_of, call_frame}
use Rattle.lus_meaning.specs.Scene.{Clock, Scene, Instance, Instances, instance, no_instances, with_instance, instance_at, component_of, calls_of, call_instance, outputs_of, clock_of, clock_from, variables, is_on, ghosts, contract_statements}
use Rattle.lus_meaning.specs.Meaning.{value}
use Rattle.lus_meaning.specs.Contract.{scene}
use Rattle.lus_meaning.specs.Occurrences.{memories}
use Rattle.lus_meaning.specs.Run.{KeepsText, IsRun, CallsRun, IsCalled, is_typed, sort_of, sort_of_name, first_sorts, have_sorts, active}
use Rattle.lus_meaning.specs.Depends.{named_in}
use Rattle.lus_meaning.specs.Trace.{or_default}
use Rattle.lus_meaning.proofs.Now.{left_part, right_part}
use Rattle.sys_terms.specs.View.{Formula}
use Rattle.sys_terms.specs.Meaning.{Values}
use Rattle.sys_meaning.specs.Slot.{Spot, Place, beat, named, memory, starting, own, in_call, memory_of}
use Rattle.sys_meaning.specs.Slot as slot
use Rattle.sys_meaning.specs.Items.{Key, Known}
use Rattle.sys_meaning.specs.Defaults.{site_at, site_of, default_of}
use Rattle.sys_meaning.specs.State.{held_before, remembered, still_starting}
use Rattle.sys_meaning.specs.Path.{Course}
use Rattle.sys_meaning.specs.Part.{value_in}
use Rattle.sys_meaning.specs.WellTyped.{no_constant, is_declared, clock_here, IsMemory, IsStart, OutputFits, IsCall, IsHeldCall, DefaultsFit, StreamFits, MemoryFits, OwnFits, count_of}
use Rattle.sys_meaning.proofs.Conditions.{flags_same}
use Rattle.sys_meaning.proofs.Present.{NameTyped}
use Rattle.sys_meaning.proofs.Rows.{CallShown, OwnShown, modes_agree, as_it_is, on_sort}
use Rattle.sys_meaning.proofs.Main.{value_typed}
use Rattle.sys_meaning.proofs.Balanced.{Picked, pick, join_all}
use Rattle.sys_meaning.proofs.Shows.{Reads}

-- ---- runs

pub keeps_text : (i : Instance) (n : ℕ) (b : Instants) (f : Frame) → IsRun i n b f → KeepsText n (scene i b f)
keeps_text (instance d cs is) n b f r = r.0

-- a call's run, by its place
pub run_at : (is : Instances) (n : ℕ) (s : Scene) (fs : Frames) (p : ℕ) → CallsRun n s is fs →
    p < count_of is → IsCalled n s (site_at is p) (instance_at is p) (frame_at fs p)
    × IsRun (instance_at is p) n (active s (site_at is p)) (frame_at fs p)
run_at no_instances n s fs p r h = absurd (omega arith)
run_at (with_instance c i is) n s no_frames p r h = absurd r
run_at (with_instance c i is) n s (with_frame f fs) zero r h = (r.0, r.1)
run_at (with_instance c i is) n s (with_frame f fs) (suc p) r h = run_at is n s fs p r.2 (omega arith)

-- and by its number
pub run_called : (i : Instance) (n : ℕ) (s : Scene) (fs : Frames) (k : ℕ) → 0 < k → pred k < count_of (calls_of i) →
    CallsRun n s (calls_of i) fs → IsRun (call_instance i k) n (active s (site_of i k)) (frame_at fs (pred k))
run_called i n s fs zero c h r = absurd (omega arith)
run_called i n s fs (suc p) c h r = (run_at (calls_of i) n s fs p r h).1

-- a found element has what all have
pub found_one : {A : Type 0} (P : A → Type 0) (f : A → Bool) (xs : List A) (x : A) → AllByRecursion P xs →
    find f xs ≡ Some x → P x
found_one {A} P f [] x a e = absurd (false≢true (ap there e))
  where
    there : Option A → Bool
    there None = false
    there (Some y) = true
found_one {A} P f (y ∷ ys) x a e = by (f y) refl e (found_one P f ys x a.1)
  where
    back : Option A → A
    back None = x
    back (Some z) = z

    by : (b : Bool) → f y ≡ b → cond b (Some y) (find f ys) ≡ Some x → (find f ys ≡ Some x → P x) → P x
    by true k d r = rw (sym (ap back d)) a.0
    by false k d r = r d

-- ---- types

pub latest_sorted : (z : Sort) (on : Instants) (xs : Stream) (v : Value) (t : ℕ) →
    ((u : ℕ) → u < t → on u ≡ true → has_sort z (xs u) ≡ true) → has_sort z v ≡ true →
    has_sort z (latest on xs v t) ≡ true
latest_sorted z on xs v zero h e = e
latest_sorted z on xs v (suc t) h e = by (on t) refl (latest_sorted z on xs v t (λ u l. h u (omega arith)) e)
  where
    by : (o : Bool) → on t ≡ o → has_sort z (latest on xs v t) ≡ true →
        has_sort z (cond o (xs t) (latest on xs v t)) ≡ true
    by true k r = h t (omega arith) k
    by false k r = r

pub sorted_at : (ss : List Sort) (vs : List Value) (j : ℕ) (z : Sort) → have_sorts ss vs ≡ true →
    slice_get ss j ≡ Some z → has_sort z (slice_index_or vs j absent) ≡ true
sorted_at [] vs j z h e = absurd (false≢true (ap there e))
  where
    there : Option Sort → Bool
    there None = false
    there (Some y) = true
sorted_at (s ∷ ss) [] j z h e = absurd (false≢true h)
sorted_at (s ∷ ss) (v ∷ vs) zero z h e = rw (sym (ap back e)) (left (has_sort s v) h)
  where
    back : Option Sort → Sort
    back None = s
    back (Some y) = y

    left : (a : Bool) → (a && have_sorts ss vs) ≡ true → a ≡ true
    left true k = refl
    left false k = absurd (false≢true k)
sorted_at (s ∷ ss) (v ∷ vs) (suc j) z h e = sorted_at ss vs j z (right (has_sort s v) h) e
  where
    right : (a : Bool) → (a && have_sorts ss vs) ≡ true → have_sorts ss vs ≡ true
    right true k = k
    right false k = absurd (false≢true k)

pub sorted_default : (z : Sort) (v : Value) → has_sort z v ≡ true → has_sort z (or_default z v) ≡ true
sorted_default z v h = rw (as_it_is z v h) h

pub typed_default : (z : Sort) (on : Bool) (v : Value) → is_typed z on v ≡ true → has_sort z (or_default z v) ≡ true
typed_default z true v h = sorted_default z v h
typed_default Flags false absent h = refl
typed_default Numbers false absent h = refl
typed_default z false (flag b) h = absurd (false≢true h)
typed_default z false (whole n) h = absurd (false≢true h)

-- the outputs of a callee are on its beat
outputs_typed : (k : Instance) (n : ℕ) (b : Instants) (f : Frame) → IsRun k n b f → (t : ℕ) → t < n →
    (vs : List Variable) → AllByRecursion (λ v. v.clock ≡ None) vs →
    AllByRecursion (λ v. (t : ℕ) → t < n → is_typed v.sort (is_on (scene k b f) (clock_from v.clock) t)
    (entry f v.name.text t) ≡ true) vs →
    AllByRecursion (λ v. is_typed v.sort (b t) (entry f v.name.text t) ≡ true) vs
outputs_typed k n b f r t h [] c a = tt
outputs_typed k n b f r t h (v ∷ vs) c a = (
  sym (ap (λ o. is_typed v.sort (is_on (scene k b f) (clock_from o) t)
      (entry f v.name.text t)) c.0) ∙ a.0 t h,
  outputs_typed k n b f r t h vs c.1 a.1,
)

outputs_of_all : (P : Variable → Type 0) (d : Component) → AllByRecursion P (variables d) → AllByRecursion P d.outputs
outputs_of_all P d a =
    right_part P d.inputs d.outputs (left_part P (d.inputs ++ d.outputs) d.locals (left_part P
    (d.inputs ++ d.outputs ++ d.locals) (ghosts (contract_statements d)) a))

-- ---- one frame of a run, whose states read it

module _ (Modes : Instance → Key → Type 0) (i : Instance) (at : Place → ℕ) (c : Course) (n : ℕ) (b : Instants)
    (f : Frame) (modes : Known Formula)
    (run : IsRun i n b f) (calls_run : CallsRun n (scene i b f) (calls_of i) (calls_in f)) (reads :
    (t : ℕ) → t < n → Reads Modes i at b f t (c t)) (fits : OwnFits i (Modes i)) where
  abbrev pub s : Scene
  s = scene i b f

  abbrev pub M : Key → Type 0
  M = Modes i

  text : KeepsText n s
  text = keeps_text i n b f run

  pub stream_typed : (t : ℕ) → t < n → (x : Name) → no_constant i M x → is_declared i M x → NameTyped s t x
  stream_typed t h x e d =
      by (pick x Good (variables (component_of i)) (join_all (StreamFits i M) (λ v.
      (t : ℕ) → t < n →
      is_typed v.sort (is_on s (clock_from v.clock) t) (entry f v.name.text t) ≡ true) (variables
      (component_of i)) fits.streams text.types) d)
    where
      Good : Variable → Type 0
      Good v = StreamFits i M v
          × ((t : ℕ) → t < n → is_typed v.sort (is_on s (clock_from v.clock) t) (entry f v.name.text t) ≡ true)

      by : Picked x Good → is_typed (sort_of_name i x) (is_on s (clock_of (component_of i) x) t) (entry f x t) ≡ true
      by r = subst (λ y. is_typed (sort_of_name i y) (is_on s (clock_of (component_of i) y) t)
          (entry f y t) ≡ true) r.same
          (rw (r.holds.0.sort, r.holds.0.name.clock) (r.holds.1 t h))

  -- what a call shows
  pub call_of : (t : ℕ) → t < n → (nx : Values) → (k : ℕ) → IsCall i M k → CallsRun n s (calls_of i) (calls_in f) →
      CallShown s M at (c t) nx t k
  call_of t h nx k e r =
      record {
        beats = flags_same ((c t).flag_at (at (in_call k (own beat)))) (active s (site_of i k) t) (reads t h
            (k ∷ []) beat Flags (e, refl) refl);
        outputs =
            each (component_of (call_instance i k)).outputs e.named typed;
        typed = typed;
      }
    where
      mine : IsRun (call_instance i k) n (active s (site_of i k)) (call_frame f k)
      mine = run_called i n s (calls_in f) k e.counted e.listed r

      bases : (vs : List Variable) → AllByRecursion (OutputFits i M k) vs → AllByRecursion (λ v. v.clock ≡ None) vs
      bases [] a = tt
      bases (v ∷ vs) a = (a.0.0, bases vs a.1)

      typed : AllByRecursion (λ v. is_typed v.sort (active s (site_of i k) t) (entry
          (call_frame f k) v.name.text t) ≡ true) (component_of (call_instance i k)).outputs
      typed = outputs_typed (call_instance i k) n (active s (site_of i k)) (call_frame f k) mine t h (component_of
          (call_instance i k)).outputs (bases (component_of (call_instance i k)).outputs e.named)
          (outputs_of_all (λ v. (t : ℕ) → t < n → is_typed v.sort (is_on (scene (call_instance i k) (active s
          (site_of i k)) (call_frame f k)) (clock_from v.clock) t) (entry
          (call_frame f k) v.name.text t) ≡ true) (component_of (call_instance i k)) (keeps_text
          (call_instance i k) n (active s (site_of i k)) (call_frame f k) mine).types)

      each : (vs : List Variable) → AllByRecursion (OutputFits i M k) vs →
          AllByRecursion (λ v. is_typed v.sort (active s (site_of i k) t) (entry
          (call_frame f k) v.name.text t) ≡ true) vs →
          AllByRecursion (λ v. value_in (c t) v.sort (at (in_call k (own (named v.name.text)))) ≡ or_default v.sort
          (entry (call_frame f k) v.name.text t)) vs
      each [] a q = tt
      each (v ∷ vs) a q = (
        reads t h (k ∷ []) (named v.name.text) v.sort (e, (a.0.2, a.0.3, a.0.1)) (typed_default v.sort (active s
            (site_of i k) t) (entry (call_frame f k) v.name.text t) q.0),
        each vs a.1 q.1,
      )

  -- what is held of it
  pub held_of : (t : ℕ) → t < n → (k : ℕ) (cl : Clock) (a : Expression) (ds : Expressions) →
      IsHeldCall i M k cl a ds →
      AllByRecursion (λ v. value_in (c t) v.sort (at (own
      (slot.held k v.name.text))) ≡ held_before s k v.name.text t) (component_of (call_instance i k)).outputs
  held_of t h k cl a ds e =
      each (component_of (call_instance i k)).outputs ds e.defaults e.call.named (λ u l. (call_of u l
      (c u) k e.call calls_run).typed) (all_in (component_of (call_instance i k)).outputs)
    where
      -- each output is one of the callee's
      all_in : (vs : List Variable) → AllByRecursion (λ v. named_in v.name.text (map (λ v. v.name.text) vs) ≡ true) vs
      all_in [] = tt
      all_in (v ∷ vs) = (rw (self_bytes v.name.text) refl, later vs vs (all_in vs))
        where
          any : (q e : Bool) → e ≡ true → (q || e) ≡ true
          any true e h = refl
          any false e h = h

          later : (us : List Variable) (ws : List Variable) →
              AllByRecursion (λ u. named_in u.name.text (map (λ v. v.name.text) ws) ≡ true) us →
              AllByRecursion (λ u. named_in u.name.text (v.name.text ∷ map (λ v. v.name.text) ws) ≡ true) us
          later [] ws q = tt
          later (u ∷ us) ws q = (
            any (bytes_eq u.name.text v.name.text) (named_in u.name.text (map
                (λ v. v.name.text) ws)) q.0,
            later us ws q.1,
          )

      each : (vs : List Variable) (es : Expressions) → DefaultsFit i M k vs es →
          AllByRecursion (OutputFits i M k) vs →
          ((u : ℕ) → u < n → AllByRecursion (λ v. is_typed v.sort (active s (site_of i k) u) (entry
          (call_frame f k) v.name.text u) ≡ true) vs) →
          AllByRecursion (λ v. named_in v.name.text (outputs_of (call_instance i k)) ≡ true) vs →
          AllByRecursion (λ v. value_in (c t) v.sort (at (own
          (slot.held k v.name.text))) ≡ held_before s k v.name.text t) vs
      each [] es d o q m = tt
      each (v ∷ vs) no_more d o q m = absurd d
      each (v ∷ vs) (more x es) d o q m =
          let old : has_sort v.sort (held_before s k v.name.text t) ≡ true =
          latest_sorted v.sort (active s (site_of i k)) (entry (call_frame f k) v.name.text)
          (default_of i k v.name.text) t
          (λ u l w. on_sort v.sort (active s (site_of i k) u) (entry (call_frame f k) v.name.text u) (q u
          (omega arith)).0 w) (rw d.0 d.2) in (
            reads t h [] (slot.held k v.name.text) v.sort (cl, a, ds, e, m.0, o.0.1) (sorted_default v.sort
                (held_before s k v.name.text t) old) ∙ as_it_is v.sort (held_before s k v.name.text t) old,
            each vs es d.3 o.1 (λ u l. (q u l).1) m.1,
          )

  module _ (agrees : (t : ℕ) → t < n → (nx : Values) → (sh : OwnShown s M at (c t) nx t modes) → modes_agree s M at
      (c t) nx t modes sh) where
    memory_of_now : (t : ℕ) → t < n → ((u : ℕ) → u < t → OwnShown s M at (c u) (c u) u modes) →
        (k : ℕ) (cl : Clock) (a : Expression) → IsMemory i M k cl a →
        value_in (c t) (sort_of i a) (at (own (memory k))) ≡ latest (is_on s cl) (value s cl a) (first_value f k) t
    memory_of_now t h past k cl a e =
        let fit : MemoryFits i M (record { number = k; clock = cl; operand = a }) =
        found_one (MemoryFits i M) (λ m. m.number == k) (memories (component_of i))
        (record { number = k; clock = cl; operand = a }) fits.memories e in
        let old : has_sort (sort_of i a) (latest (is_on s cl) (value s cl a) (first_value f k) t) ≡ true =
        latest_sorted (sort_of i a) (is_on s cl) (value s cl a) (first_value f k) t
        (λ u l w. value_typed s M at modes (c u) (c u) u (past u l) (agrees u (omega arith) (c u)
        (past u l)) a cl fit.operand w) (sorted_at (first_sorts i) (firsts_of f) (pred k)
        (sort_of i a) text.firsts fit.first) in
        reads t h [] (memory k) (sort_of i a) (cl, a, e, refl) (ap (λ o. has_sort (sort_of i a) (or_default
        (sort_of i a) (remembered s k o t))) e ∙ sorted_default (sort_of i a) (latest (is_on s cl)
        (value s cl a) (first_value f k) t) old)
        ∙ ap (λ o. or_default (sort_of i a) (remembered s k o t)) e ∙ as_it_is (sort_of i a) (latest (is_on s cl)
        (value s cl a) (first_value f k) t) old

    shown_after : (t : ℕ) → t < n → ((u : ℕ) → u < t → OwnShown s M at (c u) (c u) u modes) → (nx : Values) →
        OwnShown s M at (c t) nx t modes
    shown_after t h past nx = record {
      beats = flags_same ((c t).flag_at (at (own beat))) (b t) (reads t h [] beat Flags refl refl);
      names = λ x e d. reads t h [] (named x) (sort_of_name i x) (d, e, refl) (typed_default (sort_of_name i x)
          (is_on s (clock_here i M x) t) (entry f x t) (stream_typed t h x e d));
      typed = stream_typed t h;
      memories = memory_of_now t h past;
      starts = λ k cl e. flags_same ((c t).flag_at (at (own (starting k)))) (not (was_on (is_on s cl) t))
          (started k cl e);
      calls = λ k cl e. call_of t h nx k e.call calls_run;
      held_calls = λ k cl a ds e w. call_of t h nx k e.call calls_run;
      held = held_of t h;
    }
      where
        started : (k : ℕ) (cl : Clock) → IsStart i M k cl →
            flag ((c t).flag_at (at (own (starting k)))) ≡ flag (not (was_on (is_on s cl) t))
        started k cl e =
            reads t h [] (starting k) Flags (cl, e, refl) (ap (λ o. has_sort Flags (or_default Flags
            (still_starting s o t))) e) ∙ ap (λ o. or_default Flags (still_starting s o t)) e

    earlier : (t : ℕ) → t ≤ n → (u : ℕ) → u < t → OwnShown s M at (c u) (c u) u modes
    earlier zero h u l = absurd (omega arith)
    earlier (suc t) h u l = by (eq-or-lt_of_le u≤t) (earlier t (omega arith))
      where
        u≤t : u ≤ t
        u≤t = omega arith

        by : ((u ≡ t) ⊎ (u < t)) → ((v : ℕ) → v < t → OwnShown s M at (c v) (c v) v modes) →
            OwnShown s M at (c u) (c u) u modes
        by (inl e) past = shown_after u (omega arith) (λ v k. past v (omega (arith, e))) (c u)
        by (inr k) past = past u k

    -- the states of a run show the frame at each instant
    pub own_shown : (t : ℕ) → t < n → (nx : Values) → OwnShown s M at (c t) nx t modes
    own_shown t h nx = shown_after t h (earlier t (omega arith)) nx
