-- The trace of a frame has the frame.
use Rattle.std.proofs.Common.{◌≡◌, ℕ, zero, suc, ◌<◌, ◌+◌, Bool, true, false, cond, ◌&&◌, ◌||◌, List, [], ◌∷◌, ◌++◌, flat_map, refl, ap, ◌∙◌, sym, arith, Some, option_map, unwrap_or, slice_index_or}
use Rattle.std.specs.List.{AllByRecursion, find, list_any}
use Rattle.std.proofs.lemmas.Bool.{false≢true}
use Rattle.lus_tree.specs.declared.place.Sort.{Sort}
use Rattle.lus_tree.specs.Tree.{Variable, Component}
use Rattle.lus_meaning.specs.Value.{Value, absent, has_sort, Instants}
use Rattle.lus_meaning.specs.Frame.{Frame, Frames, no_frames, with_frame, calls_in, firsts_of, frame_at, entry, first_value}
use Rattle.lus_meaning.specs.Scene.{Manner, plain, while_true, as_import, Scene, Instance, Instances, instance, no_instances, with_instance, component_of, clock_from, contract_statements, ghosts, variables, is_on}
use Rattle.lus_meaning.specs.Contract.{scene}
use Rattle.lus_meaning.specs.Run.{IsRun, CallsRun, active, first_sorts, have_sorts, is_typed}
use Rattle.lus_meaning.specs.Recompute.{sample}
use Rattle.lus_meaning.specs.Replay.{frame_on}
use Rattle.lus_meaning.specs.Trace.{Subject, of_name, of_first, BareLine, same_subject, same_numbers, listed_at, or_default, is_defined, free_names, free_in, TakesNames, TakesFirsts, TakesFrom, TakesBelow, IsFrameOf}
use Rattle.lus_meaning.specs.Verdict.{throughout}
use Rattle.lus_meaning.proofs.Lists.{all_from, both_parts, or_true, or_left}
use Rattle.lus_meaning.proofs.Now.{left_part, right_part}
use Rattle.lus_meaning.proofs.Unique.{same_bytes}
use Rattle.lus_meaning.proofs.Exists.{self_bytes}
use Rattle.lus_meaning.proofs.Stable.{sample_at}
use Rattle.lus_meaning.proofs.Typed.{on_has}
use Rattle.sys_meaning.specs.Items.{Key}
use Rattle.sys_meaning.specs.Path.{name_lines, first_lines, lines_from, lines_below, trace_lines}
use Rattle.sys_meaning.specs.WellTyped.{TreeFits, CallsFit}
use Rattle.sys_meaning.proofs.Rows.{as_it_is}
use Rattle.sys_meaning.proofs.Shows.{numbers_same, same_both, same_ways}
use Rattle.sys_meaning.proofs.Found.{self_number}

-- ---- subjects

pub same_subjects : (x y : Subject) → same_subject x y ≡ true → x ≡ y
same_subjects (of_name x) (of_name y) e = ap of_name (same_bytes x y e)
same_subjects (of_first k) (of_first j) e = ap of_first (numbers_same k j e)
same_subjects (of_name x) (of_first j) e = absurd (false≢true e)
same_subjects (of_first k) (of_name y) e = absurd (false≢true e)

pub self_subject : (x : Subject) → same_subject x x ≡ true
self_subject (of_name x) = self_bytes x
self_subject (of_first k) = self_number k

pub self_way : (ks : List ℕ) → same_numbers ks ks ≡ true
self_way [] = refl
self_way (k ∷ ks) = rw (self_number k) (self_way ks)

-- ---- lists

pub any_left : {A : Type 0} (g : A → Bool) (xs ys : List A) → list_any g xs ≡ true → list_any g (xs ++ ys) ≡ true
any_left g [] ys e = absurd (false≢true e)
any_left g (x ∷ xs) ys e = go (g x) e (any_left g xs ys)
  where
    go : (b : Bool) → (b || list_any g xs) ≡ true → (list_any g xs ≡ true → list_any g (xs ++ ys) ≡ true) →
        (b || list_any g (xs ++ ys)) ≡ true
    go true e r = refl
    go false e r = r e

pub any_right : {A : Type 0} (g : A → Bool) (xs ys : List A) → list_any g ys ≡ true → list_any g (xs ++ ys) ≡ true
any_right g [] ys e = e
any_right g (x ∷ xs) ys e = or_true (g x) (list_any g (xs ++ ys)) (any_right g xs ys e)

-- ---- what the lines list

abbrev pub finds : List ℕ → Subject → BareLine → Bool
finds path x l = same_numbers path l.path && same_subject x l.subject

abbrev pub has : List BareLine → List ℕ → Subject → Bool
has ls path x = list_any (finds path x) ls

abbrev pub values_at : ℕ → Frame → Subject → List Value
values_at n g (of_name x) = sample n (entry g x)
values_at n g (of_first k) = first_value g k ∷ []

abbrev pub listed : List BareLine → List ℕ → Subject → List Value
listed ls path x =
    unwrap_or (option_map (λ l. l.values) (find (λ l. same_numbers path l.path && same_subject x l.subject) ls)) []

pub self_found : (path : List ℕ) (x : Subject) → (same_numbers path path && same_subject x x) ≡ true
self_found path x = rw (self_way path, self_subject x) refl

pub has_names : (path : List ℕ) (n : ℕ) (f : Frame) (vs : List Variable) →
    AllByRecursion (λ v. has (name_lines path n f vs) path (of_name v.name.text) ≡ true) vs
has_names path n f [] = tt
has_names path n f (v ∷ vs) = (
  or_left (finds path (of_name v.name.text) (line v)) (has (name_lines path n f vs) path (of_name v.name.text))
      (self_found path (of_name v.name.text)),
  later vs (has_names path n f vs),
)
  where
    line : Variable → BareLine
    line v = record { path = path; subject = of_name v.name.text; values = sample n (entry f v.name.text) }

    later : (ws : List Variable) →
        AllByRecursion (λ w. has (name_lines path n f vs) path (of_name w.name.text) ≡ true) ws →
        AllByRecursion (λ w. has (name_lines path n f (v ∷ vs)) path (of_name w.name.text) ≡ true) ws
    later [] a = tt
    later (w ∷ ws) a = (or_true _ _ a.0, later ws a.1)

-- the frame of a call on the way
pub frame_on_call : (f : Frame) (path : List ℕ) (p : ℕ) →
    frame_on f (path ++ suc p ∷ []) ≡ frame_at (calls_in (frame_on f path)) p
frame_on_call f [] p = refl
frame_on_call f (zero ∷ ks) p = refl
frame_on_call f (suc k ∷ ks) p = frame_on_call (frame_at (calls_in f) k) ks p

module _ (n : ℕ) (top : Frame) where
  -- a line lists what the frame has there
  abbrev pub Says : BareLine → Type 0
  Says l = l.values ≡ values_at n (frame_on top l.path) l.subject

  pub says_listed : (ls : List BareLine) → AllByRecursion Says ls → (path : List ℕ) (x : Subject) →
      has ls path x ≡ true → listed ls path x ≡ values_at n (frame_on top path) x
  says_listed [] a path x e = absurd (false≢true e)
  says_listed (l ∷ ls) a path x e = go (finds path x l) refl e (says_listed ls a.1 path x)
    where
      go : (b : Bool) → finds path x l ≡ b → (b || has ls path x) ≡ true →
          (has ls path x ≡ true → listed ls path x ≡ values_at n (frame_on top path) x) →
          unwrap_or (option_map (λ l. l.values) (cond b (Some l) (find
          (λ l. same_numbers path l.path && same_subject x l.subject) ls))) []
          ≡ values_at n (frame_on top path) x
      go true q e r =
          let s = same_both (same_numbers path l.path) (same_subject x l.subject) q in
          rw (same_ways path l.path s.0, same_subjects x l.subject s.1) a.0
      go false q e r = r e

  -- ---- all lines of the frame's trace are such

  says_names : (path : List ℕ) (f : Frame) → frame_on top path ≡ f → (vs : List Variable) →
      AllByRecursion Says (name_lines path n f vs)
  says_names path f e [] = tt
  says_names path f e (v ∷ vs) = (ap (λ g. sample n (entry g v.name.text)) (sym e), says_names path f e vs)

  says_firsts : (path : List ℕ) (f : Frame) → frame_on top path ≡ f → (m : ℕ) (vs : List Value) →
      ((j : ℕ) → slice_index_or (firsts_of f) (m + j) absent ≡ slice_index_or vs j absent) →
      AllByRecursion Says (first_lines path (suc m) vs)
  says_firsts path f e m [] h = tt
  says_firsts path f e m (v ∷ vs) h = (
    ap (λ x. x ∷ []) (sym (ap (λ g. first_value g (suc m)) e ∙ here ∙ h 0)),
    says_firsts path f e (suc m) vs (λ j. let there : suc m + j ≡ m + suc j = omega arith in
        ap (λ k. slice_index_or (firsts_of f) k absent) there ∙ h (suc j)),
  )
    where
      here : slice_index_or (firsts_of f) m absent ≡ slice_index_or (firsts_of f) (m + 0) absent
      here = let k : m ≡ m + 0 = omega arith in ap (λ k. slice_index_or (firsts_of f) k absent) k

  module _ (Modes : Instance → Key → Type 0) where
    mutual
      pub says_from : (i : Instance) (path : List ℕ) (free : List Variable) (f : Frame) → frame_on top path ≡ f →
          TreeFits Modes i → AllByRecursion Says (lines_from path n free i f)
      says_from (instance d cs is) path free f e w =
          both_parts Says (name_lines path n f free ++ first_lines path 1 (firsts_of f)) (lines_below path n is
          (calls_in f))
          (both_parts Says (name_lines path n f free) (first_lines path 1 (firsts_of f)) (says_names path f e free)
          (says_firsts path f e 0 (firsts_of f) (λ j. let k : 0 + j ≡ j = omega arith in
          ap (λ k. slice_index_or (firsts_of f) k absent) k)))
          (says_below is (instance d cs is) path (calls_in f) 0 (λ j. let k : 0 + j ≡ j = omega arith in
          rw k (frame_on_call top path j ∙ ap (λ g. frame_at (calls_in g) j) e)) w.1)

      says_below : (is : Instances) (i : Instance) (path : List ℕ) (fs : Frames) (p : ℕ) →
          ((j : ℕ) → frame_on top (path ++ suc (p + j) ∷ []) ≡ frame_at fs j) → CallsFit Modes i is p →
          AllByRecursion Says (lines_below path n is fs)
      says_below no_instances i path fs p h w = tt
      says_below (with_instance c k is) i path no_frames p h w = tt
      says_below (with_instance c k is) i path (with_frame f fs) p h w =
          both_parts Says (lines_from (path ++ c.number ∷ []) n (free_in c.manner (component_of k)) k f)
          (lines_below path n is fs)
          (says_from k (path ++ c.number ∷ []) (free_in c.manner (component_of k)) f
          (ap (λ m. frame_on top (path ++ m ∷ [])) (w.0.number ∙ (let k : suc p ≡ suc (p + 0) = omega arith in k))
          ∙ h 0) w.1)
          (says_below is i path fs (suc p) (λ j. let k : suc p + j ≡ p + suc j = omega arith in
          ap (λ m. frame_on top (path ++ suc m ∷ [])) k ∙ h (suc j)) w.2)

  -- ---- and the frame takes what they list

  module _ (ls : List BareLine) (says : AllByRecursion Says ls) where
    -- these lines are among them
    abbrev pub Among : List BareLine → Type 0
    Among ks = (path : List ℕ) (x : Subject) → has ks path x ≡ true → has ls path x ≡ true

    among_left : (ks js : List BareLine) → Among (ks ++ js) → Among ks
    among_left ks js h path x e = h path x (any_left (finds path x) ks js e)

    among_right : (ks js : List BareLine) → Among (ks ++ js) → Among js
    among_right ks js h path x e = h path x (any_right (finds path x) ks js e)

    -- the names have values of their types where they are on
    abbrev pub Typed : Scene → Variable → Type 0
    Typed s v =
        (t : ℕ) → t < n → is_typed v.sort (is_on s (clock_from v.clock) t) (entry s.frame v.name.text t) ≡ true

    pub takes_names : (path : List ℕ) (s : Scene) → frame_on top path ≡ s.frame → (vs : List Variable) →
        AllByRecursion (λ v. has ls path (of_name v.name.text) ≡ true) vs → AllByRecursion (Typed s) vs →
        TakesNames ls path s n vs
    takes_names path s e [] a b = tt
    takes_names path s e (v ∷ vs) a b = (
      λ t h on.
          let there : listed_at ls path (of_name v.name.text) t ≡ entry s.frame v.name.text t =
          ap (λ l. slice_index_or l t absent) (says_listed ls says path (of_name v.name.text) a.0)
          ∙ sample_at n t (entry (frame_on top path) v.name.text) h ∙ ap (λ g. entry g v.name.text t) e in
          sym (ap (or_default v.sort) there
          ∙ as_it_is v.sort (entry s.frame v.name.text t) (on_has v.sort (is_on s (clock_from v.clock) t)
          (entry s.frame v.name.text t) (b.0 t h) on)),
      takes_names path s e vs a.1 b.1,
    )

    takes_firsts : (path : List ℕ) (f : Frame) → frame_on top path ≡ f → (m : ℕ) (ss : List Sort) (vs : List Value) →
        have_sorts ss vs ≡ true →
        ((j : ℕ) → slice_index_or (firsts_of f) (m + j) absent ≡ slice_index_or vs j absent) →
        Among (first_lines path (suc m) vs) → TakesFirsts ls path f (suc m) ss
    takes_firsts path f e m [] vs k h a = tt
    takes_firsts path f e m (s ∷ ss) [] k h a = absurd (false≢true k)
    takes_firsts path f e m (s ∷ ss) (v ∷ vs) k h a =
        let l : BareLine = record { path = path; subject = of_first (suc m); values = v ∷ [] } in
        let both = same_both (has_sort s v) (have_sorts ss vs) k in
        let here : m ≡ m + 0 = omega arith in
        let is : first_value f (suc m) ≡ v = ap (λ k. slice_index_or (firsts_of f) k absent) here ∙ h 0 in
        let found : has ls path (of_first (suc m)) ≡ true =
        a path (of_first (suc m)) (or_left (finds path (of_first (suc m)) l) (has (first_lines path (suc (suc m)) vs)
        path (of_first (suc m))) (self_found path (of_first (suc m)))) in
        let there : listed_at ls path (of_first (suc m)) 0 ≡ first_value f (suc m) =
        ap (λ l. slice_index_or l 0 absent) (says_listed ls says path (of_first (suc m)) found)
        ∙ ap (λ g. first_value g (suc m)) e in (
          sym (ap (or_default s) (there ∙ is) ∙ as_it_is s v both.0 ∙ sym is),
          takes_firsts path f e (suc m) ss vs both.1
              (λ j. let k : suc m + j ≡ m + suc j = omega arith in
              ap (λ k. slice_index_or (firsts_of f) k absent) k ∙ h (suc j))
              (among_right (l ∷ []) (first_lines path (suc (suc m)) vs) a),
        )

    free_part : (P : Variable → Type 0) (d : Component) (vs : List Variable) → AllByRecursion P vs →
        AllByRecursion P (flat_map (λ v. cond (is_defined d v.name.text) [] (v ∷ [])) vs)
    free_part P d [] a = tt
    free_part P d (v ∷ vs) a = go (is_defined d v.name.text) (free_part P d vs a.1)
      where
        go : (b : Bool) → AllByRecursion P (flat_map (λ v. cond (is_defined d v.name.text) [] (v ∷ [])) vs) →
            AllByRecursion P (cond b [] (v ∷ [])
            ++ flat_map (λ v. cond (is_defined d v.name.text) [] (v ∷ [])) vs)
        go true r = r
        go false r = (a.0, r)

    free_all : (P : Variable → Type 0) (d : Component) → AllByRecursion P (variables d) →
        AllByRecursion P (free_names d)
    free_all P d a =
        let b = left_part P (d.inputs ++ d.outputs ++ d.locals) (ghosts (contract_statements d)) a in
        free_part P d (d.outputs ++ d.locals) (both_parts P d.outputs d.locals
        (right_part P d.inputs d.outputs (left_part P (d.inputs ++ d.outputs) d.locals b))
        (right_part P (d.inputs ++ d.outputs) d.locals b))

    free_among : (P : Variable → Type 0) (m : Manner) (d : Component) → AllByRecursion P (variables d) →
        AllByRecursion P (free_in m d)
    free_among P plain d a = free_all P d a
    free_among P (while_true e) d a = free_all P d a
    free_among P (as_import xs) d a = tt

    types_of : (i : Instance) (b : Instants) (f : Frame) → IsRun i n b f →
        AllByRecursion (Typed (scene i b f)) (variables (component_of i))
    types_of (instance d cs is) b f run = run.0.types

    names_listed : (path : List ℕ) (f : Frame) (vs : List Variable) → Among (name_lines path n f vs) →
        AllByRecursion (λ v. has ls path (of_name v.name.text) ≡ true) vs
    names_listed path f vs a = all_from (λ v. has (name_lines path n f vs) path (of_name v.name.text) ≡ true)
        (λ v. has ls path (of_name v.name.text) ≡ true) (λ v e. a path (of_name v.name.text) e) vs
        (has_names path n f vs)

    free_listed : (i : Instance) (path : List ℕ) (free : List Variable) (f : Frame) →
        Among (lines_from path n free i f) → AllByRecursion (λ v. has ls path (of_name v.name.text) ≡ true) free
    free_listed (instance d cs is) path free f a =
        let names = name_lines path n f free in
        let firsts = first_lines path 1 (firsts_of f) in
        names_listed path f free
        (among_left names firsts (among_left (names ++ firsts) (lines_below path n is (calls_in f)) a))

    module _ (Modes : Instance → Key → Type 0) where
      mutual
        pub takes_from : (i : Instance) (path : List ℕ) (free listed_free : List Variable) (b : Instants)
            (f : Frame) → frame_on top path ≡ f → TreeFits Modes i → IsRun i n b f →
            Among (lines_from path n listed_free i f) →
            AllByRecursion (λ v. has ls path (of_name v.name.text) ≡ true) free →
            AllByRecursion (Typed (scene i b f)) free → TakesFrom ls path free i n b f
        takes_from (instance d cs is) path free listed_free b f e w run a there typed =
            let names = name_lines path n f listed_free in
            let firsts = first_lines path 1 (firsts_of f) in
            let own = among_left (names ++ firsts) (lines_below path n is (calls_in f)) a in (
              takes_names path (scene (instance d cs is) b f) e free there typed,
              takes_firsts path f e 0 (first_sorts (instance d cs is)) (firsts_of f) run.0.firsts
                  (λ j. let k : 0 + j ≡ j = omega arith in ap (λ k. slice_index_or (firsts_of f) k absent) k)
                  (among_right names firsts own),
              takes_below is (instance d cs is) path (scene (instance d cs is) b f) (calls_in f) 0
                  (λ j. let k : 0 + j ≡ j = omega arith in
                  rw k (frame_on_call top path j ∙ ap (λ g. frame_at (calls_in g) j) e))
                  w.1 run.1 (among_right (names ++ firsts) (lines_below path n is (calls_in f)) a),
            )

        takes_below : (is : Instances) (i : Instance) (path : List ℕ) (s : Scene) (fs : Frames) (p : ℕ) →
            ((j : ℕ) → frame_on top (path ++ suc (p + j) ∷ []) ≡ frame_at fs j) → CallsFit Modes i is p →
            CallsRun n s is fs → Among (lines_below path n is fs) → TakesBelow ls path s is n fs
        takes_below no_instances i path s fs p h w run a = tt
        takes_below (with_instance c k is) i path s no_frames p h w run a = absurd run
        takes_below (with_instance c k is) i path s (with_frame f fs) p h w run a =
            let way = path ++ c.number ∷ [] in
            let free = free_in c.manner (component_of k) in
            let first = lines_from way n free k f in
            let own = among_left first (lines_below path n is fs) a in
            let here : frame_on top way ≡ f =
            ap (λ m. frame_on top (path ++ m ∷ [])) (w.0.number ∙ (let k : suc p ≡ suc (p + 0) = omega arith in k))
            ∙ h 0 in (
              takes_from k way free free (active s c) f here w.1 run.1 own (free_listed k way free f own)
                  (free_among (Typed (scene k (active s c) f)) c.manner (component_of k)
                  (types_of k (active s c) f run.1)),
              takes_below is i path s fs (suc p) (λ j. let k : suc p + j ≡ p + suc j = omega arith in
                  ap (λ m. frame_on top (path ++ suc m ∷ [])) k ∙ h (suc j)) w.2 run.2
                  (among_right first (lines_below path n is fs) a),
            )

-- ---- the trace

module _ (Modes : Instance → Key → Type 0) where
  -- the frame of a run is that of its trace
  pub trace_has_frame : (i : Instance) (n : ℕ) (f : Frame) → TreeFits Modes i → IsRun i n throughout f →
      IsFrameOf (trace_lines i n f) i n f
  trace_has_frame i n f w run = record {
    run = run;
    taken = takes_from n f ls says Modes i [] (inputs ++ free) free throughout f refl w run
        (among_right n f ls says inputs_lines others (λ path x e. e))
        (both_parts (λ v. has ls [] (of_name v.name.text) ≡ true) inputs free
        (names_listed n f ls says [] f inputs (among_left n f ls says inputs_lines others (λ path x e. e)))
        (free_listed n f ls says i [] free f (among_right n f ls says inputs_lines others (λ path x e. e))))
        (both_parts (Typed n f ls says (scene i throughout f)) inputs free
        (left_part (Typed n f ls says (scene i throughout f)) inputs d.outputs
        (left_part (Typed n f ls says (scene i throughout f)) (inputs ++ d.outputs) d.locals
        (left_part (Typed n f ls says (scene i throughout f)) (inputs ++ d.outputs ++ d.locals) (ghosts (contract_statements d))
        (types_of n f ls says i throughout f run))))
        (free_all n f ls says (Typed n f ls says (scene i throughout f)) d
        (types_of n f ls says i throughout f run)));
  }
    where
      d : Component
      d = component_of i

      inputs : List Variable
      inputs = (component_of i).inputs

      free : List Variable
      free = free_names (component_of i)

      inputs_lines : List BareLine
      inputs_lines = name_lines [] n f inputs

      others : List BareLine
      others = lines_from [] n free i f

      ls : List BareLine
      ls = inputs_lines ++ others

      says : AllByRecursion (Says n f) ls
      says = both_parts (Says n f) inputs_lines others (says_names n f [] f refl inputs)
          (says_from n f Modes i [] free f refl w)
