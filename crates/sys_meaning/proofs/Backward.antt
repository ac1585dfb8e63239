-- What a path gives of each frame of a tree.
use Rattle.std.proofs.Common.{◌≡◌, ℕ, zero, suc, pred, ◌<◌, ◌+◌, Bool, true, false, cond, ◌||◌, List, [], ◌∷◌, ◌++◌, map, flat_map, length, refl, ap, ◌∙◌, sym, subst, arith, Option, Some, None, find, option_to_list, ◌==◌}
use Rattle.std.specs.List.{AllByRecursion}
use Rattle.std.specs.Map.{lookup}
use Rattle.std.specs.Str.{bytes_eq}
use Rattle.std.proofs.lemmas.Bool.{false≢true, true≢false}
use Rattle.lus_tree.specs.declared.place.Sort.{Sort}
use Rattle.lus_tree.specs.Numbers.{counting}
use Rattle.lus_tree.specs.Tree.{Name, Variable, Component, Expression}
use Rattle.lus_meaning.specs.Value.{Value, absent, Instants, has_sort}
use Rattle.lus_meaning.specs.Frame.{empty_frame, Frame, frame_at, entry, call_frame}
use Rattle.lus_meaning.specs.Scene.{Clock, Manner, plain, while_true, as_import, Site, Scene, Instance, Instances, instance, no_instances, with_instance, instance_at, component_of, calls_of, call_instance, outputs_of}
use Rattle.lus_meaning.specs.Contract.{scene}
use Rattle.lus_meaning.specs.Occurrences.{memories, starts}
use Rattle.lus_meaning.specs.Program.{in_order}
use Rattle.lus_meaning.specs.Run.{equations, sort_of, sort_of_name, have_sorts, inputs_of}
use Rattle.lus_meaning.specs.Depends.{named_in}
use Rattle.lus_meaning.proofs.Now.{left_part, right_part}
use Rattle.sys_terms.specs.View.{Formula, same}
use Rattle.sys_terms.specs.Meaning.{Values, truth_of}
use Rattle.sys_meaning.specs.Slot.{Place, beat, own, named, in_call}
use Rattle.sys_meaning.specs.Items.{Key, Known}
use Rattle.sys_meaning.specs.Defaults.{site_at, site_of}
use Rattle.sys_meaning.specs.Part.{Part, worth, value_in}
use Rattle.sys_meaning.specs.Path.{Course, bare_stage, frame_by, frames_by}
use Rattle.sys_meaning.specs.Translate.{Stage, head_part, flag_at, name_part, present, term_of}
use Rattle.sys_meaning.specs.System.{Sources, tail_parts, paired, below_call, stage, equation_sources, names_here, runs_where, shared_outputs, from_call, here_of, calls_here, memory_next, start_next, so_far_next, so_far_first, starts_first, held_next, held_first, next_of, calls_next, first_of, calls_first}
use Rattle.sys_meaning.specs.WellTyped.{OutputFits, IsCall, no_constant, is_declared, clock_here, Stands, OwnFits, CallFits, MannerFits, TreeFits, CallsFit, count_of}
use Rattle.sys_meaning.proofs.Pools.{true_all, all_both}
use Rattle.sys_meaning.proofs.Conditions.{zero_value}
use Rattle.sys_meaning.proofs.Main.{term_has}
use Rattle.sys_meaning.proofs.Shown.{variable_worth, value_has}
use Rattle.sys_meaning.proofs.Offs.{both_true, Sorted, pairs_sorted, names_off}
use Rattle.lus_meaning.specs.Run.{is_typed, active}
use Rattle.lus_meaning.specs.Trace.{or_default}
use Rattle.sys_meaning.proofs.Rows.{CallShown, as_it_is}
use Rattle.sys_meaning.proofs.Back as back

-- ---- lists in order

counting_at : (P : ℕ → Type 0) (k n : ℕ) → AllByRecursion P (counting k n) → (j : ℕ) → j < n → P (k + j)
counting_at P k zero a j h = absurd (omega arith)
counting_at P k (suc n) a zero h = let e : k + 0 ≡ k = omega arith in rw e a.0
counting_at P k (suc n) a (suc j) h = let e : k + suc j ≡ suc k + j =
    omega arith in rw e (counting_at P (suc k) n a.1 j (omega arith))

-- what those in order have, each numbered one has
pub ordered_at : {A : Type 0} (P : A → Type 0) (f : A → ℕ) (xs : List A) → AllByRecursion P (in_order f xs) →
    (k j : ℕ) → k ≡ suc j → j < length xs → (x : A) → find (λ x. f x == k) xs ≡ Some x → P x
ordered_at {A} P f xs a k j e h x d = let q : 1 + j ≡ k =
    omega (arith, e) in one (subst (λ z. AllByRecursion P (option_to_list (find (λ x. f x == z) xs))) q
    (counting_at (λ z. AllByRecursion P (option_to_list (find (λ x. f x == z) xs))) 1 (length xs) each j h))
  where
    split : (ks : List ℕ) → AllByRecursion P (flat_map (λ k. option_to_list (find (λ x. f x == k) xs)) ks) →
        AllByRecursion (λ z. AllByRecursion P (option_to_list (find (λ x. f x == z) xs))) ks
    split [] b = tt
    split (z ∷ ks) b = (
      left_part P (option_to_list (find (λ x. f x == z) xs)) (flat_map (λ k. option_to_list (find
          (λ x. f x == k) xs)) ks) b,
      split ks (right_part P (option_to_list (find (λ x. f x == z) xs)) (flat_map
          (λ k. option_to_list (find (λ x. f x == k) xs)) ks) b),
    )

    each : AllByRecursion (λ z. AllByRecursion P (option_to_list (find (λ x. f x == z) xs))) (counting 1 (length xs))
    each = split (counting 1 (length xs)) a

    one : AllByRecursion P (option_to_list (find (λ x. f x == k) xs)) → P x
    one b = (subst (λ o. AllByRecursion P (option_to_list o)) d b).0

-- what all mapped have
pub mapped_all : {A : Type 0} (now next : Values) (f : A → Formula) (xs : List A) → true_all now next (map f xs) →
    AllByRecursion (λ x. truth_of now next (f x) ≡ true) xs
mapped_all now next f [] a = tt
mapped_all now next f (x ∷ xs) a = (a.0, mapped_all now next f xs a.1)

-- ---- the conditions, frame by frame

module _ (c : Course) (n : ℕ) where
  abbrev pub Always : List Formula → Type 0
  Always fs = (t : ℕ) → t < n → true_all (c t) (c t) fs

  abbrev pub Onward : List Formula → Type 0
  Onward fs = (t : ℕ) → suc t < n → true_all (c t) (c (suc t)) fs

  abbrev pub AtFirst : List Formula → Type 0
  AtFirst fs = 0 < n → true_all (c 0) (c 0) fs

  pub record FrameMeets (m : Manner) (i : Instance) (at : Place → ℕ) (active : Formula)
      (given : Sources) : Type 0 where
    pub runs : Always (active ∷ [])
    pub names : Always (names_here (stage i at) given)
    pub memories : Onward (map (memory_next (stage i at)) (in_order (λ m. m.number) (memories (component_of i))))
    pub starts : Onward (map (start_next (stage i at)) (in_order (λ m. m.number) (starts (component_of i))))
    pub started : AtFirst (starts_first (stage i at))
    pub so_far : Onward (so_far_next (stage i at) m)
    pub so_far_begins : AtFirst (so_far_first (stage i at) m)

  abbrev mutual
    pub TreeMeets : Manner → Instance → (Place → ℕ) → Formula → Sources → Type 0
    TreeMeets m (instance d cs is) at active given = FrameMeets m (instance d cs is) at active given
        × CallsMeet is (stage (instance d cs is) at)

    pub CallsMeet : Instances → Stage → Type 0
    CallsMeet no_instances g = Unit {0}
    CallsMeet (with_instance a k is) g =
        Onward (held_next g a a.manner k) × AtFirst (held_first g a a.manner k)
        × TreeMeets a.manner k (below_call a.number g.number) (same (flag_at g (in_call a.number (own beat)))
        (runs_where g a a.manner)) (from_call g a k)
        × CallsMeet is g

  mutual
    -- a tree's conditions are those of its frames
    pub tree_meets : (m : Manner) (i : Instance) (at : Place → ℕ) (active : Formula) (given : Sources) →
        Always (here_of i at active given) → Onward (next_of m i at) → AtFirst (first_of m i at) →
        TreeMeets m i at active given
    tree_meets m (instance d cs is) at active given h o f =
        let i : Instance = instance d cs is in
        let g : Stage = stage i at in
        let ms : List Formula = map (memory_next g) (in_order (λ m. m.number) (memories d)) in
        let ss : List Formula = map (start_next g) (in_order (λ m. m.number) (starts d)) in
        let T : ℕ → Formula → Type 0 = λ t z. truth_of (c t) (c t) z ≡ true in
        let N : ℕ → Formula → Type 0 = λ t z. truth_of (c t) (c (suc t)) z ≡ true in (
          record {
            runs = λ t l. ((h t l).0, tt);
            names = λ t l. left_part (T t) (names_here g given) (calls_here is g) (h t l).1;
            memories = λ t l. left_part (N t) ms ss (left_part (N t) (ms ++ ss) (so_far_next g m) (left_part (N t)
                (ms ++ ss ++ so_far_next g m) (calls_next is g) (o t l)));
            starts = λ t l. right_part (N t) ms ss (left_part (N t) (ms ++ ss) (so_far_next g m) (left_part (N t)
                (ms ++ ss ++ so_far_next g m) (calls_next is g) (o t l)));
            started = λ l. left_part (T 0) (starts_first g) (so_far_first g m) (left_part (T 0)
                (starts_first g ++ so_far_first g m) (calls_first is g) (f l));
            so_far = λ t l. right_part (N t) (ms ++ ss) (so_far_next g m) (left_part (N t)
                (ms ++ ss ++ so_far_next g m) (calls_next is g) (o t l));
            so_far_begins = λ l. right_part (T 0) (starts_first g) (so_far_first g m) (left_part (T 0)
                (starts_first g ++ so_far_first g m) (calls_first is g) (f l));
          },
          calls_meet is g (λ t l. right_part (T t) (names_here g given) (calls_here is g) (h t l).1)
              (λ t l. right_part (N t) (ms ++ ss ++ so_far_next g m) (calls_next is g) (o t l)) (λ l. right_part
              (T 0) (starts_first g ++ so_far_first g m) (calls_first is g) (f l)),
        )

    calls_meet : (is : Instances) (g : Stage) → Always (calls_here is g) → Onward (calls_next is g) →
        AtFirst (calls_first is g) → CallsMeet is g
    calls_meet no_instances g h o f = tt
    calls_meet (with_instance a k is) g h o f =
        let at : Place → ℕ = below_call a.number g.number in
        let act : Formula = same (flag_at g (in_call a.number (own beat))) (runs_where g a a.manner) in
        let T : ℕ → Formula → Type 0 = λ t z. truth_of (c t) (c t) z ≡ true in
        let N : ℕ → Formula → Type 0 = λ t z. truth_of (c t) (c (suc t)) z ≡ true in
        let hs : List Formula = here_of k at act (from_call g a k) in
        let ns : List Formula = next_of a.manner k at in
        let fs : List Formula = first_of a.manner k at in (
          (λ t l. left_part (N t) (held_next g a a.manner k) ns (left_part (N t) (held_next g a a.manner k ++ ns)
              (calls_next is g) (o t l))),
          (λ l. left_part (T 0) (held_first g a a.manner k) fs (left_part (T 0) (held_first g a a.manner k ++ fs)
              (calls_first is g) (f l))),
          tree_meets a.manner k at act (from_call g a k) (λ t l. left_part (T t) hs (calls_here is g) (h t l))
              (λ t l. right_part (N t) (held_next g a a.manner k) ns (left_part (N t)
              (held_next g a a.manner k ++ ns) (calls_next is g) (o t l))) (λ l. right_part (T 0)
              (held_first g a a.manner k) fs (left_part (T 0) (held_first g a a.manner k ++ fs) (calls_first is g)
              (f l))),
          calls_meet is g (λ t l. right_part (T t) hs (calls_here is g) (h t l)) (λ t l. right_part (N t)
              (held_next g a a.manner k ++ ns) (calls_next is g) (o t l)) (λ l. right_part (T 0)
              (held_first g a a.manner k ++ fs) (calls_first is g) (f l)),
        )

-- ---- off its clock a name of a frame is 0 or false

module _ (Modes : Instance → Key → Type 0) (i : Instance) (at : Place → ℕ) (now next : Values) where
  -- a given name is found
  given_found : (x : Name) (xs : List Name) (ps : List Part) (rest : Sources) → named_in x xs ≡ true →
      lookup (bytes_eq x) (paired xs ps ++ rest) ≡ None → ⊥
  given_found x [] ps rest h e = false≢true h
  given_found x (y ∷ xs) ps rest h e = by (bytes_eq x y) h e (given_found x xs (tail_parts ps) rest)
    where
      some : {A : Type 0} {y : A} → Some y ≡ None → ⊥
      some {A} e = true≢false (ap there e)
        where
          there : Option A → Bool
          there None = false
          there (Some y) = true

      by : (b : Bool) → (b || named_in x xs) ≡ true →
          cond b (Some (head_part ps)) (lookup (bytes_eq x) (paired xs (tail_parts ps) ++ rest)) ≡ None →
          (named_in x xs ≡ true → lookup (bytes_eq x) (paired xs (tail_parts ps) ++ rest) ≡ None → ⊥) → ⊥
      by true k d r = some d
      by false k d r = r k d

  -- the stage's instance, over no frame
  abbrev pub bare : Scene
  bare = scene i (λ t. true) empty_frame

  arguments_sorted : (modes : Known Formula) (cl : Clock) (es : List Expression) →
      AllByRecursion (Stands i (Modes i) cl) es →
      have_sorts (map (sort_of i) es) (map (worth now next) (map (term_of
      (record { place = i; number = at; modes = modes })) es)) ≡ true
  arguments_sorted modes cl [] a = refl
  arguments_sorted modes cl (e ∷ es) a =
      both_true (has_sort (sort_of i e) (worth now next (term_of
      (record { place = i; number = at; modes = modes }) e))) (have_sorts (map (sort_of i) es) (map
      (worth now next) (map (term_of (record { place = i; number = at; modes = modes })) es)))
      (term_has bare (Modes i) at modes now next e cl a.0) (arguments_sorted modes cl es a.1)

  shared_sorted : (modes : Known Formula) (xs : List Name) →
      have_sorts (map (sort_of_name i) xs) (map (worth now next) (map (name_part
      (record { place = i; number = at; modes = modes })) xs)) ≡ true
  shared_sorted modes [] = refl
  shared_sorted modes (x ∷ xs) =
      both_true (has_sort (sort_of_name i x) (worth now next (name_part
      (record { place = i; number = at; modes = modes }) x))) (have_sorts (map (sort_of_name i) xs) (map
      (worth now next) (map (name_part (record { place = i; number = at; modes = modes })) xs)))
      (rw (variable_worth now next (sort_of_name i x) (at (own (named x)))) (value_has now (sort_of_name i x) (at
      (own (named x))))) (shared_sorted modes xs)

  -- what a caller gives has the types of its callee's names
  pub given_sorted : (modes : Known Formula) (a : Site) (k : Instance) (p : ℕ) → CallFits Modes i a k p →
      (num' : Place → ℕ) (modes' : Known Formula) →
      AllByRecursion (λ q. Sorted (scene k (λ t. true) empty_frame) (Modes k) num' modes' now next q.0 q.1)
      (from_call (record { place = i; number = at; modes = modes }) a k)
  given_sorted modes a k p fit num' modes' =
      all_both (λ q. Sorted s' (Modes k) num' modes' now next q.0 q.1) (paired (inputs_of k) (map
      (term_of g) a.arguments)) (shared_outputs g a.manner k)
      (pairs_sorted s' (Modes k) num' modes' now next (inputs_of k) (map (term_of g) a.arguments) (ap
      (λ z. have_sorts z (map (worth now next) (map (term_of g) a.arguments)))
      (fit.input_sorts ∙ sym fit.sorts) ∙ arguments_sorted modes a.clock a.arguments fit.arguments))
      (shared a.manner fit.manner)
    where
      g : Stage
      g = record { place = i; number = at; modes = modes }

      s' : Scene
      s' = scene k (λ t. true) empty_frame

      shared : (m : Manner) → MannerFits Modes i a.clock m k →
          AllByRecursion (λ q. Sorted s' (Modes k) num' modes' now next q.0 q.1) (shared_outputs g m k)
      shared plain w = tt
      shared (while_true x) w = tt
      shared (as_import xs) w =
          pairs_sorted s' (Modes k) num' modes' now next (outputs_of k) (map (name_part g) xs) (ap
          (λ z. have_sorts z (map (worth now next) (map (name_part g) xs)))
          (fit.output_sorts ∙ sym w.2) ∙ shared_sorted modes xs)

-- in a state that meets a callee's conditions, its names are 0 or false off their clocks
pub call_offs : (Modes : Instance → Key → Type 0) (i : Instance) (at : Place → ℕ) (now next : Values)
    (modes modes' : Known Formula) (a : Site) (k : Instance) (p : ℕ) → CallFits Modes i a k p → OwnFits k (Modes k) →
    (num' : Place → ℕ) →
    true_all now next (names_here (record { place = k; number = num'; modes = modes' }) (from_call
    (record { place = i; number = at; modes = modes }) a k)) →
    (x : Name) → is_declared k (Modes k) x → no_constant k (Modes k) x →
    truth_of now next (present (record { place = k; number = num'; modes = modes' }) (clock_here k
    (Modes k) x)) ≡ false → value_in now (sort_of_name k x) (num' (own (named x))) ≡ zero_value (sort_of_name k x)
call_offs Modes i at now next modes modes' a k p fit fits num' meets =
    names_off (scene k (λ t. true) empty_frame) (Modes k) num' modes' now next (from_call g a k)
    (given_sorted Modes i at now next modes a k p fit num' modes') fits meets
    (λ v w none input. absurd (given_found Modes i at now next v.name.text (inputs_of k) (map
    (term_of g) a.arguments) (shared_outputs g a.manner k
    ++ equation_sources g' (equations (component_of k))) input (regroup v none)))
  where
    g : Stage
    g = record { place = i; number = at; modes = modes }

    g' : Stage
    g' = record { place = k; number = num'; modes = modes' }

    grouped : (xs ys zs : Sources) → (xs ++ ys) ++ zs ≡ xs ++ (ys ++ zs)
    grouped [] ys zs = refl
    grouped (x ∷ xs) ys zs = ap (λ q. x ∷ q) (grouped xs ys zs)

    regroup : (v : Variable) →
        lookup (bytes_eq v.name.text) (from_call g a k ++ equation_sources g' (equations (component_of k))) ≡ None →
        lookup (bytes_eq v.name.text) (paired (inputs_of k) (map (term_of g) a.arguments) ++
        (shared_outputs g a.manner k ++ equation_sources g' (equations (component_of k)))) ≡ None
    regroup v e = ap (lookup (bytes_eq v.name.text)) (sym (grouped (paired (inputs_of k) (map
        (term_of g) a.arguments)) (shared_outputs g a.manner k) (equation_sources g' (equations
        (component_of k))))) ∙ e

-- ---- a call of a path's frame

-- the frame of the call at a place
pub frame_by_at : (is : Instances) (at : Place → ℕ) (c : Course) (n : ℕ) (p : ℕ) → p < count_of is →
    frame_at (frames_by is at c n) p ≡ frame_by (instance_at is p) (below_call (site_at is p).number at) c n
frame_by_at no_instances at c n p h = absurd (omega arith)
frame_by_at (with_instance a k is) at c n zero h = refl
frame_by_at (with_instance a k is) at c n (suc p) h = frame_by_at is at c n p (omega arith)

pub frame_called : (i : Instance) (at : Place → ℕ) (c : Course) (n k : ℕ) → 0 < k → pred k < count_of (calls_of i) →
    frame_at (frames_by (calls_of i) at c n) (pred k)
    ≡ frame_by (call_instance i k) (below_call (site_of i k).number at) c n
frame_called i at c n zero s h = absurd (omega arith)
frame_called i at c n (suc p) s h = frame_by_at (calls_of i) at c n p h

-- its conditions
pub meets_at : (c : Course) (n : ℕ) (is : Instances) (g : Stage) (p : ℕ) → CallsMeet c n is g →
    p < count_of is →
    Onward c n (held_next g (site_at is p) (site_at is p).manner (instance_at is p))
    × AtFirst c n (held_first g (site_at is p) (site_at is p).manner (instance_at is p))
    × TreeMeets c n (site_at is p).manner (instance_at is p) (below_call (site_at is p).number g.number) (same
    (flag_at g (in_call (site_at is p).number (own beat))) (runs_where g (site_at is p) (site_at is p).manner))
    (from_call g (site_at is p) (instance_at is p))
meets_at c n no_instances g p w h = absurd (omega arith)
meets_at c n (with_instance a k is) g zero w h = (w.0, w.1, w.2)
meets_at c n (with_instance a k is) g (suc p) w h = meets_at c n is g p w.3 (omega arith)

-- what they say of the call with that number
abbrev pub SiteMeets : Course → ℕ → Stage → Site → Instance → Type 0
SiteMeets c n g a k = Onward c n (held_next g a a.manner k) × AtFirst c n (held_first g a a.manner k)
    × TreeMeets c n a.manner k (below_call a.number g.number) (same (flag_at g (in_call a.number (own beat)))
    (runs_where g a a.manner)) (from_call g a k)

pub meets_called : (c : Course) (n : ℕ) (i : Instance) (g : Stage) (k : ℕ) → 0 < k → pred k < count_of (calls_of i) →
    CallsMeet c n (calls_of i) g → SiteMeets c n g (site_of i k) (call_instance i k)
meets_called c n i g zero s h w = absurd (omega arith)
meets_called c n i g (suc p) s h w = meets_at c n (calls_of i) g p w h

pub call_fits_at : (Modes : Instance → Key → Type 0) (i : Instance) (is : Instances) (q : ℕ) (p : ℕ) →
    CallsFit Modes i is q → p < count_of is → CallFits Modes i (site_at is p) (instance_at is p) (q + p)
    × TreeFits Modes (instance_at is p)
call_fits_at Modes i no_instances q p w h = absurd (omega arith)
call_fits_at Modes i (with_instance a k is) q zero w h = let r : q + 0 ≡ q =
    omega arith in (subst (CallFits Modes i a k) (sym r) w.0, w.1)
call_fits_at Modes i (with_instance a k is) q (suc p) w h =
    let r : q + suc p ≡ suc q + p = omega arith in
    let there = call_fits_at Modes i is (suc q) p w.2 (omega arith) in
    (subst (CallFits Modes i (site_at is p) (instance_at is p)) (sym r) there.0, there.1)

pub call_fits_called : (Modes : Instance → Key → Type 0) (i : Instance) (k : ℕ) → 0 < k →
    pred k < count_of (calls_of i) → CallsFit Modes i (calls_of i) 0 →
    CallFits Modes i (site_of i k) (call_instance i k) (0 + pred k) × TreeFits Modes (call_instance i k)
call_fits_called Modes i zero s h w = absurd (omega arith)
call_fits_called Modes i (suc p) s h w = call_fits_at Modes i (calls_of i) 0 p w h

-- the entry of a name of a path's frame
pub callee_entry : (Modes : Instance → Key → Type 0) (k : Instance) (at : Place → ℕ) (c : Course) (n t : ℕ) → t < n →
    (x : Name) → is_declared k (Modes k) x →
    entry (frame_by k at c n) x t ≡ cond (truth_of (c t) (c t) (present (bare_stage k at) (clock_here k
    (Modes k) x))) (value_in (c t) (sort_of_name k x) (at (own (named x)))) absent
callee_entry Modes (instance d cs is) at c n t h x w =
    back.entry_by d cs is (Modes (instance d cs is)) at c n (λ t. true) [] t h x w

pub own_meets : (c : Course) (n : ℕ) (m : Manner) (k : Instance) (at : Place → ℕ) (act : Formula) (given : Sources) →
    TreeMeets c n m k at act given → FrameMeets c n m k at act given
own_meets c n m (instance d cs is) at act given w = w.0

pub tree_own : (Modes : Instance → Key → Type 0) (k : Instance) → TreeFits Modes k → OwnFits k (Modes k)
tree_own Modes (instance d cs is) w = w.0

shown_or : (z : Sort) (o : Bool) (v : Value) → has_sort z v ≡ true → (o ≡ false → v ≡ zero_value z) →
    v ≡ or_default z (cond o v absent)
shown_or z true v h e = sym (as_it_is z v h)
shown_or z false v h e = e refl

typed_or : (z : Sort) (o on : Bool) (v : Value) → o ≡ on → has_sort z v ≡ true →
    is_typed z on (cond o v absent) ≡ true
typed_or z true true v e h = h
typed_or z false false v e h = refl
typed_or z true false v e h = absurd (true≢false e)
typed_or z false true v e h = absurd (false≢true e)

module _ (Modes : Instance → Key → Type 0) (d : Component) (cs : List (Name × Value)) (is : Instances)
    (at : Place → ℕ) (c : Course) (n : ℕ) (b : Instants) (fits : TreeFits Modes (instance d cs is))
    (meets : CallsMeet c n is (stage (instance d cs is) at)) where
  abbrev pub j : Instance
  j = instance d cs is

  abbrev pub jf : Frame
  jf = frame_by j at c n

  -- where its beat is that of its site, a call is shown
  pub call_shown : (t : ℕ) → t < n → (nx : Values) (k : ℕ) → IsCall j (Modes j) k →
      (c t).flag_at (at (in_call k (own beat))) ≡ active (scene j b jf) (site_of j k) t →
      CallShown (scene j b jf) (Modes j) at (c t) nx t k
  call_shown t h nx k e beats =
      record {
        beats = beats;
        outputs = (both_of (component_of (call_instance j k)).outputs e.named).0;
        typed =
            (both_of (component_of (call_instance j k)).outputs e.named).1;
      }
    where
      callee : Instance
      callee = call_instance j k

      below : Place → ℕ
      below = below_call (site_of j k).number at

      fit : CallFits Modes j (site_of j k) callee (0 + pred k) × TreeFits Modes callee
      fit = call_fits_called Modes j k e.counted e.listed fits.1

      own_of : FrameMeets c n (site_of j k).manner callee below (same (flag_at (stage j at) (in_call
          (site_of j k).number (own beat))) (runs_where (stage j at) (site_of j k) (site_of j k).manner))
          (from_call (stage j at) (site_of j k) callee)
      own_of = own_meets c n (site_of j k).manner callee below (same (flag_at (stage j at) (in_call
          (site_of j k).number (own beat))) (runs_where (stage j at) (site_of j k) (site_of j k).manner))
          (from_call (stage j at) (site_of j k) callee) (meets_called c n j (stage j at) k e.counted e.listed meets).2

      here_frame : call_frame jf k ≡ frame_by callee below c n
      here_frame = frame_called j at c n k e.counted e.listed

      flag_here : Bool
      flag_here = (c t).flag_at (at (in_call k (own beat)))

      same_number : (q : Place) → below q ≡ at (in_call k q)
      same_number q = ap (λ z. at (in_call z q)) e.number

      off : (v : Variable) → OutputFits j (Modes j) k v → flag_here ≡ false →
          value_in (c t) (sort_of_name callee v.name.text) (below (own (named v.name.text))) ≡ zero_value
          (sort_of_name callee v.name.text)
      off v w o = call_offs Modes j at (c t) (c t) (stage j at).modes (stage callee below).modes
          (site_of j k) callee (0 + pred k) fit.0 (tree_own Modes callee fit.1) below
          (own_of.names t h) v.name.text w.2 w.3
          (ap (λ z. truth_of (c t) (c t) (present (stage callee below) z)) w.4 ∙ ap (c t).flag_at (same_number
          (own beat)) ∙ o)

      entry_here : (v : Variable) → OutputFits j (Modes j) k v →
          entry (call_frame jf k) v.name.text t ≡ cond flag_here (value_in (c t) (sort_of_name callee v.name.text)
          (below (own (named v.name.text)))) absent
      entry_here v w =
          ap (λ f. entry f v.name.text t) here_frame ∙ callee_entry Modes callee below c n t h v.name.text w.2
          ∙ ap (λ z. cond (truth_of (c t) (c t) (present (bare_stage callee below) z)) (value_in (c t)
          (sort_of_name callee v.name.text) (below (own (named v.name.text)))) absent) w.4
          ∙ ap (λ q. cond ((c t).flag_at q) (value_in (c t) (sort_of_name callee v.name.text) (below (own
          (named v.name.text)))) absent) (same_number (own beat))

      both_of : (vs : List Variable) → AllByRecursion (OutputFits j (Modes j) k) vs →
          AllByRecursion (λ v. value_in (c t) v.sort (at (in_call k (own (named v.name.text)))) ≡ or_default v.sort
          (entry (call_frame jf k) v.name.text t)) vs
          × AllByRecursion (λ v. is_typed v.sort (active (scene j b jf) (site_of j k) t) (entry
          (call_frame jf k) v.name.text t) ≡ true) vs
      both_of [] a = (tt, tt)
      both_of (v ∷ vs) a =
          let x : Value = value_in (c t) (sort_of_name callee v.name.text) (below (own (named v.name.text))) in
          let has : has_sort (sort_of_name callee v.name.text) x ≡ true =
          value_has (c t) (sort_of_name callee v.name.text) (below (own (named v.name.text))) in
          let shown : x ≡ or_default (sort_of_name callee v.name.text) (entry (call_frame jf k) v.name.text t) =
          shown_or (sort_of_name callee v.name.text) flag_here x has (off v a.0) ∙ ap (or_default
          (sort_of_name callee v.name.text)) (sym (entry_here v a.0)) in
          let typed : is_typed (sort_of_name callee v.name.text) (active (scene j b jf) (site_of j k) t) (entry
          (call_frame jf k) v.name.text t) ≡ true =
          ap (is_typed (sort_of_name callee v.name.text) (active (scene j b jf) (site_of j k) t))
          (entry_here v a.0) ∙ typed_or (sort_of_name callee v.name.text) flag_here (active (scene j b jf)
          (site_of j k) t) x beats has in
          let rest = both_of vs a.1 in (
            (
              ap (λ q. value_in (c t) v.sort q) (sym (same_number (own (named v.name.text)))) ∙ subst (λ z. value_in
                  (c t) z (below (own (named v.name.text))) ≡ or_default z (entry
                  (call_frame jf k) v.name.text t)) a.0.1 shown,
              rest.0,
            ),
            (
              subst (λ z. is_typed z (active (scene j b jf) (site_of j k) t) (entry
                  (call_frame jf k) v.name.text t) ≡ true) a.0.1 typed,
              rest.1,
            ),
          )
