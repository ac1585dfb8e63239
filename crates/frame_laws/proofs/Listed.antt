-- What the lines of a trace that fits say has its types at every depth of calls, and so the frame in which each name has
-- what the lines say of it is one of choices that fit.
use Rattle.std.proofs.Common.{◌≡◌, ℕ, zero, suc, pred, ◌<◌, ◌+◌, Bool, true, false, cond, not, ◌&&◌, ◌||◌, ◌==◌, List, [], ◌∷◌, ◌++◌, map, length, refl, sym, ap, ◌∙◌, subst, arith, Option, Some, None, option_map, unwrap_or, slice_index_or}
use Rattle.std.specs.List.{AllByRecursion, find}
use Rattle.std.proofs.lemmas.Bool.{false≢true, eqb-true}
use Rattle.std.proofs.lemmas.Option.{none-some}
use Rattle.lus_tree.specs.declared.place.Sort.{Sort}
use Rattle.lus_tree.specs.declared.place.Sort.TheVariants.{Bool as Flags, Int as Numbers}
use Rattle.lus_tree.specs.Tree.{Name, Variable, Component}
use Rattle.lus_meaning.specs.Value.{Value, absent, flag, whole, Stream, has_sort, is_absent}
use Rattle.lus_meaning.specs.Frame.{Frame, Frames, frame, no_frames, with_frame, entry, frame_at}
use Rattle.lus_meaning.specs.Scene.{Manner, plain, while_true, as_import, Instance, Instances, instance, no_instances, with_instance, component_of, variables}
use Rattle.lus_meaning.specs.Run.{sort_of_name, first_sorts, have_sorts}
use Rattle.lus_meaning.specs.Depends.{named_in, left_names, from_caller}
use Rattle.lus_meaning.specs.Recompute.{sample}
use Rattle.lus_meaning.specs.Trace.{Subject, of_name, of_first, BareLine, same_subject, same_numbers, listed_at, or_default, free_names, free_in}
use Rattle.lus_meaning.specs.Fits.{Listable, listable_names, listable_firsts, listable_in, listable_below, listable, same_place, listable_at, is_of_sort, takes_value, IsTaken, AreTaken}
use Rattle.lus_meaning.specs.WellMade.{AreDistinct}
use Rattle.lus_meaning.specs.Choices.{ChoicesFrom, CallsFit}
use Rattle.lus_meaning.proofs.Equal.{Rows, RowFound, rows_found}
use Rattle.lus_meaning.proofs.Exists.{sampled_names}
use Rattle.lus_meaning.proofs.Lists.{all_from, all_from_both, both_parts, mapped_all}
use Rattle.lus_meaning.proofs.Now.{left_part, right_part}
use Rattle.lus_meaning.proofs.Stable.{sample_at}
use Rattle.lus_meaning.proofs.Unique.{same_bytes}
use Rattle.rule_laws.proofs.Truths.{both_true}
use Rattle.frame_laws.proofs.Free.{over_others, over_free}
use Rattle.frame_laws.proofs.Along.{along, IsAlong, CallsAlong}

-- ---- the type of what a trace may list

-- that of a name or of a first value of an instance
abbrev pub own_sort : Instance → Subject → Sort
own_sort i (of_name x) = sort_of_name i x
own_sort i (of_first k) = slice_index_or (first_sorts i) (pred k) Flags

abbrev HasItsSort : Instance → Listable → Type 0
HasItsSort top s = s.sort ≡ own_sort (along top s.path) s.subject

abbrev pub HasOwnSort : Instance → Variable → Type 0
HasOwnSort i v = sort_of_name i v.name.text ≡ v.sort

module _ (top : Instance) where
  names_sorted : (path : List ℕ) (i : Instance) → along top path ≡ i → (n : ℕ) (needed : Bool) (vs : List Variable)
      → AllByRecursion (HasOwnSort i) vs → AllByRecursion (HasItsSort top) (listable_names path n needed vs)
  names_sorted path i e n needed [] a = tt
  names_sorted path i e n needed (v ∷ vs) a =
      (sym a.0 ∙ ap (λ k. sort_of_name k v.name.text) (sym e), names_sorted path i e n needed vs a.1)

  firsts_sorted : (path : List ℕ) (i : Instance) → along top path ≡ i → (k : ℕ) (ss : List Sort)
      → ((t j : ℕ) → t < length ss → j ≡ t + k → slice_index_or (first_sorts i) (pred j) Flags ≡ slice_index_or ss t Flags)
      → AllByRecursion (HasItsSort top) (listable_firsts path k ss)
  firsts_sorted path i e k [] h = tt
  firsts_sorted path i e k (s ∷ ss) h = (
    sym (h 0 k (omega arith) (omega arith)) ∙ ap (λ m. own_sort m (of_first k)) (sym e),
    firsts_sorted path i e (suc k) ss (λ t j l q. h (suc t) j (omega arith) (omega arith)),
  )

  all_firsts_sorted : (path : List ℕ) (i : Instance) → along top path ≡ i → AllByRecursion (HasItsSort top) (listable_firsts path 1 (first_sorts i))
  all_firsts_sorted path i e = firsts_sorted path i e 1 (first_sorts i)
      (λ t j l q. let r : j ≡ suc t = omega arith in ap (λ m. slice_index_or (first_sorts i) (pred m) Flags) r)

  free_sorted : (d : Component) (m : Manner) (P : Variable → Type 0) → AllByRecursion P (variables d) → AllByRecursion P (free_in m d)
  free_sorted d plain P a = over_free d P (over_others d P a)
  free_sorted d (while_true e) P a = over_free d P (over_others d P a)
  free_sorted d (as_import xs) P a = tt

  own_sorts : (path : List ℕ) (i : Instance) → IsAlong top path i → AllByRecursion (HasOwnSort i) (variables (component_of i))
  own_sorts path (instance d cs is) a = a.2

  mutual
    in_sorted : (path : List ℕ) (n : ℕ) (free : List Variable) (i : Instance) → IsAlong top path i → AllByRecursion (HasOwnSort i) free
        → AllByRecursion (HasItsSort top) (listable_in path n free i)
    in_sorted path n free (instance d cs is) a h =
        let i : Instance = instance d cs is in
        both_parts (HasItsSort top) (listable_names path n false free) (listable_firsts path 1 (first_sorts i) ++ listable_below path n is)
        (names_sorted path i a.0 n false free h)
        (both_parts (HasItsSort top) (listable_firsts path 1 (first_sorts i)) (listable_below path n is) (all_firsts_sorted path i a.0)
        (below_sorted path n is a.3))

    below_sorted : (path : List ℕ) (n : ℕ) (is : Instances) → CallsAlong top path is → AllByRecursion (HasItsSort top) (listable_below path n is)
    below_sorted path n no_instances a = tt
    below_sorted path n (with_instance c k is) a =
        both_parts (HasItsSort top) (listable_in (path ++ c.number ∷ []) n (free_in c.manner (component_of k)) k) (listable_below path n is)
        (in_sorted (path ++ c.number ∷ []) n (free_in c.manner (component_of k)) k a.1
        (free_sorted (component_of k) c.manner (HasOwnSort k) (own_sorts (path ++ c.number ∷ []) k a.1)))
        (below_sorted path n is a.2)

  -- ---- what the lines list

  -- a value of that type, or none
  abbrev IsTypedOrNone : Sort → Value → Type 0
  IsTypedOrNone q v = has_sort q (or_default q v) ≡ true

  same_path : (ks js : List ℕ) → same_numbers ks js ≡ true → ks ≡ js
  same_path [] [] e = refl
  same_path [] (j ∷ js) e = absurd (false≢true e)
  same_path (k ∷ ks) [] e = absurd (false≢true e)
  same_path (k ∷ ks) (j ∷ js) e =
      let q : ((k == j) ≡ true) × (same_numbers ks js ≡ true) = both_true (k == j) (same_numbers ks js) e in
      rw (eqb-true k j q.0, same_path ks js q.1) refl

  same_thing : (x y : Subject) → same_subject x y ≡ true → x ≡ y
  same_thing (of_name x) (of_name y) e = ap of_name (same_bytes x y e)
  same_thing (of_first k) (of_first j) e = ap of_first (eqb-true k j e)
  same_thing (of_name x) (of_first j) e = absurd (false≢true e)
  same_thing (of_first k) (of_name y) e = absurd (false≢true e)

  abbrev sort_there : List ℕ → Subject → Sort
  sort_there path x = own_sort (along top path) x

  same_sort : (path path' : List ℕ) (x x' : Subject) → (same_numbers path path' && same_subject x x') ≡ true → sort_there path x ≡ sort_there path' x'
  same_sort path path' x x' e =
      let q : (same_numbers path path' ≡ true) × (same_subject x x' ≡ true) = both_true (same_numbers path path') (same_subject x x') e in
      ap (λ ks. sort_there ks x) (same_path path path' q.0) ∙ ap (sort_there path') (same_thing x x' q.1)

  found_sort : (ss : List Listable) → AllByRecursion (HasItsSort top) ss → (path : List ℕ) (x : Subject) (s : Listable)
      → listable_at ss path x ≡ Some s → s.sort ≡ sort_there path x
  found_sort [] a path x s e = absurd (none-some s e)
  found_sort (p ∷ ss) a path x s e = go (same_place p.path p.subject path x) refl e (found_sort ss a.1 path x s)
    where
      go : (c : Bool) → same_place p.path p.subject path x ≡ c → cond c (Some p) (listable_at ss path x) ≡ Some s
          → (listable_at ss path x ≡ Some s → s.sort ≡ sort_there path x) → s.sort ≡ sort_there path x
      go true m h r = let same : p ≡ s = cc in subst (λ z. z.sort ≡ sort_there path x) same (a.0 ∙ same_sort p.path path p.subject x m)
      go false m h r = r h

  taken_typed : (q : Sort) (v : Value) (b : Bool) → (is_of_sort q v || (is_absent v && b)) ≡ true → IsTypedOrNone q v
  taken_typed Flags absent b h = refl
  taken_typed Flags (flag z) b h = refl
  taken_typed Flags (whole z) b h = absurd (false≢true h)
  taken_typed Numbers absent b h = refl
  taken_typed Numbers (flag z) b h = absurd (false≢true h)
  taken_typed Numbers (whole z) b h = refl

  abbrev IsLineTyped : BareLine → Type 0
  IsLineTyped l = AllByRecursion (IsTypedOrNone (sort_there l.path l.subject)) l.values

  line_typed : (ss : List Listable) → AllByRecursion (HasItsSort top) ss → (l : BareLine) → IsTaken (listable_at ss l.path l.subject) l.values
      → IsLineTyped l
  line_typed ss a l = go (listable_at ss l.path l.subject) refl
    where
      go : (o : Option Listable) → listable_at ss l.path l.subject ≡ o → IsTaken o l.values → IsLineTyped l
      go None e h = absurd h
      go (Some s) e h = all_from (λ v. takes_value s v ≡ true) (IsTypedOrNone (sort_there l.path l.subject))
          (λ v t. subst (λ q. IsTypedOrNone q v) (found_sort ss a l.path l.subject s e) (taken_typed s.sort v (not s.needed) t)) l.values h.each

  none_typed : (q : Sort) → IsTypedOrNone q absent
  none_typed Flags = refl
  none_typed Numbers = refl

  value_typed : (q : Sort) (vs : List Value) (t : ℕ) → AllByRecursion (IsTypedOrNone q) vs → IsTypedOrNone q (slice_index_or vs t absent)
  value_typed q [] t a = none_typed q
  value_typed q (v ∷ vs) zero a = a.0
  value_typed q (v ∷ vs) (suc t) a = value_typed q vs t a.1

  all_listed_typed : (ls : List BareLine) → AllByRecursion IsLineTyped ls → (path : List ℕ) (x : Subject) (t : ℕ)
      → IsTypedOrNone (sort_there path x) (listed_at ls path x t)
  all_listed_typed [] a path x t = none_typed (sort_there path x)
  all_listed_typed (l ∷ ls) a path x t =
      go (same_numbers path l.path && same_subject x l.subject) refl (all_listed_typed ls a.1 path x t)
    where
      go : (c : Bool) → (same_numbers path l.path && same_subject x l.subject) ≡ c → IsTypedOrNone (sort_there path x) (listed_at ls path x t) →
          IsTypedOrNone (sort_there path x) (slice_index_or (unwrap_or (option_map (λ l. l.values)
          (cond c (Some l) (find (λ l. same_numbers path l.path && same_subject x l.subject) ls))) []) t absent)
      go true m r = subst (λ q. IsTypedOrNone q (slice_index_or l.values t absent)) (sym (same_sort path l.path x l.subject m))
          (value_typed (sort_there l.path l.subject) l.values t a.0)
      go false m r = r

  -- all that the lines of a trace say has its type
  abbrev pub SaysTyped : List BareLine → Type 0
  SaysTyped ls = (path : List ℕ) (x : Subject) (t : ℕ) → has_sort (own_sort (along top path) x)
      (or_default (own_sort (along top path) x) (listed_at ls path x t)) ≡ true

  pub lines_typed : IsAlong top [] top → (n : ℕ) (ls : List BareLine)
      → AllByRecursion (HasOwnSort top) ((component_of top).inputs ++ free_names (component_of top))
      → AreTaken (listable n top) ls → SaysTyped ls
  lines_typed a n ls h taken = all_listed_typed ls (all_from (λ l. IsTaken (listable_at (listable n top) l.path l.subject) l.values) IsLineTyped
      (line_typed (listable n top) all) ls taken)
    where
      all : AllByRecursion (HasItsSort top) (listable n top)
      all = both_parts (HasItsSort top) (listable_names [] n true (component_of top).inputs) (listable_in [] n (free_names (component_of top)) top)
          (names_sorted [] top refl n true (component_of top).inputs
          (left_part (HasOwnSort top) (component_of top).inputs (free_names (component_of top)) h))
          (in_sorted [] n (free_names (component_of top)) top a
          (right_part (HasOwnSort top) (component_of top).inputs (free_names (component_of top)) h))

-- ---- the frame of what the lines say

abbrev pub listed_stream : List BareLine → List ℕ → Variable → Stream
listed_stream ls path v t = or_default v.sort (listed_at ls path (of_name v.name.text) t)

abbrev pub listed_firsts : List BareLine → List ℕ → ℕ → List Sort → List Value
listed_firsts ls path k [] = []
listed_firsts ls path k (s ∷ ss) = or_default s (listed_at ls path (of_first k) 0) ∷ listed_firsts ls path (suc k) ss

abbrev pub listed_rows : List BareLine → List ℕ → ℕ → List Variable → Rows
listed_rows ls path n vs = map (λ v. (v.name.text, sample n (listed_stream ls path v))) vs

abbrev mutual
  pub listed_frame : List BareLine → List ℕ → ℕ → Instance → Frame
  listed_frame ls path n (instance d cs is) = frame (listed_rows ls path n (variables d))
      (listed_firsts ls path 1 (first_sorts (instance d cs is))) (listed_calls ls path n is)

  pub listed_calls : List BareLine → List ℕ → ℕ → Instances → Frames
  listed_calls ls path n no_instances = no_frames
  listed_calls ls path n (with_instance c k is) = with_frame (listed_frame ls (path ++ c.number ∷ []) n k) (listed_calls ls path n is)

-- its names have these streams
pub listed_entries : (ls : List BareLine) (path : List ℕ) (n : ℕ) (d : Component) (vs : List Value) (fs : Frames)
    → AreDistinct (map (λ v. v.name.text) (variables d))
    → AllByRecursion (λ v. (t : ℕ) → t < n → entry (frame (listed_rows ls path n (variables d)) vs fs) v.name.text t ≡ listed_stream ls path v t)
    (variables d)
listed_entries ls path n d ws fs distinct = go (variables d)
    (mapped_all (RowFound rows) (λ v. (v.name.text, sample n (listed_stream ls path v))) (variables d)
    (rows_found rows (rw (sampled_names n (listed_stream ls path) (variables d)) distinct)))
  where
    rows : Rows
    rows = listed_rows ls path n (variables d)

    go : (vs : List Variable) → AllByRecursion (λ v. RowFound rows (v.name.text, sample n (listed_stream ls path v))) vs
        → AllByRecursion (λ v. (t : ℕ) → t < n → entry (frame rows ws fs) v.name.text t ≡ listed_stream ls path v t) vs
    go [] a = tt
    go (v ∷ vs) a = (
      (λ t l. ap (λ (o : Option (List Value)). slice_index_or (unwrap_or o []) t absent) a.0 ∙ sample_at n t (listed_stream ls path v) l),
      go vs a.1,
    )

module _ (top : Instance) (ls : List BareLine) (typed : SaysTyped top ls) (n : ℕ) where
  -- what is said of a name has its type
  pub stream_typed : (path : List ℕ) (i : Instance) → along top path ≡ i → (v : Variable) → sort_of_name i v.name.text ≡ v.sort → (t : ℕ)
      → has_sort v.sort (listed_stream ls path v t) ≡ true
  stream_typed path i e v h t = subst (λ q. has_sort q (or_default q (listed_at ls path (of_name v.name.text) t)) ≡ true)
      (ap (λ k. sort_of_name k v.name.text) e ∙ h) (typed path (of_name v.name.text) t)

  firsts_typed : (path : List ℕ) (i : Instance) → along top path ≡ i → (k : ℕ) (ss : List Sort)
      → ((t j : ℕ) → t < length ss → j ≡ t + k → slice_index_or (first_sorts i) (pred j) Flags ≡ slice_index_or ss t Flags)
      → have_sorts ss (listed_firsts ls path k ss) ≡ true
  firsts_typed path i e k [] h = refl
  firsts_typed path i e k (s ∷ ss) h =
      let here : has_sort s (or_default s (listed_at ls path (of_first k) 0)) ≡ true =
      subst (λ q. has_sort q (or_default q (listed_at ls path (of_first k) 0)) ≡ true)
      (ap (λ m. own_sort m (of_first k)) e ∙ h 0 k (omega arith) (omega arith)) (typed path (of_first k) 0) in
      rw (here, firsts_typed path i e (suc k) ss (λ t j l q. h (suc t) j (omega arith) (omega arith))) refl

  mutual
    pub listed_fit : (path : List ℕ) (i : Instance) → IsAlong top path i → (given : List Name) → ChoicesFrom i given n (listed_frame ls path n i)
    listed_fit path (instance d cs is) a given =
        let i : Instance = instance d cs is in (
          firsts_typed path i a.0 1 (first_sorts i)
              (λ t j l q. let r : j ≡ suc t = omega arith in ap (λ m. slice_index_or (first_sorts i) (pred m) Flags) r),
          all_from_both (HasOwnSort i)
              (λ v. (t : ℕ) → t < n → entry (listed_frame ls path n i) v.name.text t ≡ listed_stream ls path v t)
              (λ v. (named_in v.name.text given || named_in v.name.text (left_names d)) ≡ false → (t : ℕ) → t < n
              → has_sort v.sort (entry (listed_frame ls path n i) v.name.text t) ≡ true)
              (λ v h q o t l. ap (has_sort v.sort) (q t l) ∙ stream_typed path i a.0 v h t)
              (variables d) a.2
              (listed_entries ls path n d (listed_firsts ls path 1 (first_sorts i)) (listed_calls ls path n is) a.1),
          calls_fit path is a.3,
        )

    calls_fit : (path : List ℕ) (is : Instances) → CallsAlong top path is → CallsFit is n (frame_at (listed_calls ls path n is))
    calls_fit path no_instances a = tt
    calls_fit path (with_instance c k is) a = (listed_fit (path ++ c.number ∷ []) k a.1 (from_caller c k), calls_fit path is a.2)
