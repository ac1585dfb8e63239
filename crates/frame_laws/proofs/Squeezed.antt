-- A run without the instants at which its beat is off is a run on every instant, and what is left has its values.
use Rattle.std.proofs.Common.{◌≡◌, ℕ, zero, suc, ◌<◌, Bool, true, false, cond, ◌&&◌, ◌||◌, List, [], ◌∷◌, map, length, refl, sym, ap, ◌∙◌, subst, arith, Some, unwrap_or, slice_index_or}
use Rattle.std.specs.List.{AllByRecursion}
use Rattle.std.specs.Map.{lookup}
use Rattle.std.specs.Str.{bytes_eq}
use Rattle.std.proofs.lemmas.Bool.{false≢true, cases_Bool}
use Rattle.std.proofs.Math.Logic.{◌⊎◌, inl, inr}
use Rattle.lus_tree.specs.declared.place.Sort.{Sort}
use Rattle.lus_tree.specs.Tree.{Name, Variable, Expression, Component}
use Rattle.lus_meaning.specs.Value.{Value, absent, flag, whole, Instants, is, is_absent}
use Rattle.lus_meaning.specs.Frame.{Frame, Frames, frame, empty_frame, no_frames, with_frame, entry, first_value, frame_at, calls_in, streams_of}
use Rattle.lus_meaning.specs.Scene.{Clock, base, sampled_by, Manner, plain, while_true, as_import, Scene, Site, Instance, Instances, instance, no_instances, with_instance, component_of, clock_from, clock_of_names, outputs_of, variables, is_on}
use Rattle.lus_meaning.specs.Meaning.{value}
use Rattle.lus_meaning.specs.Contract.{scene, terms}
use Rattle.lus_meaning.specs.Run.{Equation, equations, at_instant, entries, right_values, IsBalanced, is_typed, condition_of, active, SharesOutputs, inputs_of, IsCalled, IsRun, CallsRun}
use Rattle.lus_meaning.specs.Depends.{named_in, clock_needs, Rank, below_calls, AllBelow, IsRanked, CallsRanked}
use Rattle.lus_meaning.specs.Program.{instance_of}
use Rattle.lus_meaning.specs.Squeeze.{kept, squeeze, squeeze_each, beats_before, SqueezeLaw}
use Rattle.lus_meaning.specs.Verdict.{throughout}
use Rattle.lus_meaning.proofs.Lists.{all_from, all_from_both}
use Rattle.lus_meaning.proofs.Now.{frame_on}
use Rattle.lus_meaning.proofs.Unique.{same_bytes, no_entry}
use Rattle.clock_laws.specs.Laws.{HasRank}
use Rattle.clock_laws.proofs.RunLaws.{each_has_rank}
use Rattle.frame_laws.proofs.Kept.{IsKept, AreKept, over_kept, all_kept, kept_value, at_kept, mapped_kept}
use Rattle.frame_laws.proofs.KeptValues.{AreSqueezed, on_kept, value_kept, right_kept, modes_kept}

-- ---- where the beat is off, nothing has a value

is_none : (q : Sort) (on : Bool) (v : Value) → is_typed q on v ≡ true → on ≡ false → v ≡ absent
is_none q true v h e = absurd (false≢true (sym e))
is_none q false v h e = none v h
  where
    none : (v : Value) → is_absent v ≡ true → v ≡ absent
    none absent h = refl
    none (flag b) h = absurd (false≢true h)
    none (whole z) h = absurd (false≢true h)

-- what each of the variables with that name gives
by_name : (x : Name) (G : Type 0) (vs : List Variable) → AllByRecursion (λ v. x ≡ v.name.text → G) vs
    → named_in x (map (λ v. v.name.text) vs) ≡ true → G
by_name x G [] a e = absurd (false≢true e)
by_name x G (v ∷ vs) a e = go (bytes_eq x v.name.text) refl e (by_name x G vs a.1)
  where
    go : (c : Bool) → bytes_eq x v.name.text ≡ c → (c || named_in x (map (λ v. v.name.text) vs)) ≡ true
        → (named_in x (map (λ v. v.name.text) vs) ≡ true → G) → G
    go true m h r = a.0 (same_bytes x v.name.text m)
    go false m h r = r h

nothing : (ks : List ℕ) (x : Name) (t : ℕ) → entry (frame_on empty_frame ks) x t ≡ absent
nothing [] x t = refl
nothing (k ∷ ks) x t = nothing ks x t

module _ (d : Component) (n : ℕ) (s : Scene) (r : Rank) (t : ℕ) (inside_n : t < n)
    (names : map (λ x. x.0) (streams_of s.frame) ≡ map (λ v. v.name.text) (variables d))
    (types : AllByRecursion (λ v. (u : ℕ) → u < n → is_typed v.sort (is_on s (clock_from v.clock) u) (entry s.frame v.name.text u) ≡ true) (variables d))
    (below : AllByRecursion (λ v. AllBelow r (clock_needs (clock_from v.clock)) (r [] (Some v.name.text))) (variables d)) (off : s.beat t ≡ false) where
  clock_off : (R k : ℕ) → ((y : Name) → r [] (Some y) < R → entry s.frame y t ≡ absent) → (c : Clock) → AllBelow r (clock_needs c) k → k < suc R
      → is_on s c t ≡ false
  clock_off R k low base a l = off
  clock_off R k low (sampled_by z y) a l = let m : r [] (Some y) < k = a.0 in ap (is z) (low y (omega arith))

  own_none : (R : ℕ) (x : Name) → r [] (Some x) < R → entry s.frame x t ≡ absent
  own_none zero x l = absurd (omega arith)
  own_none (suc R) x l = go (cases_Bool (named_in x (map (λ e. e.0) (streams_of s.frame)))) (own_none R)
    where
      go : (named_in x (map (λ e. e.0) (streams_of s.frame)) ≡ true) ⊎ (named_in x (map (λ e. e.0) (streams_of s.frame)) ≡ false)
          → ((y : Name) → r [] (Some y) < R → entry s.frame y t ≡ absent) → entry s.frame x t ≡ absent
      go (inr h) low = no_entry x t (streams_of s.frame) h
      go (inl h) low = by_name x (entry s.frame x t ≡ absent) (variables d)
          (all_from_both (λ v. (u : ℕ) → u < n → is_typed v.sort (is_on s (clock_from v.clock) u) (entry s.frame v.name.text u) ≡ true)
          (λ v. AllBelow r (clock_needs (clock_from v.clock)) (r [] (Some v.name.text))) (λ v. x ≡ v.name.text → entry s.frame x t ≡ absent)
          (λ v q a e. ap (λ y. entry s.frame y t) e
          ∙ is_none v.sort (is_on s (clock_from v.clock) t) (entry s.frame v.name.text t) (q t inside_n)
          (clock_off R (r [] (Some v.name.text)) low (clock_from v.clock) a (subst (λ y. r [] (Some y) < suc R) e l)))
          (variables d) types below) (ap (named_in x) (sym names) ∙ h)

  all_none : (x : Name) → entry s.frame x t ≡ absent
  all_none x = own_none (suc (r [] (Some x))) x (omega arith)

  all_off : (c : Clock) → is_on s c t ≡ false
  all_off base = off
  all_off (sampled_by z y) = ap (is z) (all_none y)

mutual
  none_off : (i : Instance) (r : Rank) → IsRanked i r → (n : ℕ) (b : Instants) (f : Frame) → IsRun i n b f → (t : ℕ) → t < n → b t ≡ false
      → (ks : List ℕ) (x : Name) → entry (frame_on f ks) x t ≡ absent
  none_off (instance d cs is) r q n b f run t l e [] x =
      all_none d n (scene (instance d cs is) b f) r t l run.0.names run.0.types q.1 e x
  none_off (instance d cs is) r q n b f run t l e (k ∷ ks) x =
      calls_off (instance d cs is) r (below_calls r) is q.2 n (scene (instance d cs is) b f) (calls_in f) run.1 t l
      (all_off d n (scene (instance d cs is) b f) r t l run.0.names run.0.types q.1 e) k ks x

  calls_off : (i : Instance) (r : Rank) (rs : ℕ → Rank) (is : Instances) → CallsRanked i r rs is → (n : ℕ) (s : Scene) (fs : Frames)
      → CallsRun n s is fs → (t : ℕ) → t < n → ((c : Clock) → is_on s c t ≡ false) → (k : ℕ) (ks : List ℕ) (x : Name)
      → entry (frame_on (frame_at fs k) ks) x t ≡ absent
  calls_off i r rs no_instances q n s no_frames run t l off k ks x = nothing ks x t
  calls_off i r rs no_instances q n s (with_frame f fs) run t l off k ks x = absurd run
  calls_off i r rs (with_instance c j is) q n s no_frames run t l off k ks x = absurd run
  calls_off i r rs (with_instance c j is) q n s (with_frame f fs) run t l off zero ks x =
      none_off j (rs 0) q.3 n (active s c) f run.1 t l (ap (λ z. z && condition_of s c.clock c.manner t) (off c.clock)) ks x
  calls_off i r rs (with_instance c j is) q n s (with_frame f fs) run t l off (suc k) ks x =
      calls_off i r (λ m. rs (suc m)) is q.4 n s fs run.2 t l off k ks x

-- ---- what is left in a squeezed frame

abbrev Rows : Type 0
Rows = List (Name × List Value)

abbrev squeezed_rows : Instants → Rows → Rows
squeezed_rows o xs = map (λ x. (x.0, kept o 0 x.1)) xs

found_left : (o : Instants) (x : Name) (t : ℕ) → o t ≡ true → (xs : Rows)
    → slice_index_or (unwrap_or (lookup (bytes_eq x) (squeezed_rows o xs)) []) (beats_before o t) absent
    ≡ slice_index_or (unwrap_or (lookup (bytes_eq x) xs) []) t absent
found_left o x t e [] = refl
found_left o x t e (y ∷ xs) = go (bytes_eq x y.0) (found_left o x t e xs)
  where
    go : (c : Bool) → slice_index_or (unwrap_or (lookup (bytes_eq x) (squeezed_rows o xs)) []) (beats_before o t) absent
        ≡ slice_index_or (unwrap_or (lookup (bytes_eq x) xs) []) t absent
        → slice_index_or (unwrap_or (cond c (Some (kept o 0 y.1)) (lookup (bytes_eq x) (squeezed_rows o xs))) []) (beats_before o t) absent
        ≡ slice_index_or (unwrap_or (cond c (Some y.1) (lookup (bytes_eq x) xs)) []) t absent
    go true r = kept_value o y.1 t e
    go false r = r

at_squeezed : (o : Instants) (fs : Frames) (k : ℕ) → frame_at (squeeze_each o fs) k ≡ squeeze o (frame_at fs k)
at_squeezed o no_frames k = refl
at_squeezed o (with_frame f fs) zero = refl
at_squeezed o (with_frame f fs) (suc k) = at_squeezed o fs k

entry_left : (o : Instants) (ks : List ℕ) (f : Frame) (x : Name) (t : ℕ) → o t ≡ true
    → entry (frame_on (squeeze o f) ks) x (beats_before o t) ≡ entry (frame_on f ks) x t
entry_left o [] (frame xs vs fs) x t e = found_left o x t e xs
entry_left o (k ∷ ks) (frame xs vs fs) x t e =
    ap (λ g. entry (frame_on g ks) x (beats_before o t)) (at_squeezed o fs k) ∙ entry_left o ks (frame_at fs k) x t e

first_left : (o : Instants) (ks : List ℕ) (f : Frame) (k : ℕ) → first_value (frame_on (squeeze o f) ks) k ≡ first_value (frame_on f ks) k
first_left o [] (frame xs vs fs) k = refl
first_left o (j ∷ ks) (frame xs vs fs) k = ap (λ g. first_value (frame_on g ks) k) (at_squeezed o fs j) ∙ first_left o ks (frame_at fs j) k

squeezed_of : (o : Instants) (n : ℕ) (b b' : Instants) (f : Frame) → AreKept o n b b'
    → ((ks : List ℕ) (x : Name) (t : ℕ) → t < n → o t ≡ false → entry (frame_on f ks) x t ≡ absent) → AreSqueezed o n b b' f (squeeze o f)
squeezed_of o n b b' f a none = record {
  beats = a;
  names = λ ks x t l e. entry_left o ks f x t e;
  none = none;
  firsts = λ ks k. first_left o ks f k;
}

-- ---- runs

keys_left : (o : Instants) (xs : Rows) → map (λ x. x.0) (squeezed_rows o xs) ≡ map (λ x. x.0) xs
keys_left o [] = refl
keys_left o (x ∷ xs) = ap (λ ys. x.0 ∷ ys) (keys_left o xs)

lengths_left : (o : Instants) (n : ℕ) (xs : Rows) → AllByRecursion (λ x. length x.1 ≡ n) xs
    → AllByRecursion (λ x. length x.1 ≡ beats_before o n) (squeezed_rows o xs)
lengths_left o n [] a = tt
lengths_left o n (x ∷ xs) a = (all_kept o x.1 ∙ ap (beats_before o) a.0, lengths_left o n xs a.1)

module _ (i : Instance) (o : Instants) (n : ℕ) (b b' : Instants) (f f' : Frame) (q : AreSqueezed o n b b' f f') where
  abbrev s : Scene
  s = scene i b f

  abbrev s' : Scene
  s' = scene i b' f'

  on_left : (c : Clock) → AreKept o n (is_on s c) (is_on s' c)
  on_left c = on_kept i (terms i).modes (modes_kept i) o n b b' f f' q c

  pub value_left : (e : Expression) (c : Clock) → IsKept o n (value s c e) (value s' c e)
  value_left e c = value_kept i (terms i).modes (modes_kept i) o n b b' f f' q e c

  names_left : (ys : List Name) (t : ℕ) → t < n → o t ≡ true → at_instant (beats_before o t) (entries f' ys) ≡ at_instant t (entries f ys)
  names_left ys = at_kept o n (entries f ys) (entries f' ys) (mapped_kept o n (entry f) (entry f') (q.names []) ys)

  types_left : (v : Variable) → ((t : ℕ) → t < n → is_typed v.sort (is_on s (clock_from v.clock) t) (entry f v.name.text t) ≡ true)
      → (u : ℕ) → u < beats_before o n → is_typed v.sort (is_on s' (clock_from v.clock) u) (entry f' v.name.text u) ≡ true
  types_left v h = over_kept o n (λ u. is_typed v.sort (is_on s' (clock_from v.clock) u) (entry f' v.name.text u) ≡ true)
      (λ t l e. rw ((on_left (clock_from v.clock)).same t l e, q.names [] v.name.text t l e) (h t l))

  balanced_left : (e : Equation) → ((t : ℕ) → t < n → IsBalanced s e t) → (u : ℕ) → u < beats_before o n → IsBalanced s' e u
  balanced_left e h = over_kept o n (IsBalanced s' e) (λ t l k. names_left e.names t l k ∙ h t l
      ∙ sym (at_kept o n (right_values s (clock_of_names (component_of i) e.names) e.right)
      (right_values s' (clock_of_names (component_of i) e.names) e.right)
      (right_kept i (terms i).modes (modes_kept i) o n b b' f f' q e.right (clock_of_names (component_of i) e.names)) t l k))

  condition_left : (c : Clock) (m : Manner) (t : ℕ) → t < n → o t ≡ true → condition_of s' c m (beats_before o t) ≡ condition_of s c m t
  condition_left c plain t l e = refl
  condition_left c (while_true a) t l e = ap (is true) (value_left a c t l e)
  condition_left c (as_import xs) t l e = refl

  active_left : (c : Site) → AreKept o n (active s c) (active s' c)
  active_left c = record {
    same = λ t l e. rw ((on_left c.clock).same t l e, condition_left c.clock c.manner t l e) refl;
    off = λ t l e. ap (λ z. z && condition_of s c.clock c.manner t) ((on_left c.clock).off t l e);
  }

  arguments_left : (c : Site) (t : ℕ) → t < n → o t ≡ true → (as_ : List Expression)
      → map (λ a. cond (active s' c (beats_before o t)) (value s' c.clock a (beats_before o t)) absent) as_
      ≡ map (λ a. cond (active s c t) (value s c.clock a t) absent) as_
  arguments_left c t l e [] = refl
  arguments_left c t l e (a ∷ as_) =
      let first : cond (active s' c (beats_before o t)) (value s' c.clock a (beats_before o t)) absent ≡ cond (active s c t) (value s c.clock a t) absent =
      ap (λ z. cond z (value s' c.clock a (beats_before o t)) absent) ((active_left c).same t l e)
      ∙ ap (λ v. cond (active s c t) v absent) (value_left a c.clock t l e) in
      ap (λ v. v ∷ map (λ a. cond (active s' c (beats_before o t)) (value s' c.clock a (beats_before o t)) absent) as_) first
      ∙ ap (λ vs. cond (active s c t) (value s c.clock a t) absent ∷ vs) (arguments_left c t l e as_)

  shared_left : (m : Manner) (k : Instance) (g g' : Frame) → ((x : Name) → IsKept o n (entry g x) (entry g' x))
      → ((t : ℕ) → t < n → SharesOutputs m s k g t) → (u : ℕ) → u < beats_before o n → SharesOutputs m s' k g' u
  shared_left plain k g g' h a u l = tt
  shared_left (while_true e) k g g' h a u l = tt
  shared_left (as_import xs) k g g' h a u l = over_kept o n (λ u. at_instant u (entries g' (outputs_of k)) ≡ at_instant u (entries f' xs))
      (λ t l e. at_kept o n (entries g (outputs_of k)) (entries g' (outputs_of k)) (mapped_kept o n (entry g) (entry g') h (outputs_of k)) t l e
      ∙ a t l ∙ sym (names_left xs t l e)) u l

  called_left : (c : Site) (k : Instance) (g g' : Frame) → ((x : Name) → IsKept o n (entry g x) (entry g' x)) → IsCalled n s c k g
      → IsCalled (beats_before o n) s' c k g'
  called_left c k g g' h a = record {
    inputs = over_kept o n
        (λ u. at_instant u (entries g' (inputs_of k)) ≡ map (λ a. cond (active s' c u) (value s' c.clock a u) absent) c.arguments)
        (λ t l e. at_kept o n (entries g (inputs_of k)) (entries g' (inputs_of k)) (mapped_kept o n (entry g) (entry g') h (inputs_of k)) t l e
        ∙ a.inputs t l ∙ sym (arguments_left c t l e c.arguments));
    outputs = shared_left c.manner k g g' h a.outputs;
  }

mutual
  run_left : (i : Instance) (o : Instants) (n : ℕ) (b b' : Instants) (f : Frame) → IsRun i n b f → AreSqueezed o n b b' f (squeeze o f)
      → IsRun i (beats_before o n) b' (squeeze o f)
  run_left (instance d cs is) o n b b' (frame xs vs fs) run q =
      let i : Instance = instance d cs is in
      let f : Frame = frame xs vs fs in (
        record {
          names = keys_left o xs ∙ run.0.names;
          lengths = lengths_left o n xs run.0.lengths;
          firsts = run.0.firsts;
          types = all_from (λ v. (t : ℕ) → t < n → is_typed v.sort (is_on (scene i b f) (clock_from v.clock) t) (entry f v.name.text t) ≡ true)
              (λ v. (u : ℕ) → u < beats_before o n → is_typed v.sort (is_on (scene i b' (squeeze o f)) (clock_from v.clock) u)
              (entry (squeeze o f) v.name.text u) ≡ true) (types_left i o n b b' f (squeeze o f) q) (variables d) run.0.types;
          equations = all_from (λ e. (t : ℕ) → t < n → IsBalanced (scene i b f) e t)
              (λ e. (u : ℕ) → u < beats_before o n → IsBalanced (scene i b' (squeeze o f)) e u) (balanced_left i o n b b' f (squeeze o f) q)
              (equations d) run.0.equations;
        },
        calls_left i o n b b' f (squeeze o f) q is fs run.1 (λ k ks. q.none (k ∷ ks)),
      )

  calls_left : (i : Instance) (o : Instants) (n : ℕ) (b b' : Instants) (f f' : Frame) → AreSqueezed o n b b' f f' → (is : Instances) (fs : Frames)
      → CallsRun n (scene i b f) is fs
      → ((k : ℕ) (ks : List ℕ) (x : Name) (t : ℕ) → t < n → o t ≡ false → entry (frame_on (frame_at fs k) ks) x t ≡ absent)
      → CallsRun (beats_before o n) (scene i b' f') is (squeeze_each o fs)
  calls_left i o n b b' f f' q no_instances no_frames run none = tt
  calls_left i o n b b' f f' q no_instances (with_frame g fs) run none = absurd run
  calls_left i o n b b' f f' q (with_instance c k is) no_frames run none = absurd run
  calls_left i o n b b' f f' q (with_instance c k is) (with_frame g fs) run none = (
    called_left i o n b b' f f' q c k g (squeeze o g) (λ x t l e. entry_left o [] g x t e) run.0,
    run_left k o n (active (scene i b f) c) (active (scene i b' f') c) g run.1
        (squeezed_of o n (active (scene i b f) c) (active (scene i b' f') c) g (active_left i o n b b' f f' q c) (none 0)),
    calls_left i o n b b' f f' q is fs run.2 (λ m. none (suc m)),
  )

-- ---- the law

pub squeezed : SqueezeLaw
squeezed p c d j n beat f run =
    let i : Instance = instance_of p d in
    let r : HasRank i = each_has_rank p c d j in
    let q : AreSqueezed beat n beat throughout f (squeeze beat f) = squeezed_of beat n beat throughout f
    record { same = λ t l e. sym e; off = λ t l e. e }
    (λ ks x t l e. none_off i r.rank r.ranked n beat f run t l e ks x) in
    (run_left i beat n beat throughout f run q, (λ e c t l h. value_left i beat n beat throughout f (squeeze beat f) q e c t l h))
