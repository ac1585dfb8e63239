-- Each name of a frame is given once: some choices of no instant show it. And a declaration has a run of an instant.
use Rattle.std.proofs.Common.{◌≡◌, ℕ, zero, suc, pred, ◌<◌, Bool, true, false, ◌||◌, List, [], ◌∷◌, ◌++◌, map, refl, ap, ◌∙◌, sym, subst, arith, Some, unwrap_or, slice_index_or}
use Rattle.std.specs.Prelude.{pos, Contains}
use Rattle.std.specs.List.{AllByRecursion}
use Rattle.std.specs.Map.{lookup}
use Rattle.std.specs.Str.{bytes_eq}
use Rattle.std.proofs.lemmas.Bool.{true≢false, false≢true}
use Rattle.lus_tree.specs.declared.place.Sort.{Sort}
use Rattle.lus_tree.specs.declared.place.Sort.TheVariants.{Bool as Flags, Int as Numbers}
use Rattle.lus_tree.specs.Tree.{Name, Variable, Component, Program}
use Rattle.lus_meaning.specs.Value.{Value, absent, flag, whole, has_sort, Instants}
use Rattle.lus_meaning.specs.Frame.{Frame, Frames, frame, no_frames, with_frame, frame_at, call_frame, entry}
use Rattle.lus_meaning.specs.Scene.{Instance, Instances, instance, no_instances, with_instance, instance_at, component_of, calls_of, call_instance, variables}
use Rattle.lus_meaning.specs.Contract.{scene}
use Rattle.lus_meaning.specs.Run.{IsRun, have_sorts, first_sorts, active}
use Rattle.lus_meaning.specs.Depends.{named_in, from_caller, left_names}
use Rattle.lus_meaning.specs.Choices.{ChoicesFrom, CallsFit}
use Rattle.lus_meaning.specs.Verdict.{throughout}
use Rattle.lus_meaning.specs.WellMade.{AreDistinct, IsWellMade, CallsWellMade}
use Rattle.lus_meaning.specs.Program.{instance_of}
use Rattle.lus_meaning.specs.ClockFaults.{components}
use Rattle.lus_meaning.specs.Refusals.{IsChecked}
use Rattle.lus_meaning.proofs.Exists.{self_bytes}
use Rattle.lus_meaning.proofs.Lists.{all_from}
use Rattle.lus_meaning.proofs.Unique.{same_bytes}
use Rattle.clock_laws.proofs.Made.{each_well_made}
use Rattle.run_laws.proofs.OneRun.{one_run}
use Rattle.sys_meaning.specs.Defaults.{site_of}
use Rattle.sys_meaning.specs.WellTyped as fits
use Rattle.sys_meaning.specs.WellTyped.{IsKnown, count_of, TreeFits}
use Rattle.sys_meaning.proofs.Cells.{everywhere}
use Rattle.path_laws.proofs.Main.{each_is_well_typed}
use Rattle.lus_evaluation.specs.Past.{scene_on}
use Rattle.evaluation_laws.specs.Rows.{AreCalls}
use Rattle.order_laws.specs.Rows.{place_there}

abbrev of_sort : Sort → Value
of_sort Flags = flag true
of_sort Numbers = whole (pos 0)

of_sorts : (ss : List Sort) → have_sorts ss (map of_sort ss) ≡ true
of_sorts [] = refl
of_sorts (Flags ∷ ss) = of_sorts ss
of_sorts (Numbers ∷ ss) = of_sorts ss

abbrev mutual
  some_frame : Instance → Frame
  some_frame (instance d cs is) = frame [] (map of_sort (first_sorts (instance d cs is))) (some_frames is)

  some_frames : Instances → Frames
  some_frames no_instances = no_frames
  some_frames (with_instance c k is) = with_frame (some_frame k) (some_frames is)

no_instant : (t : ℕ) → t < 0 → ⊥
no_instant t l = omega (arith, l)

mutual
  some_fit : (i : Instance) (names : List Name) → ChoicesFrom i names 0 (some_frame i)
  some_fit (instance d cs is) names =
      (of_sorts (first_sorts (instance d cs is)), everywhere _ (λ v q t l. absurd (no_instant t l)) (variables d), calls_some_fit is)

  calls_some_fit : (is : Instances) → CallsFit is 0 (frame_at (some_frames is))
  calls_some_fit no_instances = tt
  calls_some_fit (with_instance c k is) = (some_fit k (from_caller c k), calls_some_fit is)

-- ---- along a way of calls

distinct_right : (xs ys : List Name) → AreDistinct (xs ++ ys) → AreDistinct ys
distinct_right [] ys d = d
distinct_right (x ∷ xs) ys d = distinct_right xs ys d.1

-- some names that a caller gives, and a frame, of which an instance is well made
record Made (i : Instance) : Type 0 where
  pub names : List Name
  pub frame : Frame
  pub made : IsWellMade i names frame

made_at : (is : Instances) (g : ℕ → Frame) (p : ℕ) → p < count_of is → CallsWellMade is g → Made (instance_at is p)
made_at no_instances g p l a = absurd (omega (arith, l))
made_at (with_instance c k is) g zero l a = record { names = from_caller c k; frame = g 0; made = a.2 }
made_at (with_instance c k is) g (suc p) l a = made_at is (λ j. g (suc j)) p (omega (arith, l)) a.3

calls_made : (i : Instance) → Made i → (k : ℕ) → 0 < k → pred k < count_of (calls_of i) → Made (call_instance i k)
calls_made (instance d cs is) m zero c l = absurd (omega (arith, c))
calls_made (instance d cs is) m (suc k) c l = made_at is _ k l m.made.4

own_once : (i : Instance) → Made i → AreDistinct (left_names (component_of i))
own_once (instance d cs is) m = distinct_right m.names (left_names d) m.made.0

along : (w : List ℕ) (i : Instance) (b : Instants) (f : Frame) → Made i → AreCalls i w → AreDistinct (left_names (component_of (scene_on w i b f).place))
along [] i b f m a = own_once i m
along (k ∷ w) i b f m a =
    along w (call_instance i k) (active (scene i b f) (site_of i k)) (call_frame f k) (calls_made i m k a.0 a.1) a.2

pub given_once : (p : Program) → IsChecked p → (n : Component) → Contains (components p) n → (f : Frame) (w : List ℕ) → AreCalls (instance_of p n) w →
    AreDistinct (left_names (component_of (place_there (instance_of p n) f w)))
given_once p c n j f w a =
    along w (instance_of p n) throughout f record {
      names = [];
      frame = some_frame (instance_of p n);
      made = each_well_made p c n j 0 (some_frame (instance_of p n)) (some_fit (instance_of p n) []);
    } a

-- ---- a run of one instant

sort_fits : (z : Sort) → has_sort z (of_sort z) ≡ true
sort_fits Flags = refl
sort_fits Numbers = refl

abbrev listed_name : Variable → Name × List Value
listed_name v = (v.name.text, of_sort v.sort ∷ [])

abbrev Finds : List Variable → Variable → Type 0
Finds vs v = lookup (bytes_eq v.name.text) (map listed_name vs) ≡ Some (of_sort v.sort ∷ [])

finds_later : (u : Variable) (vs ws : List Variable) → named_in u.name.text (map (λ v. v.name.text) ws) ≡ false → AllByRecursion (Finds vs) ws →
    AllByRecursion (Finds (u ∷ vs)) ws
finds_later u vs [] e a = tt
finds_later u vs (k ∷ ws) e a =
    (go (bytes_eq u.name.text k.name.text) refl (bytes_eq k.name.text u.name.text) refl e, finds_later u vs ws (rest (bytes_eq u.name.text k.name.text) e) a.1)
  where
    rest : (c : Bool) → (c || named_in u.name.text (map (λ v. v.name.text) ws)) ≡ false → named_in u.name.text (map (λ v. v.name.text) ws) ≡ false
    rest true h = absurd (true≢false h)
    rest false h = h

    go : (c : Bool) → bytes_eq u.name.text k.name.text ≡ c → (g : Bool) → bytes_eq k.name.text u.name.text ≡ g →
        (c || named_in u.name.text (map (λ v. v.name.text) ws)) ≡ false → Finds (u ∷ vs) k
    go true m g l h = absurd (true≢false h)
    go false m true l h =
        absurd (false≢true (sym m ∙ ap (bytes_eq u.name.text) (same_bytes k.name.text u.name.text l) ∙ self_bytes u.name.text))
    go false m false l h = rw l a.0

all_found : (vs : List Variable) → AreDistinct (map (λ v. v.name.text) vs) → AllByRecursion (Finds vs) vs
all_found [] d = tt
all_found (v ∷ vs) d = (rw (self_bytes v.name.text) refl, finds_later v vs vs d.0 (all_found vs d.1))

abbrev mutual
  an_instant : Instance → Frame
  an_instant (instance d cs is) = frame (map listed_name (variables d)) (map of_sort (first_sorts (instance d cs is))) (an_instant_each is)

  an_instant_each : Instances → Frames
  an_instant_each no_instances = no_frames
  an_instant_each (with_instance c k is) = with_frame (an_instant k) (an_instant_each is)

mutual
  instant_fits : (i : Instance) → TreeFits IsKnown i → (names : List Name) → ChoicesFrom i names 1 (an_instant i)
  instant_fits (instance d cs is) t names = (
    of_sorts (first_sorts (instance d cs is)),
    all_from (Finds (variables d)) _ (λ v e q t l. here v e t l) (variables d) (all_found (variables d) t.0.once),
    each_fits (instance d cs is) is 0 t.1,
  )
    where
      zero_alone : (v : Variable) (t : ℕ) → t < 1 → has_sort v.sort (slice_index_or (of_sort v.sort ∷ []) t absent) ≡ true
      zero_alone v zero l = sort_fits v.sort
      zero_alone v (suc t) l = absurd (omega (arith, l))

      here : (v : Variable) → Finds (variables d) v → (t : ℕ) → t < 1 → has_sort v.sort (entry (an_instant (instance d cs is)) v.name.text t) ≡ true
      here v e t l = subst (λ o. has_sort v.sort (slice_index_or (unwrap_or o []) t absent) ≡ true) (sym e) (zero_alone v t l)

  each_fits : (i : Instance) (is : Instances) (p : ℕ) → fits.CallsFit IsKnown i is p → CallsFit is 1 (frame_at (an_instant_each is))
  each_fits i no_instances p t = tt
  each_fits i (with_instance c k is) p t = (instant_fits k t.1 (from_caller c k), each_fits i is (suc p) t.2)

pub some_run : (p : Program) → IsChecked p → (n : Component) → Contains (components p) n → (f : Frame) × IsRun (instance_of p n) 1 throughout f
some_run p c n j =
    let i : Instance = instance_of p n in
    let r = one_run p c n j 1 throughout (an_instant i) (instant_fits i (each_is_well_typed p c n j).0.tree []) in (r.0, r.1.0)
