-- Each path is the states of a run, its frame.
use Rattle.std.proofs.Common.{◌≡◌, ℕ, zero, suc, ◌<◌, Bool, true, false, ◌||◌, List, [], ◌∷◌, length, refl, ap, ◌∙◌, sym, arith, All, get_or}
use Rattle.std.specs.List.{AllByRecursion}
use Rattle.std.proofs.Common.{None}
use Rattle.std.specs.Map.{lookup}
use Rattle.std.specs.Str.{bytes_eq}
use Rattle.std.proofs.lemmas.Bool.{false≢true}
use Rattle.lus_tree.specs.Tree.{Name, Variable}
use Rattle.lus_meaning.specs.Scene.{base, plain, Instance, component_of, variables}
use Rattle.lus_meaning.specs.Frame.{empty_frame}
use Rattle.lus_meaning.specs.Contract.{scene}
use Rattle.lus_meaning.specs.Depends.{named_in}
use Rattle.lus_meaning.specs.Run.{IsRun, equations, inputs_of}
use Rattle.lus_meaning.specs.Verdict.{throughout}
use Rattle.lus_meaning.proofs.Unique.{same_bytes}
use Rattle.sys_terms.specs.declared.term.Entry.{Entry}
use Rattle.sys_terms.specs.View.{Formula}
use Rattle.sys_terms.specs.Meaning.{values_of, truth_of}
use Rattle.sys_terms.specs.Paths.{AreTrueOver, AreJoined, IsPath, BeginsWith}
use Rattle.sys_terms.specs.View as terms
use Rattle.sys_meaning.specs.Slot.{beat, own}
use Rattle.sys_meaning.specs.Path.{Course, course_of, frame_of_path}
use Rattle.sys_meaning.specs.Translate.{present}
use Rattle.sys_meaning.specs.System.{stage, equation_sources, number_of, system_of, clock_of_variable}
use Rattle.sys_meaning.specs.Law.{TreeDistinct}
use Rattle.sys_meaning.specs.WellTyped.{IsKnown, IsNameOn, clock_here, StreamFits, WellTyped}
use Rattle.sys_meaning.proofs.Pools.{true_all}
use Rattle.sys_meaning.proofs.Offs.{names_off, present_same}
use Rattle.sys_meaning.proofs.Forward.{own_fits}
use Rattle.sys_meaning.proofs.Backward.{TreeMeets, tree_meets, own_meets}
use Rattle.sys_meaning.proofs.Runs.{Offs, run_by}

pub from_places : {A : Type 0} (P : A → Type 0) (xs : List A) → All P xs → AllByRecursion P xs
from_places P [] a = tt
from_places P (x ∷ xs) a = (a 0 x (omega arith), from_places P xs (λ k d h. a (suc k) d (omega arith)))

named_one : (P : Name → Type 0) (x : Name) (xs : List Name) → AllByRecursion P xs → named_in x xs ≡ true → P x
named_one P x [] a h = absurd (false≢true h)
named_one P x (y ∷ xs) a h = by (bytes_eq x y) refl h (named_one P x xs a.1)
  where
    by : (b : Bool) → bytes_eq x y ≡ b → (b || named_in x xs) ≡ true → (named_in x xs ≡ true → P x) → P x
    by true e k r = rw (same_bytes x y e) a.0
    by false e k r = r k

joined_at : (i : Instance) (states : List (List Entry)) → AreJoined (system_of i) states → (t : ℕ) →
    suc t < length states → AreTrueOver (system_of i).next (get_or states t []) (get_or states (suc t) [])
joined_at i [] a t h = absurd (omega arith)
joined_at i (x ∷ []) a t h = absurd (omega arith)
joined_at i (x ∷ y ∷ rest) a zero h = a.0
joined_at i (x ∷ y ∷ rest) a (suc t) h = joined_at i (y ∷ rest) a.1 t (omega arith)

module _ (i : Instance) (w : WellTyped IsKnown i) (states : List (List Entry)) (path : IsPath
    (system_of i) states) where
  abbrev pub c : Course
  c = course_of states

  abbrev pub n : ℕ
  n = length states

  here_all : (t : ℕ) → t < n → true_all (c t) (c t) (system_of i).here
  here_all t h = from_places (λ f. truth_of (c t) (c t) f ≡ true) (system_of i).here (path.loose.each t [] h).here

  next_all : (t : ℕ) → suc t < n → true_all (c t) (c (suc t)) (system_of i).next
  next_all t h = from_places (λ f. truth_of (c t) (c (suc t)) f ≡ true) (system_of i).next
      (joined_at i states path.loose.joined t h)

  first_all : 0 < n → true_all (c 0) (c 0) (system_of i).first
  first_all h = by states h path.first
    where
      by : (xs : List (List Entry)) → 0 < length xs → BeginsWith (system_of i).first xs →
          true_all (values_of (get_or xs 0 [])) (values_of (get_or xs 0 [])) (system_of i).first
      by [] h a = absurd (omega arith)
      by (x ∷ xs) h a = from_places (λ f. truth_of (values_of x) (values_of x) f ≡ true) (system_of i).first a

  abbrev pub start : Formula
  start = terms.flag record { number = number_of i (own beat); next = false }

  pub path_meets : TreeMeets c n plain i (number_of i) start []
  path_meets = tree_meets c n plain i (number_of i) start [] here_all next_all first_all

  pub begins : (t : ℕ) → t < n → (c t).flag_at (number_of i (own beat)) ≡ true
  begins t h = ((own_meets c n plain i (number_of i) start [] path_meets).runs t h).0

  pub path_offs : Offs i (number_of i) c n
  path_offs t h x d e o =
      names_off (scene i throughout empty_frame) (IsKnown i) (number_of i) (stage i (number_of i)).modes (c t)
      (c t) [] tt (own_fits IsKnown i w.tree) ((own_meets c n plain i
      (number_of i) start [] path_meets).names t h) inputs_on x d e
      (present_same (c t) (c t) i (number_of i) (stage i (number_of i)).modes [] (length (variables
      (component_of i))) (clock_here i (IsKnown i) x) ∙ o)
    where
      inputs_on : (v : Variable) → StreamFits i (IsKnown i) v →
          lookup (bytes_eq v.name.text) (equation_sources (stage i (number_of i)) (equations
          (component_of i))) ≡ None → named_in v.name.text (inputs_of i) ≡ true →
          truth_of (c t) (c t) (present (stage i (number_of i)) (clock_of_variable v)) ≡ true
      inputs_on v f q input =
          ap (λ k. truth_of (c t) (c t) (present (stage i (number_of i)) k)) (sym f.name.clock ∙ (named_one
          (IsNameOn i (IsKnown i) base) v.name.text (inputs_of i) w.main_inputs input).clock) ∙ begins t h

  -- the frame of a path is a run
  pub path_is_run : TreeDistinct i (number_of i) [] → IsRun i n throughout (frame_of_path i states)
  path_is_run distinct =
      run_by i (number_of i) c n throughout plain start [] w.tree path_meets distinct begins path_offs
