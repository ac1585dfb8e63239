-- A run takes what the lines of a trace say exactly where it makes their choices.
use Rattle.std.proofs.Common.{◌≡◌, ℕ, suc, pred, ◌<◌, ◌+◌, Bool, true, false, List, [], ◌∷◌, ◌++◌, length, refl, sym, ap, ◌∙◌, arith, slice_index_or}
use Rattle.std.specs.List.{AllByRecursion}
use Rattle.std.proofs.lemmas.Bool.{false≢true}
use Rattle.lus_tree.specs.declared.place.Sort.{Sort}
use Rattle.lus_tree.specs.Tree.{Name, Variable, Component}
use Rattle.lus_meaning.specs.Value.{Value, absent, Instants, has_sort, is_absent}
use Rattle.lus_meaning.specs.Frame.{Frame, Frames, no_frames, with_frame, entry, first_value, frame_at, calls_in}
use Rattle.lus_meaning.specs.Scene.{Scene, Site, Instance, Instances, instance, no_instances, with_instance, component_of, clock_from, variables, is_on}
use Rattle.lus_meaning.specs.Contract.{scene}
use Rattle.lus_meaning.specs.Run.{sort_of_name, first_sorts, is_typed, active, IsRun, CallsRun}
use Rattle.lus_meaning.specs.Depends.{from_caller, SameChoices, CallsChoices}
use Rattle.lus_meaning.specs.Trace.{BareLine, free_in, TakesFirsts, TakesFrom, TakesBelow}
use Rattle.lus_meaning.proofs.Choices.{same_firsts, is_present}
use Rattle.lus_meaning.proofs.Lists.{all_from_both, all_from_three}
use Rattle.lus_meaning.proofs.Typed.{on_has}
use Rattle.frame_laws.proofs.Free.{IsOpen, AreFree, of_open, of_free, IsBare, called_free}
use Rattle.frame_laws.proofs.Along.{IsAlong, CallsAlong}
use Rattle.frame_laws.proofs.Listed.{SaysTyped, listed_stream, listed_firsts, listed_frame, listed_calls, listed_entries, stream_typed}

-- the names of a call's frame that are free are those that neither an equation nor its caller gives
call_free : (top : Instance) (path : List ℕ) (k : Instance) → IsAlong top path k → (c : Site) → IsBare c.manner (component_of k)
    → AreFree (component_of k) (from_caller c k) (free_in c.manner (component_of k))
call_free top path (instance d cs is) a c h = called_free d a.1 c.manner h

-- ---- a run of the listed choices takes what the lines say

first_taken : (ls : List BareLine) (path : List ℕ) (f : Frame) (k : ℕ) (ss : List Sort)
    → ((t j : ℕ) → t < length ss → j ≡ t + k → first_value f j ≡ slice_index_or (listed_firsts ls path k ss) t absent) → TakesFirsts ls path f k ss
first_taken ls path f k [] h = tt
first_taken ls path f k (s ∷ ss) h =
    (h 0 k (omega arith) (omega arith), first_taken ls path f (suc k) ss (λ t j l e. h (suc t) j (omega arith) (omega arith)))

module _ (top : Instance) (ls : List BareLine) (typed : SaysTyped top ls) (n : ℕ) where
  abbrev IsTakenAt : List ℕ → Scene → Variable → Type 0
  IsTakenAt path s v = (t : ℕ) → t < n → is_on s (clock_from v.clock) t ≡ true → entry s.frame v.name.text t ≡ listed_stream ls path v t

  mutual
    pub takes_listed : (path : List ℕ) (i : Instance) → IsAlong top path i → (given : List Name) (free : List Variable)
        → AreFree (component_of i) given free → (b : Instants) (f : Frame) → IsRun i n b f → SameChoices i given n f (listed_frame ls path n i)
        → TakesFrom ls path free i n b f
    takes_listed path (instance d cs is) a given free r b f run same = (
      of_free d given free r (IsTakenAt path s) all,
      first_taken ls path f 1 (first_sorts i) (λ t j l e. let q : j ≡ suc t = omega arith in ap (first_value f) q ∙ same.0 (suc t)),
      takes_calls path is a.3 s (calls_in f) run.1 same.2,
    )
      where
        i : Instance
        i = instance d cs is

        s : Scene
        s = scene (instance d cs is) b f

        here : Frame
        here = listed_frame ls path n (instance d cs is)

        entries : AllByRecursion (λ v. (t : ℕ) → t < n → entry here v.name.text t ≡ listed_stream ls path v t) (variables d)
        entries = listed_entries ls path n d (listed_firsts ls path 1 (first_sorts i)) (listed_calls ls path n is) a.1

        one : (v : Variable) → ((sort_of_name i v.name.text ≡ v.sort) × ((t : ℕ) → t < n → entry here v.name.text t ≡ listed_stream ls path v t))
            → ((t : ℕ) → t < n → is_typed v.sort (is_on s (clock_from v.clock) t) (entry f v.name.text t) ≡ true)
            → (IsOpen given d v → (t : ℕ) → t < n → is_absent (entry f v.name.text t) ≡ false → is_absent (entry here v.name.text t) ≡ false
            → entry f v.name.text t ≡ entry here v.name.text t) → IsOpen given d v → IsTakenAt path s v
        one v h q w o t l on =
            w o t l (is_present v.sort (entry f v.name.text t) (on_has v.sort (is_on s (clock_from v.clock) t) (entry f v.name.text t) (q t l) on))
            (is_present v.sort (entry here v.name.text t)
            (ap (has_sort v.sort) (h.1 t l) ∙ stream_typed top ls typed n path i a.0 v h.0 t)) ∙ h.1 t l

        all : AllByRecursion (λ v. IsOpen given d v → IsTakenAt path s v) (variables d)
        all = all_from_three
            (λ v. (sort_of_name i v.name.text ≡ v.sort) × ((t : ℕ) → t < n → entry here v.name.text t ≡ listed_stream ls path v t))
            (λ v. (t : ℕ) → t < n → is_typed v.sort (is_on s (clock_from v.clock) t) (entry f v.name.text t) ≡ true)
            (λ v. IsOpen given d v → (t : ℕ) → t < n → is_absent (entry f v.name.text t) ≡ false → is_absent (entry here v.name.text t) ≡ false
            → entry f v.name.text t ≡ entry here v.name.text t)
            (λ v. IsOpen given d v → IsTakenAt path s v) one (variables d)
            (all_from_both (λ v. sort_of_name i v.name.text ≡ v.sort)
            (λ v. (t : ℕ) → t < n → entry here v.name.text t ≡ listed_stream ls path v t)
            (λ v. (sort_of_name i v.name.text ≡ v.sort) × ((t : ℕ) → t < n → entry here v.name.text t ≡ listed_stream ls path v t))
            (λ v x y. (x, y)) (variables d) a.2 entries) run.0.types same.1

    takes_calls : (path : List ℕ) (is : Instances) → CallsAlong top path is → (s : Scene) (fs : Frames) → CallsRun n s is fs
        → CallsChoices is n (frame_at fs) (frame_at (listed_calls ls path n is)) → TakesBelow ls path s is n fs
    takes_calls path no_instances a s fs run same = tt
    takes_calls path (with_instance c k is) a s no_frames run same = absurd run
    takes_calls path (with_instance c k is) a s (with_frame f fs) run same = (
      takes_listed (path ++ c.number ∷ []) k a.1 (from_caller c k) (free_in c.manner (component_of k))
          (call_free top (path ++ c.number ∷ []) k a.1 c a.0) (active s c) f run.1 same.0,
      takes_calls path is a.2 s fs run.2 same.1,
    )

-- ---- two runs that take what the lines say make the same choices

on_where : (q : Sort) (on : Bool) (v : Value) → is_typed q on v ≡ true → is_absent v ≡ false → on ≡ true
on_where q true v h e = refl
on_where q false v h e = absurd (false≢true (sym e ∙ h))

module _ (top : Instance) (ls : List BareLine) (n : ℕ) where
  abbrev IsTakenIn : List ℕ → Scene → Variable → Type 0
  IsTakenIn path s v = (t : ℕ) → t < n → is_on s (clock_from v.clock) t ≡ true → entry s.frame v.name.text t ≡ listed_stream ls path v t

  abbrev IsPresentTaken : List ℕ → List Name → Component → Scene → Variable → Type 0
  IsPresentTaken path given d s v = IsOpen given d v → (t : ℕ) → t < n → is_absent (entry s.frame v.name.text t) ≡ false
      → entry s.frame v.name.text t ≡ listed_stream ls path v t

  mutual
    pub same_taken : (path : List ℕ) (i : Instance) → IsAlong top path i → (given : List Name) (free : List Variable)
        → AreFree (component_of i) given free → (b b' : Instants) (f g : Frame) → IsRun i n b f → IsRun i n b' g
        → TakesFrom ls path free i n b f → TakesFrom ls path free i n b' g → SameChoices i given n f g
    same_taken path (instance d cs is) a given free r b b' f g run run' takes takes' = (
      (λ k. ap (λ (v : List Value). slice_index_or v (pred k) absent)
          (same_firsts ls path f g (first_sorts i) run.0.firsts run'.0.firsts takes.1 takes'.1)),
      all_from_both (IsPresentTaken path given d s) (IsPresentTaken path given d s')
          (λ v. IsOpen given d v → (t : ℕ) → t < n → is_absent (entry f v.name.text t) ≡ false → is_absent (entry g v.name.text t) ≡ false
          → entry f v.name.text t ≡ entry g v.name.text t)
          (λ v x y o t l p q. x o t l p ∙ sym (y o t l q)) (variables d) (present s run.0.types takes.0) (present s' run'.0.types takes'.0),
      same_calls path is a.3 s s' (calls_in f) (calls_in g) run.1 run'.1 takes.2 takes'.2,
    )
      where
        i : Instance
        i = instance d cs is

        s : Scene
        s = scene (instance d cs is) b f

        s' : Scene
        s' = scene (instance d cs is) b' g

        present : (z : Scene)
            → AllByRecursion (λ v. (t : ℕ) → t < n → is_typed v.sort (is_on z (clock_from v.clock) t) (entry z.frame v.name.text t) ≡ true) (variables d)
            → AllByRecursion (IsTakenIn path z) free → AllByRecursion (IsPresentTaken path given d z) (variables d)
        present z types taken = all_from_both
            (λ v. (t : ℕ) → t < n → is_typed v.sort (is_on z (clock_from v.clock) t) (entry z.frame v.name.text t) ≡ true)
            (λ v. IsOpen given d v → IsTakenIn path z v) (IsPresentTaken path given d z)
            (λ v q w o t l p. w o t l (on_where v.sort (is_on z (clock_from v.clock) t) (entry z.frame v.name.text t) (q t l) p))
            (variables d) types (of_open d given free r (IsTakenIn path z) taken)

    same_calls : (path : List ℕ) (is : Instances) → CallsAlong top path is → (s s' : Scene) (fs gs : Frames) → CallsRun n s is fs
        → CallsRun n s' is gs → TakesBelow ls path s is n fs → TakesBelow ls path s' is n gs → CallsChoices is n (frame_at fs) (frame_at gs)
    same_calls path no_instances a s s' fs gs run run' takes takes' = tt
    same_calls path (with_instance c k is) a s s' no_frames gs run run' takes takes' = absurd run
    same_calls path (with_instance c k is) a s s' (with_frame f fs) no_frames run run' takes takes' = absurd run'
    same_calls path (with_instance c k is) a s s' (with_frame f fs) (with_frame g gs) run run' takes takes' = (
      same_taken (path ++ c.number ∷ []) k a.1 (from_caller c k) (free_in c.manner (component_of k))
          (call_free top (path ++ c.number ∷ []) k a.1 c a.0) (active s c) (active s' c) f g run.1 run'.1 takes.0 takes'.0,
      same_calls path is a.2 s s' fs gs run.2 run'.2 takes.1 takes'.1,
    )
