-- The states of a run are a path.
use Rattle.std.proofs.Common.{◌≡◌, ℕ, zero, suc, pred, ◌<◌, Bool, true, false, not, cond, ◌&&◌, List, [], ◌∷◌, refl, ap, ◌∙◌, sym, subst, arith, is_some}
use Rattle.std.specs.List.{AllByRecursion, list_all}
use Rattle.std.proofs.lemmas.Bool.{false≢true}
use Rattle.lus_tree.specs.declared.place.Sort.{Sort}
use Rattle.lus_tree.specs.declared.place.Sort.TheVariants.{Bool as Flags}
use Rattle.lus_tree.specs.Tree.{Name, Variable, Component}
use Rattle.lus_meaning.specs.Value.{flag, Instants, has_sort, is as equals}
use Rattle.lus_meaning.specs.Frame.{Frame, call_frame, calls_in}
use Rattle.lus_meaning.specs.Scene.{base, is_on, Site, Scene, instance, Manner, plain, while_true, as_import, Instance, Instances, no_instances, with_instance, instance_at, component_of, calls_of, call_instance}
use Rattle.lus_meaning.specs.Contract.{terms, scene}
use Rattle.lus_meaning.specs.Slots.{Slot, slots}
use Rattle.lus_meaning.specs.Run.{condition_of, IsRun, active, sort_of, sort_of_name}
use Rattle.lus_meaning.specs.Trace.{or_default}
use Rattle.lus_meaning.specs.Verdict.{throughout}
use Rattle.sys_terms.specs.Meaning.{Values, values_of, truth_of}
use Rattle.sys_meaning.specs.Slot.{Spot, Place, beat, named, memory, starting, so_far, held, own, place_of, spot_of}
use Rattle.sys_meaning.specs.Items.{Key}
use Rattle.sys_meaning.specs.Defaults.{site_of}
use Rattle.sys_meaning.specs.State.{kept_so_far, reading, remembered, still_starting, held_before, state_of}
use Rattle.sys_meaning.specs.Path.{Course}
use Rattle.sys_meaning.specs.Part.{a_flag, all_of, value_in}
use Rattle.sys_meaning.specs.Translate.{flag_at}
use Rattle.sys_meaning.specs.System.{contract_of, below_call, number_of, assumed, stage, has_so_far, becomes, so_far_next, so_far_first}
use Rattle.sys_meaning.specs.Law.{RunsToPaths}
use Rattle.sys_meaning.specs.WellTyped.{HasPlaceIn, IsKnown, HasSpot, HasPlace, OutputFits, OwnFits, TreeFits, CallsFit, count_of}
use Rattle.sys_meaning.proofs.Shown.{value_has}
use Rattle.sys_meaning.proofs.Rows.{OwnShown}
use Rattle.sys_meaning.proofs.Pools.{true_all}
use Rattle.sys_meaning.proofs.Balanced.{Picked, pick, join_all}
use Rattle.sys_meaning.proofs.Shows.{FlagReads, Reads, state_reads, call_reads}
use Rattle.sys_meaning.proofs.Owned.{own_shown, run_called, stream_typed, sorted_default, typed_default}
use Rattle.sys_meaning.proofs.Forward.{Contracts, modes_of, calls_of_run, own_fits, calls_fit, shown_here}
use Rattle.sys_meaning.proofs.Onward.{SoFar}
use Rattle.sys_meaning.proofs.RunPath.{run_is_path}
use Rattle.sys_meaning.proofs.Conditions.{flags_same, becomes_made}
use Rattle.sys_meaning.proofs.ContractStatements.{SameTerms, ImportsSame, terms_same, IsShownBy, modes_agreed, assumed_all, all_of_true, listed_true, so_far_then, kept_on}
use Rattle.std.proofs.Math.Path.{fun_ext}

pub fits_at : (Modes : Instance → Key → Type 0) (i : Instance) (is : Instances) (p j : ℕ) →
    CallsFit Modes i is p → j < count_of is → TreeFits Modes (instance_at is j)
fits_at Modes i no_instances p j w h = absurd (omega arith)
fits_at Modes i (with_instance c k is) p zero w h = w.1
fits_at Modes i (with_instance c k is) p (suc j) w h = fits_at Modes i is (suc p) j w.2 (omega arith)

pub fits_called : (Modes : Instance → Key → Type 0) (i : Instance) (k : ℕ) → 0 < k →
    pred k < count_of (calls_of i) → CallsFit Modes i (calls_of i) 0 → TreeFits Modes (call_instance i k)
fits_called Modes i zero c h w = absurd (omega arith)
fits_called Modes i (suc p) c h w = fits_at Modes i (calls_of i) 0 p w h

module _ (Modes : Instance → Key → Type 0) (contracts : Contracts Modes) (c : Course) (n : ℕ) where
  own_sorted : (i : Instance) (at : Place → ℕ) (b : Instants) (f : Frame) (run : IsRun i n b f)
      (fits : TreeFits Modes i) (reads : (t : ℕ) → t < n → Reads Modes i at b f t (c t)) (t : ℕ) → t < n →
      (m : Manner) (p : Spot) (z : Sort) → HasSpot i (Modes i) m p z → has_sort z (or_default z (reading i b f ([], p) t)) ≡ true
  own_sorted i at b f run fits reads t h m beat z w = rw w refl
  own_sorted i at b f run fits reads t h m (named x) z w =
      rw (sym w.2) (typed_default (sort_of_name i x) _ _ (stream_typed Modes i at c n b f (modes_of Modes i at) run
      (calls_of_run i n b f run) reads (own_fits Modes i fits) t h x w.1 w.0))
  own_sorted i at b f run fits reads t h m (memory k) z w =
      let sh : OwnShown (scene i b f) (Modes i) at (c t) (c t) t (modes_of Modes i at) =
      shown_here Modes contracts c n i at b f run fits reads t h (c t) in
      rw (sym w.3) (ap (λ o. has_sort (sort_of i w.1) (or_default (sort_of i w.1) (remembered
      (scene i b f) k o t))) w.2 ∙ sorted_default (sort_of i w.1) _ (rw (sym (sh.memories k w.0 w.1 w.2))
      (value_has (c t) (sort_of i w.1) (at ([], memory k)))))
  own_sorted i at b f run fits reads t h m (starting k) z w =
      rw w.2 (ap (λ o. has_sort Flags (or_default Flags (still_starting (scene i b f) o t))) w.1)
  own_sorted i at b f run fits reads t h m so_far z w = rw w.0 refl
  own_sorted i at b f run fits reads t h m (held k x) z w =
      rw (sym w.5) (by (pick x Good (component_of (call_instance i k)).outputs (join_all (OutputFits i (Modes i) k)
      (λ v. value_in (c t) v.sort (at ([], held k v.name.text)) ≡ held_before (scene i b f) k v.name.text t)
      (component_of (call_instance i k)).outputs w.3.call.named (sh.held k w.0 w.1 w.2 w.3)) w.4))
    where
      Good : Variable → Type 0
      Good v = OutputFits i (Modes i) k v
          × (value_in (c t) v.sort (at ([], held k v.name.text)) ≡ held_before (scene i b f) k v.name.text t)

      sh : OwnShown (scene i b f) (Modes i) at (c t) (c t) t (modes_of Modes i at)
      sh = shown_here Modes contracts c n i at b f run fits reads t h (c t)

      by : Picked x Good →
          has_sort (sort_of_name (call_instance i k) x) (or_default (sort_of_name (call_instance i k) x)
          (held_before (scene i b f) k x t)) ≡ true
      by r = subst (λ y. has_sort (sort_of_name (call_instance i k) y) (or_default (sort_of_name
          (call_instance i k) y) (held_before (scene i b f) k y t)) ≡ true) r.same
          (rw (r.holds.0.1) (sorted_default r.variable.sort (held_before (scene i b f) k r.variable.name.text t)
          (rw (sym r.holds.1) (value_has (c t) r.variable.sort (at ([], held k r.variable.name.text))))))

  -- what a place reads has its type, or is absent
  pub place_sorted : (ks : List ℕ) (i : Instance) (at : Place → ℕ) (b : Instants) (f : Frame) (run : IsRun i n b f)
      (fits : TreeFits Modes i) (reads : (t : ℕ) → t < n → Reads Modes i at b f t (c t)) (t : ℕ) → t < n →
      (m : Manner) (p : Spot) (z : Sort) → HasPlaceIn Modes m ks i p z → has_sort z (or_default z (reading i b f (ks, p) t)) ≡ true
  place_sorted [] i at b f run fits reads t h m p z w = own_sorted i at b f run fits reads t h m p z w
  place_sorted (k ∷ ks) i at b f run fits reads t h m p z w =
      place_sorted ks (call_instance i k) (below_call k at) (active (scene i b f) (site_of i k)) (call_frame f k)
      (run_called i n (scene i b f) (calls_in f) k w.0.counted w.0.listed (calls_of_run i n b f run))
      (fits_called Modes i k w.0.counted w.0.listed (calls_fit Modes i fits))
      (λ t h. call_reads Modes i at b f t (c t) (reads t h) k w.0) t h (site_of i k).manner p z w.1

-- ---- contracts

and_one : (a : Bool) → (a && true) ≡ a
and_one true = refl
and_one false = refl

-- an import is active where its parent is
pub import_beat : (s : Scene) (a : Site) (xs : List Name) → a.clock ≡ base → a.manner ≡ as_import xs → active s a ≡ s.beat
import_beat s a xs e d = fun_ext (λ t. ap (λ z. is_on s z t && condition_of s z a.manner t) e
    ∙ ap (λ m. s.beat t && condition_of s base m t) d ∙ and_one (s.beat t))

-- of a run that the states read, the contract's items are what their formulas say, and those of the contracts it imports
abbrev SameForward : Instance → Type 0
SameForward i = (at : Place → ℕ) (c : Course) (n : ℕ) (b : Instants) (f : Frame) → IsRun i n b f →
    ((t : ℕ) → t < n → Reads IsKnown i at b f t (c t)) → TreeFits IsKnown i → (t : ℕ) → t < n → (nx : Values) →
    SameTerms at (c t) nx b f t (terms i) (contract_of i)

abbrev ImportsForward : Instance → Type 0
ImportsForward i = (at : Place → ℕ) (c : Course) (n : ℕ) (b : Instants) (f : Frame) → IsRun i n b f →
    ((t : ℕ) → t < n → Reads IsKnown i at b f t (c t)) → TreeFits IsKnown i → (t : ℕ) → t < n → (nx : Values) →
    ImportsSame at (c t) nx b f t i

same_from : (i : Instance) → ImportsForward i → SameForward i
same_from i im at c n b f run reads fits t h nx =
    terms_same at (c t) nx b f t i (own_fits IsKnown i fits)
    (own_shown IsKnown i at c n b f (modes_of IsKnown i at) run (calls_of_run i n b f run) reads (own_fits IsKnown i fits)
    (λ t h nx sh. modes_agreed at (c t) nx b f t i (own_fits IsKnown i fits) sh (im at c n b f run reads fits t h nx)) t h nx)
    (im at c n b f run reads fits t h nx)

imports_from : (i : Instance) → ((k : ℕ) → 0 < k → pred k < count_of (calls_of i) → SameForward (call_instance i k)) → ImportsForward i
imports_from i h at c n b f run reads fits t l nx k im =
    subst (λ z. SameTerms (below_call k at) (c t) nx z (call_frame f k) t (terms (call_instance i k)) (contract_of (call_instance i k)))
    (import_beat (scene i b f) (site_of i k) im.outputs im.clock im.manner)
    (h k im.call.counted im.call.listed (below_call k at) c n (active (scene i b f) (site_of i k)) (call_frame f k)
    (run_called i n (scene i b f) (calls_in f) k im.call.counted im.call.listed (calls_of_run i n b f run))
    (λ t l. call_reads IsKnown i at b f t (c t) (reads t l) k im.call)
    (fits_called IsKnown i k im.call.counted im.call.listed (calls_fit IsKnown i fits)) t l nx)

by_number : (P : Instance → Type 0) (i : Instance) → ((p : ℕ) → p < count_of (calls_of i) → P (instance_at (calls_of i) p)) → (k : ℕ) → 0 < k →
    pred k < count_of (calls_of i) → P (call_instance i k)
by_number P i h zero c l = absurd (omega arith)
by_number P i h (suc p) c l = h p l

mutual
  pub imports_forward : (i : Instance) → ImportsForward i
  imports_forward (instance d cs is) = imports_from (instance d cs is) (by_number SameForward (instance d cs is) (each_forward is))

  each_forward : (is : Instances) (p : ℕ) → p < count_of is → SameForward (instance_at is p)
  each_forward no_instances p l = absurd (omega arith)
  each_forward (with_instance c k is) zero l = same_from k (imports_forward k)
  each_forward (with_instance c k is) (suc p) l = each_forward is p (omega arith)

pub same_forward : (i : Instance) → SameForward i
same_forward i = same_from i (imports_forward i)

pub known_contracts : Contracts IsKnown
known_contracts i at c n b f run reads fits t h nx sh =
    modes_agreed at (c t) nx b f t i (own_fits IsKnown i fits) sh (imports_forward i at c n b f run reads fits t h nx)

module _ (c : Course) (n : ℕ) (m : Manner) (i : Instance) (at : Place → ℕ) (b : Instants) (f : Frame)
    (fits : TreeFits IsKnown i) (run : IsRun i n b f)
    (reads : (t : ℕ) → t < n → Reads IsKnown i at b f t (c t)) (flags : FlagReads IsKnown m i at c n b f) where
  flag_next : (t : ℕ) → suc t < n → true_all (c t) (c (suc t)) (so_far_next (stage i at) m)
  flag_next t h = go (has_so_far m (component_of i)) refl
    where
      now : t < n
      now = omega arith

      shown : IsShownBy at (c t) (c (suc t)) b f t i
      shown = own_shown IsKnown i at c n b f (modes_of IsKnown i at) run (calls_of_run i n b f run) reads
          (own_fits IsKnown i fits) (λ t h nx sh. known_contracts i at c n b f run reads fits t h nx sh) t now (c (suc t))

      go : (o : Bool) → has_so_far m (component_of i) ≡ o →
          true_all (c t) (c (suc t)) (cond o (becomes (stage i at) Flags so_far (a_flag (so_far_then i at))
          ∷ []) [])
      go false e = tt
      go true e = (
        becomes_made (c t) (c (suc t)) (stage i at) Flags so_far (a_flag (so_far_then i at)) refl
            (ap flag (flags e (suc t) h
            ∙ sym (kept_on (kept_so_far i b f t) (b t) (truth_of (c t) (c (suc t)) (all_of (assumed i at)))
            (list_all (λ p. equals true (p.test b f t)) (terms i).assumes)
            (λ o. all_of_true (c t) (c (suc t)) (assumed i at)
            ∙ assumed_all at (c t) (c (suc t)) b f t i (own_fits IsKnown i fits) shown
            (imports_forward i at c n b f run reads fits t now (c (suc t))) o))
            ∙ ap (λ a. a && not (b t && not (truth_of (c t) (c (suc t)) (all_of (assumed i at)))))
            (sym (flags e t now))
            ∙ ap (λ o. (c t).flag_at (at (own so_far)) && not (o && not (truth_of (c t) (c (suc t)) (all_of
            (assumed i at))))) (sym (flags_same ((c t).flag_at (at (own beat))) (b t)
            (reads t now [] beat Flags refl refl))))),
        tt,
      )

  flag_first : 0 < n → true_all (c 0) (c 0) (so_far_first (stage i at) m)
  flag_first h = go (has_so_far m (component_of i)) refl
    where
      go : (o : Bool) → has_so_far m (component_of i) ≡ o →
          true_all (c 0) (c 0) (cond o (flag_at (stage i at) (own so_far) ∷ []) [])
      go false e = tt
      go true e = (flags e 0 h, tt)

pub all_so_far : (c : Course) (n : ℕ) → SoFar IsKnown c n
all_so_far c n = record {
  next = λ m i at b f fits run reads flags t h. flag_next c n m i at b f fits run reads flags t h;
  first = λ m i at b f fits run reads flags h. flag_first c n m i at b f fits run reads flags h;
}

-- the first direction
pub runs_to_paths : RunsToPaths
runs_to_paths i w n f t run h l = run_is_path IsKnown known_contracts i w n f run
    (λ t h. each t h (slots i) w.slots)
    (all_so_far c n) (λ t h a. listed_true (c t) (c t) (assumed i (number_of i))
    (assumed_all (number_of i) (c t) (c t) throughout f t i (own_fits IsKnown i w.tree)
    (shown_here IsKnown known_contracts c n i (number_of i) throughout f run w.tree
    (λ t h. state_reads IsKnown i w f t) t h (c t))
    (imports_forward i (number_of i) c n throughout f run (λ t h. state_reads IsKnown i w f t) w.tree t h (c t)) refl ∙ a)) t h l
  where
    c : Course
    c t = values_of (state_of i f t)

    each : (t : ℕ) → t < n → (qs : List Slot) →
        AllByRecursion (λ q. HasPlace IsKnown q.path i (spot_of q.cell) q.sort) qs →
        AllByRecursion (λ q. has_sort q.sort (or_default q.sort (reading i throughout f (place_of q) t)) ≡ true) qs
    each t h [] a = tt
    each t h (q ∷ qs) a = (
      place_sorted IsKnown known_contracts c n q.path i (number_of i) throughout f run w.tree
          (λ t h. state_reads IsKnown i w f t) t h plain (spot_of q.cell) q.sort a.0,
      each t h qs a.1,
    )
