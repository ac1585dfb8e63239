-- What the states of a path are, at each place of the path's frame.
use Rattle.std.proofs.Common.{◌≡◌, ℕ, zero, suc, ◌<◌, ◌+◌, pred, Bool, true, not, cond, ◌&&◌, List, [], ◌∷◌, length, refl, ap, ◌∙◌, sym, subst, arith, is_some}
use Rattle.std.specs.List.{list_all}
use Rattle.lus_tree.specs.declared.place.Sort.{Sort}
use Rattle.lus_tree.specs.declared.place.Sort.TheVariants.{Bool as Flags}
use Rattle.lus_tree.specs.Tree.{Name, Variable, Component}
use Rattle.lus_meaning.specs.Value.{Value, flag, Instants, has_sort, is as equals}
use Rattle.lus_meaning.specs.Frame.{Frame}
use Rattle.lus_meaning.specs.Scene.{Manner, plain, while_true, as_import, Site, Scene, Instance, Instances, instance, component_of, call_instance, variables}
use Rattle.lus_meaning.specs.Contract.{terms, scene}
use Rattle.lus_meaning.specs.Run.{active, sort_of, sort_of_name}
use Rattle.lus_meaning.specs.Trace.{or_default}
use Rattle.sys_terms.specs.View.{Formula, same}
use Rattle.sys_terms.specs.Meaning.{Values, truth_of}
use Rattle.sys_meaning.specs.Slot.{Spot, Place, beat, named, memory, starting, so_far, held, own, in_call}
use Rattle.sys_meaning.specs.Items.{Known}
use Rattle.sys_meaning.specs.Defaults.{site_of}
use Rattle.sys_meaning.specs.State.{kept_so_far, own_reading, reading, reading_on, remembered, still_starting, held_before}
use Rattle.sys_meaning.specs.Part.{a_flag, all_of, value_in}
use Rattle.sys_meaning.specs.Path.{Course, frame_by}
use Rattle.sys_meaning.specs.Translate.{flag_at}
use Rattle.sys_meaning.specs.System.{assumed, below_call, stage, Sources, runs_where, from_call, has_so_far, becomes}
use Rattle.sys_meaning.specs.WellTyped.{HasPlaceIn, IsKnown, clock_here, OutputFits, IsCall, CallFits, TreeFits, HasSpot, HasPlace}
use Rattle.sys_meaning.proofs.Shown.{value_has}
use Rattle.sys_meaning.proofs.Conditions.{flags_same, becomes_gives}
use Rattle.sys_meaning.proofs.Pools.{true_all}
use Rattle.sys_meaning.proofs.ContractStatements.{all_of_true, assumed_all, so_far_then, kept_on}
use Rattle.sys_meaning.proofs.Rows.{OwnShown, as_it_is}
use Rattle.sys_meaning.proofs.Balanced.{Picked, pick, join_all}
use Rattle.sys_meaning.proofs.Forward.{modes_of}
use Rattle.sys_meaning.proofs.Offs.{present_same}
use Rattle.sys_meaning.proofs.Backward.{TreeMeets, own_meets, tree_own, call_offs, frame_called, meets_called, call_fits_called}
use Rattle.sys_meaning.proofs.Runs.{any_agree, imports_backward, Offs, any_shown, beat_of}

as_shown : (z : Sort) (v u : Value) → has_sort z v ≡ true → v ≡ u → v ≡ or_default z u
as_shown z v u h e = e ∙ sym (as_it_is z u (rw (sym e) h))

-- a variable of the frame's own
pub own_reads : (i : Instance) (at : Place → ℕ) (now next : Values) (b : Instants) (f : Frame) (t : ℕ)
    (modes : Known Formula) → OwnShown (scene i b f) (IsKnown i) at now next t modes →
    (m : Manner) → (has_so_far m (component_of i) ≡ true → now.flag_at (at (own so_far)) ≡ kept_so_far i b f t) →
    (p : Spot) (z : Sort) → HasSpot i (IsKnown i) m p z →
    value_in now z (at ([], p)) ≡ or_default z (own_reading i b f p t)
own_reads i at now next b f t modes sh m kept beat z w = rw w (ap flag sh.beats)
own_reads i at now next b f t modes sh m kept (named x) z w = rw (sym w.2) (sh.names x w.1 w.0)
own_reads i at now next b f t modes sh m kept (memory k) z w =
    rw (sym w.3) (as_shown (sort_of i w.1) _ _ (value_has now (sort_of i w.1) (at ([], memory k)))
    (sh.memories k w.0 w.1 w.2 ∙ sym (ap (λ o. remembered (scene i b f) k o t) w.2)))
own_reads i at now next b f t modes sh m kept (starting k) z w =
    rw w.2 (ap flag (sh.starts k w.0 w.1)
    ∙ sym (ap (λ o. or_default Flags (still_starting (scene i b f) o t)) w.1))
own_reads i at now next b f t modes sh m kept so_far z w = rw w.0 (ap flag (kept w.1))
own_reads i at now next b f t modes sh m kept (held k x) z w =
    rw (sym w.5) (by (pick x Good (component_of (call_instance i k)).outputs (join_all (OutputFits i (IsKnown i) k)
    (λ v. value_in now v.sort (at ([], held k v.name.text)) ≡ held_before (scene i b f) k v.name.text t)
    (component_of (call_instance i k)).outputs w.3.call.named (sh.held k w.0 w.1 w.2 w.3)) w.4))
  where
    Good : Variable → Type 0
    Good v = OutputFits i (IsKnown i) k v
        × (value_in now v.sort (at ([], held k v.name.text)) ≡ held_before (scene i b f) k v.name.text t)

    by : Picked x Good →
        value_in now (sort_of_name (call_instance i k) x) (at ([], held k x))
        ≡ or_default (sort_of_name (call_instance i k) x) (held_before (scene i b f) k x t)
    by r = subst (λ y. value_in now (sort_of_name (call_instance i k) y) (at ([], held k y))
        ≡ or_default (sort_of_name (call_instance i k) y) (held_before (scene i b f) k y t)) r.same
        (rw r.holds.0.1 (as_shown r.variable.sort _ _ (value_has now r.variable.sort
        (at ([], held k r.variable.name.text))) r.holds.1))

-- ---- a call of a path's frame

module _ (d : Component) (cs : List (Name × Value)) (is : Instances) (at : Place → ℕ) (c : Course) (n : ℕ)
    (b : Instants) (m : Manner) (act : Formula) (given : Sources) (fits : TreeFits IsKnown (instance d cs is))
    (meets : TreeMeets c n m (instance d cs is) at act given)
    (beats : (t : ℕ) → t < n → (c t).flag_at (at (own beat)) ≡ b t) (offs : Offs (instance d cs is) at c n)
    (k : ℕ) (called : IsCall (instance d cs is) (IsKnown (instance d cs is)) k) where
  abbrev pub i : Instance
  i = instance d cs is

  abbrev pub s : Scene
  s = scene i b (frame_by i at c n)

  abbrev pub a : Site
  a = site_of i k

  abbrev pub callee : Instance
  callee = call_instance i k

  abbrev pub below : Place → ℕ
  below = below_call a.number at

  abbrev pub runs_here : Formula
  runs_here = same (flag_at (stage i at) (in_call a.number (own beat))) (runs_where (stage i at) a a.manner)

  abbrev pub passed : Sources
  passed = from_call (stage i at) a callee

  pub site_fits : CallFits IsKnown i a callee (0 + pred k)
  site_fits = (call_fits_called IsKnown i k called.counted called.listed fits.1).0

  pub callee_fits : TreeFits IsKnown callee
  callee_fits = (call_fits_called IsKnown i k called.counted called.listed fits.1).1

  pub callee_meets : TreeMeets c n a.manner callee below runs_here passed
  callee_meets = (meets_called c n i (stage i at) k called.counted called.listed meets.1).2

  pub callee_beats : (t : ℕ) → t < n → (c t).flag_at (below (own beat)) ≡ active s a t
  callee_beats t h = beat_of i at c n b t (any_shown i at c n b m act given fits meets beats offs t h (c t))
      (any_agree i at c n b m act given fits meets beats offs t h (c t) (any_shown i at c n b m act given fits meets beats offs t h (c t))) a callee
      (0 + pred k) site_fits ((own_meets c n a.manner callee below runs_here passed callee_meets).runs t h).0

  pub callee_offs : Offs callee below c n
  callee_offs t h x v e o = call_offs IsKnown i at (c t) (c t) (stage i at).modes (stage callee below).modes a callee
      (0 + pred k) site_fits (tree_own IsKnown callee callee_fits) below
      ((own_meets c n a.manner callee below runs_here passed callee_meets).names t h) x v e
      (present_same (c t) (c t) callee below (stage callee below).modes [] (length (variables
      (component_of callee))) (clock_here callee (λ key. ⊥) x) ∙ o)

-- the flag of the assumptions says whether they were true so far
so_far_is : (i : Instance) (at : Place → ℕ) (c : Course) (n : ℕ) (b : Instants) (m : Manner) (act : Formula)
    (given : Sources) → TreeFits IsKnown i → TreeMeets c n m i at act given →
    ((t : ℕ) → t < n → (c t).flag_at (at (own beat)) ≡ b t) → Offs i at c n →
    has_so_far m (component_of i) ≡ true → (t : ℕ) → t < n →
    (c t).flag_at (at (own so_far)) ≡ kept_so_far i b (frame_by i at c n) t
so_far_is i at c n b m act given fits meets beats offs k zero h =
    (subst (λ o. true_all (c 0) (c 0) (cond o (flag_at (stage i at) (own so_far) ∷ []) [])) k
    ((own_meets c n m i at act given meets).so_far_begins h)).0
so_far_is i at c n b m act given fits meets beats offs k (suc t) h =
    let now : t < n = omega arith in
    let f : Frame = frame_by i at c n in
    let z : Bool = truth_of (c t) (c (suc t)) (all_of (assumed i at)) in
    let l : Bool = list_all (λ p. equals true (p.test b f t)) (terms i).assumes in
    let past : (c t).flag_at (at (own so_far)) ≡ kept_so_far i b f t =
    so_far_is i at c n b m act given fits meets beats offs k t now in
    flags_same ((c (suc t)).flag_at (at (own so_far))) ((c t).flag_at (at (own so_far))
    && not ((c t).flag_at (at (own beat)) && not z))
    (becomes_gives (c t) (c (suc t)) (stage i at) Flags so_far (a_flag (so_far_then i at)) refl
    (subst (λ o. true_all (c t) (c (suc t)) (cond o (becomes (stage i at) Flags so_far (a_flag (so_far_then i at))
    ∷ []) [])) k ((own_meets c n m i at act given meets).so_far t h)).0)
    ∙ ap (λ a. a && not ((c t).flag_at (at (own beat)) && not z)) past
    ∙ ap (λ o. kept_so_far i b f t && not (o && not z)) (beats t now)
    ∙ kept_on (kept_so_far i b f t) (b t) z l
    (λ o. all_of_true (c t) (c (suc t)) (assumed i at)
    ∙ assumed_all at (c t) (c (suc t)) b f t i (tree_own IsKnown i fits)
    (any_shown i at c n b m act given fits meets beats offs t now (c (suc t)))
    (imports_backward i at c n b m act given fits meets beats offs t now (c (suc t))) o)

-- each variable is what the path's frame has there, absent as 0 or false
pub path_reads : (ks : List ℕ) (i : Instance) (at : Place → ℕ) (c : Course) (n : ℕ) (b : Instants) (m : Manner)
    (act : Formula) (given : Sources) → TreeFits IsKnown i → TreeMeets c n m i at act given →
    ((t : ℕ) → t < n → (c t).flag_at (at (own beat)) ≡ b t) → Offs i at c n →
    (t : ℕ) → t < n → (p : Spot) (z : Sort) → HasPlaceIn IsKnown m ks i p z →
    value_in (c t) z (at (ks, p)) ≡ or_default z (reading i b (frame_by i at c n) (ks, p) t)
path_reads [] i at c n b m act given fits meets beats offs t h p z w =
    own_reads i at (c t) (c t) b (frame_by i at c n) t (modes_of IsKnown i at)
    (any_shown i at c n b m act given fits meets beats offs t h (c t))
    m (λ e. so_far_is i at c n b m act given fits meets beats offs e t h) p z w
path_reads (k ∷ ks) (instance d cs is) at c n b m act given fits meets beats offs t h p z w =
    let i : Instance = instance d cs is in
    let a : Site = site_of i k in
    let callee : Instance = call_instance i k in
    let on : Instants = active (scene i b (frame_by i at c n)) a in
    ap (λ j. value_in (c t) z (at (j ∷ ks, p))) (sym w.0.number)
    ∙ path_reads ks callee (below_call a.number at) c n on a.manner
    (runs_here d cs is at c n b m act given fits meets beats offs k w.0)
    (passed d cs is at c n b m act given fits meets beats offs k w.0)
    (callee_fits d cs is at c n b m act given fits meets beats offs k w.0)
    (callee_meets d cs is at c n b m act given fits meets beats offs k w.0)
    (callee_beats d cs is at c n b m act given fits meets beats offs k w.0)
    (callee_offs d cs is at c n b m act given fits meets beats offs k w.0) t h p z w.1
    ∙ sym (ap (λ g. or_default z (reading_on ks callee on g p t)) (frame_called i at c n k w.0.counted w.0.listed))
