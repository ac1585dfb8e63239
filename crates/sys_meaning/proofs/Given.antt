-- A path shows each frame whose beat is known, at each instant.
use Rattle.std.proofs.Common.{◌≡◌, ℕ, suc, pred, ◌<◌, ◌+◌, Bool, true, false, ◌&&◌, List, [], ◌∷◌, length, refl, ap, ◌∙◌, sym, subst}
use Rattle.std.specs.List.{AllByRecursion}
use Rattle.lus_tree.specs.declared.place.Sort.TheVariants.{Bool as Flags}
use Rattle.lus_tree.specs.Tree.{Name, Variable, Component, Expression, Expressions, no_more, more}
use Rattle.lus_meaning.specs.Value.{Value, flag, Instants, has_sort}
use Rattle.lus_meaning.specs.Scene.{Clock, Manner, while_true, Scene, Instance, Instances, instance, component_of, call_instance, variables, is_on}
use Rattle.lus_meaning.specs.Meaning.{value}
use Rattle.lus_meaning.specs.Contract.{scene, terms, mode_streams}
use Rattle.lus_meaning.specs.Occurrences.{memories, starts}
use Rattle.lus_meaning.specs.Program.{in_order}
use Rattle.lus_meaning.specs.Run.{sort_of, sort_of_name, active}
use Rattle.sys_terms.specs.View.{Formula}
use Rattle.sys_terms.specs.Meaning.{Values, truth_of}
use Rattle.sys_meaning.specs.Slot.{Place, beat, own, named, starting, in_call}
use Rattle.sys_meaning.specs.Slot as slot
use Rattle.sys_meaning.specs.Items.{Key, known}
use Rattle.sys_meaning.specs.Defaults.{site_of, default_of}
use Rattle.sys_meaning.specs.State.{held_before}
use Rattle.sys_meaning.specs.Part.{variable, fixed, equal_parts, value_in, worth}
use Rattle.sys_meaning.specs.Path.{Course, bare_stage, frame_by}
use Rattle.sys_meaning.specs.Translate.{Stage, flag_at, present, latest_part, formula, term_of}
use Rattle.sys_meaning.specs.Seen.{seen}
use Rattle.sys_meaning.specs.System.{at_numbers, stage, becomes, memory_next, start_next, held_next, held_first, runs_where, Sources}
use Rattle.sys_meaning.specs.WellTyped.{IsKnown, no_constant, is_declared, clock_here, Stands, ClockFits, IsPlainCall, IsHeldCall, DefaultsFit, MannerFits, CallFits, TreeFits, StreamFits, count_of}
use Rattle.sys_meaning.proofs.Conditions.{bools_equal, zero_value, parts_equal}
use Rattle.sys_meaning.proofs.Shown.{variable_worth, value_has, fixed_worth, term_shown, formula_worth}
use Rattle.sys_meaning.proofs.Pools.{true_all}
use Rattle.sys_meaning.proofs.Static.{modes_in, state_shown}
use Rattle.sys_meaning.proofs.Rows.{modes_agree, OwnShown, sight_here, row}
use Rattle.lus_meaning.proofs.Typed.{has_as}
use Rattle.sys_meaning.proofs.Offs.{present_same}
use Rattle.sys_meaning.proofs.Forward.{modes_of, conditional}
use Rattle.sys_meaning.proofs.Main.{term_has}
use Rattle.sys_meaning.proofs.Balanced.{Picked, pick}
use Rattle.sys_meaning.proofs.Taken.{Gives, shown_by}
use Rattle.sys_meaning.proofs.Back as back
use Rattle.sys_meaning.proofs.Backward.{ordered_at, mapped_all, FrameMeets, CallsMeet, meets_called, call_fits_called, own_meets, call_shown}
use Rattle.sys_meaning.proofs.ContractStatements.{modes_timeless}

and_one : (a : Bool) → (a && true) ≡ a
and_one true = refl
and_one false = refl

-- modes are worth what their formulas say, in each state that shows the frame
abbrev pub AgreeBy : Instance → (Place → ℕ) → Course → ℕ → Instants → Type 0
AgreeBy i at c n b = (t : ℕ) → t < n → (nx : Values) →
    (sh : OwnShown (scene i b (frame_by i at c n)) (IsKnown i) at (c t) nx t (modes_of IsKnown i at)) →
    modes_agree (scene i b (frame_by i at c n)) (IsKnown i) at (c t) nx t (modes_of IsKnown i at) sh

module _ (d : Component) (cs : List (Name × Value)) (is : Instances) (at : Place → ℕ) (c : Course) (n : ℕ)
    (b : Instants) (m : Manner) (act : Formula) (given : Sources)
    (fits : TreeFits IsKnown (instance d cs is)) (meets : FrameMeets c n m (instance d cs is) at act given)
    (calls : CallsMeet c n is (stage (instance d cs is) at))
    (beats : (t : ℕ) → t < n → (c t).flag_at (at (own beat)) ≡ b t)
    (offs : (t : ℕ) → t < n → (x : Name) → is_declared (instance d cs is) (λ key. ⊥) x → no_constant
    (instance d cs is) (λ key. ⊥) x →
    truth_of (c t) (c t) (present (bare_stage (instance d cs is) at) (clock_here (instance d cs is)
    (λ key. ⊥) x)) ≡ false →
    value_in (c t) (sort_of_name (instance d cs is) x) (at (own (named x))) ≡ zero_value (sort_of_name
    (instance d cs is) x))
    (agrees : AgreeBy (instance d cs is) at c n b) where
  abbrev pub i : Instance
  i = instance d cs is

  abbrev pub s : Scene
  s = scene i b (frame_by i at c n)

  abbrev pub M : Key → Type 0
  M = IsKnown i

  ends : (x : Name) → is_declared i M x → no_constant i M x → ClockFits i M (clock_here i M x)
  ends x h e = by (pick x (StreamFits i M) (variables d) fits.0.streams h)
    where
      by : Picked x (StreamFits i M) → ClockFits i M (clock_here i M x)
      by r = subst (λ y. ClockFits i M (clock_here i M y)) r.same (subst (ClockFits i M)
          (sym r.holds.name.clock) r.holds.clock)

  -- the presence of a clock is whether it is on
  on_now : (t : ℕ) → t < n → (k : Clock) → ClockFits i M k →
      truth_of (c t) (c t) (present (stage i at) k) ≡ is_on s k t
  on_now t h k w =
      present_same (c t) (c t) i at (stage i at).modes [] (length
      (variables d)) k ∙ back.present_by d cs is M at c n b (mode_streams (terms i).modes (λ z. b z)
      (frame_by i at c n)) t h (beats t h) ends (offs t h) k w

  module _ (k : ℕ) (counted : 0 < k) (listed : pred k < count_of is) where
    fit : CallFits IsKnown i (site_of i k) (call_instance i k) (0 + pred k)
    fit = (call_fits_called IsKnown i k counted listed fits.1).0

    -- the callee's beat is where its site says
    beat_here : (t : ℕ) → t < n → (site_of i k).number ≡ k →
        (c t).flag_at (at (in_call k (own beat))) ≡ truth_of (c t) (c t) (runs_where (stage i at) (site_of i k)
        (site_of i k).manner)
    beat_here t h e =
        ap (λ z. (c t).flag_at (at (in_call z (own beat)))) (sym e) ∙ bools_equal ((c t).flag_at (at (in_call
        (site_of i k).number (own beat)))) (truth_of (c t) (c t) (runs_where (stage i at) (site_of i k)
        (site_of i k).manner))
        ((own_meets c n (site_of i k).manner (call_instance i k) _ _ _ (meets_called c n i (stage i at) k
        counted listed calls).2).runs t h).0

  pub plain_beat : (t : ℕ) → t < n → (k : ℕ) (cl : Clock) → IsPlainCall i M k cl →
      (c t).flag_at (at (in_call k (own beat))) ≡ active s (site_of i k) t
  plain_beat t h k cl e =
      beat_here k e.call.counted e.call.listed t h e.call.number ∙ ap (λ z. truth_of (c t) (c t) (runs_where (stage i at)
      (site_of i k) z)) e.manner
      ∙ on_now t h (site_of i k).clock (fit k e.call.counted e.call.listed).clock ∙ sym (and_one (is_on s
      (site_of i k).clock t)) ∙ rw e.manner refl

  condition_stands : (k : ℕ) (cl : Clock) (a : Expression) (ds : Expressions) → IsHeldCall i M k cl a ds →
      Stands i M cl a × (sort_of i a ≡ Flags)
  condition_stands k cl a ds e =
      subst (λ z. Stands i M z a × (sort_of i a ≡ Flags)) e.clock (subst (λ z. MannerFits IsKnown i
      (site_of i k).clock z (call_instance i k)) e.manner (fit k e.call.counted e.call.listed).manner)

  pub held_beat : (t : ℕ) → t < n → (nx : Values) → (k : ℕ) (cl : Clock) (a : Expression) (ds : Expressions) →
      IsHeldCall i M k cl a ds →
      (is_on s cl t ≡ true → seen (sight_here s M at (c t) nx t (modes_of IsKnown i at)) a ≡ value s cl a t) →
      (c t).flag_at (at (in_call k (own beat))) ≡ active s (site_of i k) t
  held_beat t h nx k cl a ds e w =
      let now : Values = c t in
      let st : Stands i M cl a × (sort_of i a ≡ Flags) = condition_stands k cl a ds e in
      let g : Stage = stage i at in
      let seen_here : worth now now (term_of g a) ≡ seen (sight_here s M at now now t (modes_of IsKnown i at)) a =
      term_shown g M (row s M at now now t) (modes_in now now g.modes) now now (state_shown g M now now) a cl st.0 in
      let same_modes : modes_in now now (modes_of IsKnown i at) ≡ modes_in now nx (modes_of IsKnown i at) =
      modes_timeless i fits at now now nx in
      let same_seen : seen (sight_here s M at now now t (modes_of IsKnown i at)) a ≡ seen
      (sight_here s M at now nx t (modes_of IsKnown i at)) a =
      ap (λ ms. seen (record { place = i; row = row s M at now now t; modes = ms }) a) same_modes in
      let truth_here : flag (truth_of now now (formula g a)) ≡ worth now now (term_of g a) =
      formula_worth now now (term_of g a) (has_as (sort_of i a) Flags (worth now now (term_of g a)) st.1
      (term_has s M at (modes_of IsKnown i at) now now a cl st.0)) in
      beat_here k e.call.counted e.call.listed t h e.call.number ∙ ap (λ z. truth_of now now (runs_where g (site_of i k) z)) e.manner
      ∙ ap (λ o. o && truth_of now now (formula g a)) (on_now t h (site_of i k).clock
      (fit k e.call.counted e.call.listed).clock ∙ ap (λ z. is_on s z t) e.clock)
      ∙ conditional (is_on s cl t) (truth_of now now (formula g a)) (value s cl a t)
      (λ o. truth_here ∙ seen_here ∙ same_seen ∙ w o)
      ∙ rw (e.manner, e.clock) refl

  -- ---- what is held

  helds_at_first : (k : ℕ) (vs : List Variable) (es : Expressions) → DefaultsFit i M k vs es →
      AllByRecursion (λ v. truth_of (c 0) (c 0) (equal_parts (variable v.sort (at (own (slot.held k v.name.text))))
      (fixed (default_of i k v.name.text))) ≡ true) vs →
      AllByRecursion (λ v. value_in (c 0) v.sort (at (own
      (slot.held k v.name.text))) ≡ held_before s k v.name.text 0) vs
  helds_at_first k [] es q a = tt
  helds_at_first k (v ∷ vs) no_more q a = absurd q
  helds_at_first k (v ∷ vs) (more x es) q a =
      let z : ℕ = at (own (slot.held k v.name.text)) in
      let has : has_sort v.sort (default_of i k v.name.text) ≡ true = rw q.0 q.2 in
      let fixed_is : worth (c 0) (c 0) (fixed (default_of i k v.name.text)) ≡ default_of i k v.name.text =
      fixed_worth (c 0) (c 0) v.sort (default_of i k v.name.text) has in (
        sym (variable_worth (c 0) (c 0) v.sort z) ∙ parts_equal (c 0) (c 0) v.sort (variable v.sort z) (fixed
            (default_of i k v.name.text)) (rw (variable_worth (c 0) (c 0) v.sort z) (value_has (c 0) v.sort z))
            (rw fixed_is has) a.0 ∙ fixed_is,
        helds_at_first k vs es q.3 a.1,
      )

  first_of_held : 0 < n → (k : ℕ) (cl : Clock) (a : Expression) (ds : Expressions) → IsHeldCall i M k cl a ds →
      AllByRecursion (λ v. truth_of (c 0) (c 0) (equal_parts (variable v.sort (at (own (slot.held k v.name.text))))
      (fixed (default_of i k v.name.text))) ≡ true) (component_of (call_instance i k)).outputs
  first_of_held h k cl a ds e =
      let raw : true_all (c 0) (c 0) (held_first (stage i at) (site_of i k) (while_true a) (call_instance i k)) =
      subst (λ z. true_all (c 0) (c 0) (held_first (stage i at) (site_of i k) z (call_instance i k))) e.manner
      ((meets_called c n i (stage i at) k e.call.counted e.call.listed calls).1 h) in
      subst (λ z. AllByRecursion (λ v. truth_of (c 0) (c 0) (equal_parts (variable v.sort (at (own
      (slot.held z v.name.text)))) (fixed (default_of i z v.name.text))) ≡ true) (component_of
      (call_instance i k)).outputs) e.call.number
      (mapped_all (c 0) (c 0) (λ v. equal_parts (variable v.sort (at (own (slot.held
      (site_of i k).number v.name.text)))) (fixed (default_of i (site_of i k).number v.name.text)))
      (component_of (call_instance i k)).outputs raw)

  steps_of_held : (t : ℕ) → suc t < n → (k : ℕ) (cl : Clock) (a : Expression) (ds : Expressions) →
      IsHeldCall i M k cl a ds →
      AllByRecursion (λ v. truth_of (c t) (c (suc t)) (becomes (stage i at) v.sort (slot.held k v.name.text)
      (latest_part (stage i at) k v)) ≡ true) (component_of (call_instance i k)).outputs
  steps_of_held t h k cl a ds e =
      let raw : true_all (c t) (c (suc t)) (held_next (stage i at) (site_of i k) (while_true a)
      (call_instance i k)) =
      subst (λ z. true_all (c t) (c (suc t)) (held_next (stage i at) (site_of i k) z
      (call_instance i k))) e.manner ((meets_called c n i (stage i at) k e.call.counted e.call.listed calls).0 t h) in
      subst (λ z. AllByRecursion (λ v. truth_of (c t) (c (suc t)) (becomes (stage i at) v.sort
      (slot.held z v.name.text) (latest_part (stage i at) z v)) ≡ true) (component_of
      (call_instance i k)).outputs) e.call.number
      (mapped_all (c t) (c (suc t)) (λ v. becomes (stage i at) v.sort (slot.held
      (site_of i k).number v.name.text) (latest_part (stage i at) (site_of i k).number v)) (component_of
      (call_instance i k)).outputs raw)

  -- ---- all together

  all_given : Gives IsKnown d cs is at c n b
  all_given = record {
    beats = beats;
    offs = offs;
    memory_steps = λ t h q w. ordered_at (λ q. truth_of (c t) (c (suc t)) (memory_next (stage i at) q) ≡ true)
        (λ q. q.number) (memories d) (mapped_all (c t) (c (suc t)) (memory_next (stage i at)) (in_order
        (λ q. q.number) (memories d)) (meets.memories t h)) q.number (pred q.number) w.counted w.listed q w.found;
    start_first = λ h q w. ordered_at (λ q. (c 0).flag_at (at (own (starting q.number))) ≡ true) (λ q. q.number)
        (starts d) (mapped_all (c 0) (c 0) (λ q. flag_at (stage i at) (own (starting q.number))) (in_order
        (λ q. q.number) (starts d)) (meets.started h)) q.number (pred q.number) w.counted w.listed q w.found;
    start_steps = λ t h q w. ordered_at (λ q. truth_of (c t) (c (suc t)) (start_next (stage i at) q) ≡ true)
        (λ q. q.number) (starts d) (mapped_all (c t) (c (suc t)) (start_next (stage i at)) (in_order
        (λ q. q.number) (starts d)) (meets.starts t h)) q.number (pred q.number) w.counted w.listed q w.found;
    calls = λ t h nx k cl e. call_shown IsKnown d cs is at c n b fits calls t h nx k e.call (plain_beat t h k cl e);
    held_calls = λ t h nx k cl a ds e w. call_shown IsKnown d cs is at c n b fits calls t h nx k e.call
        (held_beat t h nx k cl a ds e w);
    conditions = λ k cl a ds e. (condition_stands k cl a ds e).0;
    held_first = λ h k cl a ds e. helds_at_first k (component_of (call_instance i k)).outputs ds e.defaults
        (first_of_held h k cl a ds e);
    held_steps = steps_of_held;
    agrees = agrees;
  }

  -- a path shows the frame at each instant
  pub frame_shown : (t : ℕ) → t < n → (nx : Values) → OwnShown s M at (c t) nx t (modes_of IsKnown i at)
  frame_shown t h nx = shown_by IsKnown d cs is at c n b fits.0 all_given t h nx
