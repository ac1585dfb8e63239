-- The frame of a path, at one instant: its names and its clocks are those of the state.
use Rattle.std.proofs.Common.{◌≡◌, ℕ, zero, suc, ◌<◌, Bool, true, false, cond, not, ◌&&◌, ◌||◌, List, [], ◌∷◌, map, length, refl, ap, ◌∙◌, sym, Some, None, find, option_map, unwrap_or, slice_index_or}
use Rattle.std.specs.Map.{lookup}
use Rattle.std.specs.Str.{bytes_eq}
use Rattle.std.proofs.lemmas.Bool.{false≢true, true≢false}
use Rattle.lus_tree.specs.declared.place.Sort.{Sort}
use Rattle.lus_tree.specs.declared.place.Sort.TheVariants.{Bool as Flags}
use Rattle.lus_tree.specs.Tree.{Name, Variable, Component}
use Rattle.lus_meaning.specs.Value.{Value, absent, flag, Stream, Instants, is as equals, has_sort}
use Rattle.lus_meaning.specs.Frame.{Frame, entry}
use Rattle.lus_meaning.specs.Scene.{Clock, base, sampled_by, Scene, Instance, Instances, instance, clock_from, variables, is_on, ModeStreams}
use Rattle.lus_meaning.specs.Depends.{named_in}
use Rattle.lus_meaning.specs.Recompute.{sample}
use Rattle.lus_meaning.specs.Run.{is_typed, sort_of_name, sort_of_value}
use Rattle.lus_meaning.specs.Trace.{or_default}
use Rattle.lus_meaning.proofs.Stable.{sample_at}
use Rattle.lus_meaning.proofs.Unique.{same_bytes}
use Rattle.sys_terms.specs.Meaning.{truth_of}
use Rattle.sys_meaning.specs.Slot.{Place, beat, named, own}
use Rattle.sys_meaning.specs.Items.{Key}
use Rattle.sys_meaning.specs.Part.{value_in}
use Rattle.sys_meaning.specs.Path.{Course, bare_stage, name_by, frame_by}
use Rattle.sys_meaning.specs.Translate.{present_within, present}
use Rattle.sys_meaning.specs.WellTyped.{no_constant, is_declared, clock_here, IsNameOn, ClockEnds, ClockFits}
use Rattle.sys_meaning.proofs.Conditions.{zero_value, flags_same}
use Rattle.sys_meaning.proofs.Present.{NameShown, NameTyped}
use Rattle.sys_meaning.proofs.Rows.{as_it_is}
use Rattle.sys_meaning.proofs.Shown.{value_has}

-- the first variable of a name, and its row
pub record Found (x : Name) (n : ℕ) (F : Variable → Stream) (vs : List Variable) : Type 0 where
  pub variable : Variable
  pub first : find (λ v. bytes_eq x v.name.text) vs ≡ Some variable
  pub row : lookup (bytes_eq x) (map (λ v. (v.name.text, sample n (F v))) vs) ≡ Some (sample n (F variable))
  pub same : variable.name.text ≡ x

pub found_in : (x : Name) (n : ℕ) (F : Variable → Stream) (vs : List Variable) →
    named_in x (map (λ v. v.name.text) vs) ≡ true → Found x n F vs
found_in x n F [] h = absurd (false≢true h)
found_in x n F (v ∷ vs) h = by (bytes_eq x v.name.text) refl h (found_in x n F vs)
  where
    by : (b : Bool) → bytes_eq x v.name.text ≡ b → (b || named_in x (map (λ v. v.name.text) vs)) ≡ true →
        (named_in x (map (λ v. v.name.text) vs) ≡ true → Found x n F vs) → Found x n F (v ∷ vs)
    by true e k r =
        record { variable = v; first = rw e refl; row = rw e refl; same = sym (same_bytes x v.name.text e) }
    by false e k r = let q : Found x n F vs =
        r k in record { variable = q.variable; first = rw e q.first; row = rw e q.row; same = q.same }

module _ (d : Component) (cs : List (Name × Value)) (is : Instances) (ModeAt : Key → Type 0) (at : Place → ℕ)
    (c : Course) (n : ℕ) (b : Instants) (ms : ModeStreams) (t : ℕ) (inside : t < n) where
  abbrev pub i : Instance
  i = instance d cs is

  abbrev pub f : Frame
  f = frame_by i at c n

  abbrev pub s : Scene
  s = record { place = i; frame = f; beat = b; modes = ms }

  abbrev pub on_by : Clock → Bool
  on_by k = truth_of (c t) (c t) (present (bare_stage i at) k)

  -- a name has its variable's value where its clock is present in the state
  pub entry_by : (x : Name) → is_declared i ModeAt x →
      entry f x t ≡ cond (on_by (clock_here i ModeAt x)) (value_in (c t) (sort_of_name i x) (at (own
      (named x)))) absent
  entry_by x h =
      let q : Found x n (name_by i at c) (variables d) = found_in x n (name_by i at c) (variables d) h in
      let sorts : sort_of_name i x ≡ q.variable.sort =
      ap (λ o. unwrap_or (option_map (λ v. v.sort) o) (sort_of_value (unwrap_or (lookup
      (bytes_eq x) cs) absent))) q.first in
      let clocks : clock_here i ModeAt x ≡ clock_from q.variable.clock =
      ap (λ o. clock_from (unwrap_or (option_map (λ v. v.clock) o) None)) q.first in
      ap (λ o. slice_index_or (unwrap_or o []) t absent) q.row
      ∙ sample_at n t (name_by i at c q.variable) inside
      ∙ ap (λ y. cond (on_by (clock_from q.variable.clock)) (value_in (c t) q.variable.sort (at (own
      (named y)))) absent) q.same
      ∙ ap (λ k. cond (on_by k) (value_in (c t) q.variable.sort (at (own (named x)))) absent) (sym clocks)
      ∙ ap (λ z. cond (on_by (clock_here i ModeAt x)) (value_in (c t) z (at (own (named x)))) absent) (sym sorts)

  is_entry : (q : Bool) (o : Bool) (v : Value) → equals q (cond o v absent) ≡ (o && equals q v)
  is_entry q true v = refl
  is_entry q false v = refl

  module _ (beats : (c t).flag_at (at (own beat)) ≡ b t) (ends :
      (x : Name) → is_declared i ModeAt x → no_constant i ModeAt x → ClockFits i ModeAt (clock_here i ModeAt x))
      (offs : (x : Name) → is_declared i ModeAt x → no_constant i ModeAt x → on_by
      (clock_here i ModeAt x) ≡ false →
      value_in (c t) (sort_of_name i x) (at (own (named x))) ≡ zero_value (sort_of_name i x)) where
    -- any fuel that is enough gives the same
    fuel_same : (m m' : ℕ) (k : Clock) → ClockEnds i ModeAt m k → ClockEnds i ModeAt m' k →
        truth_of (c t) (c t) (present_within m (bare_stage i at) k) ≡ truth_of (c t) (c t) (present_within m'
        (bare_stage i at) k)
    fuel_same m m' base h h' = refl
    fuel_same zero m' (sampled_by q x) h h' = absurd h
    fuel_same (suc m) zero (sampled_by q x) h h' = absurd h'
    fuel_same (suc m) (suc m') (sampled_by true x) h h' = refl
    fuel_same (suc m) (suc m') (sampled_by false x) h h' = rw (fuel_same m m' (clock_here i ModeAt x) h.2 h'.2) refl

    flag_off : (o w : Bool) → (o ≡ false → w ≡ false) → w ≡ (o && w)
    flag_off true w h = refl
    flag_off false w h = h refl

    not_flag : (w : Bool) → equals false (flag w) ≡ not w
    not_flag true = refl
    not_flag false = refl

    yes_flag : (w : Bool) → equals true (flag w) ≡ w
    yes_flag true = refl
    yes_flag false = refl

    entry_flag : (x : Name) → IsNameOn i ModeAt (clock_here i ModeAt x) x → sort_of_name i x ≡ Flags →
        entry f x t ≡ cond (on_by (clock_here i ModeAt x)) (flag ((c t).flag_at (at (own (named x))))) absent
    entry_flag x h e =
        entry_by x h.declared ∙ ap (λ z. cond (on_by (clock_here i ModeAt x)) (value_in (c t) z (at (own
        (named x)))) absent) e

    off_flag : (x : Name) → IsNameOn i ModeAt (clock_here i ModeAt x) x → sort_of_name i x ≡ Flags →
        on_by (clock_here i ModeAt x) ≡ false → (c t).flag_at (at (own (named x))) ≡ false
    off_flag x h e o =
        flags_same ((c t).flag_at (at (own (named x)))) false (sym (ap (λ z. value_in (c t) z (at (own
        (named x)))) e) ∙ offs x h.declared h.stream o ∙ ap zero_value e)

    -- the presence of a clock in the state is whether the clock of the frame is on
    pub present_by_within : (m : ℕ) (k : Clock) → ClockEnds i ModeAt m k →
        truth_of (c t) (c t) (present_within m (bare_stage i at) k) ≡ is_on s k t
    present_by_within m base h = beats
    present_by_within zero (sampled_by q x) h = absurd h
    present_by_within (suc m) (sampled_by true x) h =
        let w : Bool = (c t).flag_at (at (own (named x))) in
        flag_off (on_by (clock_here i ModeAt x)) w (off_flag x h.0 h.1)
        ∙ ap (λ z. on_by (clock_here i ModeAt x) && z) (sym (yes_flag w)) ∙ sym (is_entry true (on_by
        (clock_here i ModeAt x)) (flag w)) ∙ ap (equals true) (sym (entry_flag x h.0 h.1))
    present_by_within (suc m) (sampled_by false x) h =
        let w : Bool = (c t).flag_at (at (own (named x))) in
        ap (λ z. z && not w) (fuel_same m (length (variables d)) (clock_here i ModeAt x) h.2
        (ends x h.0.declared h.0.stream))
        ∙ ap (λ z. on_by (clock_here i ModeAt x) && z) (sym (not_flag w)) ∙ sym (is_entry false (on_by
        (clock_here i ModeAt x)) (flag w)) ∙ ap (equals false) (sym (entry_flag x h.0 h.1))

    pub present_by : (k : Clock) → ClockFits i ModeAt k → on_by k ≡ is_on s k t
    present_by k h = present_by_within (length (variables d)) k h

    typed_cond : (z : Sort) (o on : Bool) (v : Value) → o ≡ on → has_sort z v ≡ true →
        is_typed z on (cond o v absent) ≡ true
    typed_cond z true true v e h = h
    typed_cond z false false v e h = refl
    typed_cond z true false v e h = absurd (true≢false e)
    typed_cond z false true v e h = absurd (false≢true e)

    pub names_typed : (x : Name) → no_constant i ModeAt x → is_declared i ModeAt x → NameTyped s t x
    names_typed x e h =
        rw (entry_by x h) (typed_cond (sort_of_name i x) (on_by (clock_here i ModeAt x)) (is_on s
        (clock_here i ModeAt x) t) (value_in (c t) (sort_of_name i x) (at (own (named x))))
        (present_by (clock_here i ModeAt x) (ends x h e)) (value_has (c t) (sort_of_name i x) (at (own (named x)))))

    shown_cond : (z : Sort) (o : Bool) (v : Value) → has_sort z v ≡ true → (o ≡ false → v ≡ zero_value z) →
        v ≡ or_default z (cond o v absent)
    shown_cond z true v h e = sym (as_it_is z v h)
    shown_cond z false v h e = e refl

    pub names_shown : (x : Name) → no_constant i ModeAt x → is_declared i ModeAt x → NameShown s at (c t) t x
    names_shown x e h =
        rw (entry_by x h) (shown_cond (sort_of_name i x) (on_by (clock_here i ModeAt x)) (value_in (c t)
        (sort_of_name i x) (at (own (named x)))) (value_has (c t) (sort_of_name i x) (at (own (named x))))
        (offs x h e))
