-- What a part reads is there before it is evaluated: the sources of what it needs are evaluated by parts that come before.
use Rattle.std.proofs.Common.{eqb, ◌≡◌, ℕ, pred, ◌<◌, true, List, [], ◌∷◌, ◌++◌, map, length, refl, ap, ◌∙◌, sym, subst, arith, Some, None, slice_get}
use Rattle.std.specs.Prelude.{Contains}
use Rattle.std.specs.List.{AllByRecursion}
use Rattle.std.proofs.lemmas.Bool.{false≢true}
use Rattle.std.proofs.Math.Logic.{inl, inr}
use Rattle.lus_tree.specs.declared.place.Sort.{Sort}
use Rattle.lus_tree.specs.declared.place.Sort.TheVariants.{Bool as Flags}
use Rattle.lus_tree.specs.Tree.{Name, Variable, Expression, truth, number, name, negation, minus, pre, arrow, binary, choice, sampled, merged, call, condact, mode_name, Component, Program}
use Rattle.lus_meaning.specs.Frame.{Frame}
use Rattle.lus_meaning.specs.Scene.{Clock, base, sampled_by, Manner, plain, while_true, as_import, Site, Instance, component_of, calls_of, call_instance, outputs_of, clock_from, clock_of_names, variables}
use Rattle.lus_meaning.specs.Occurrences.{memories, starts}
use Rattle.lus_meaning.specs.Program.{in_order, instance_of}
use Rattle.lus_meaning.specs.Run.{IsRun, Equation, equations, inputs_of}
use Rattle.lus_meaning.specs.Depends.{Need, the_beat, a_name, clock_needs, output_needs, needs, needs_each, modes_need, site_needs, named_in}
use Rattle.lus_meaning.specs.Cycle.{matching, shared_needs}
use Rattle.lus_meaning.specs.Slots.{slots}
use Rattle.lus_meaning.specs.Trace.{same_numbers}
use Rattle.lus_meaning.specs.Verdict.{throughout}
use Rattle.lus_meaning.specs.ClockFaults.{components}
use Rattle.lus_meaning.specs.Refusals.{IsChecked}
use Rattle.lus_meaning.proofs.Members.{IsIn, in_left, in_right, in_mapped}
use Rattle.lus_meaning.proofs.Lists.{all_from}
use Rattle.lus_meaning.proofs.Ranked.{all_named}
use Rattle.sys_meaning.specs.Slot.{Spot, beat, named, memory, starting, so_far, held, Place, own}
use Rattle.sys_meaning.specs.Defaults.{site_of}
use Rattle.sys_meaning.specs.WellTyped.{IsKnown, IsCall, IsNameOn, IsImport, is_declared, clock_here, OutputFits, Stands, StreamFits, EquationFits, MannerFits, CallFits, OwnFits, TreeFits, HasPlaceIn, count_of}
use Rattle.sys_meaning.proofs.Balanced.{join_all}
use Rattle.sys_meaning.proofs.Cells.{everywhere}
use Rattle.sys_meaning.proofs.Forward.{own_fits}
use Rattle.lus_evaluation.specs.Part.{Part, from_top}
use Rattle.lus_evaluation.specs.Turn.{in_turn}
use Rattle.lus_evaluation.specs.Evaluation.{is_above, NeedsPlace, place_named, IsEvaluation}
use Rattle.lus_evaluation.specs.Past.{part_past, NonePast}
use Rattle.slot_values.specs.Evaluated.{SlotValues, outside}
use Rattle.slot_values.specs.Resolution.{Resolution}
use Rattle.slot_values.specs.Resolved.{Numbering, resolution, right_resolutions}
use Rattle.slot_values.specs.Clocked.{row_by, clock_on}
use Rattle.evaluation_laws.specs.Rows.{AreCalls, row_at, numbers_there}
use Rattle.evaluation_laws.proofs.Waiting.{both_true, both}
use Rattle.slot_sources.specs.declared.source.Switch.{Switch}
use Rattle.slot_sources.specs.Source.{Source, given, same, listed}
use Rattle.slot_sources.specs.Rows as rows
use Rattle.slot_sources.specs.Rows.{outside_now, reads_now, slots_read}
use Rattle.slot_sources.specs.Sources.{numbering_of, switch_of, call_beat, beat_source, argument_source, held_source, memory_source, start_source, sources_of}
use Rattle.row_laws.proofs.Lists.{Both, both_at}
use Rattle.row_laws.proofs.Ranking.{call_of_number}
use Rattle.order_laws.specs.Laws.{IsOneOf}
use Rattle.order_laws.specs.Needed.{IsCalled, Sees, IsGiven, IsEvaluatedIn, NoneOutside}
use Rattle.order_laws.specs.Rows.{place_there}
use Rattle.order_laws.proofs.Bodies.{in_all, slice_in}
use Rattle.order_laws.proofs.Callers.{frame_inputs_come_before, frame_conditions_come_before}
use Rattle.order_laws.proofs.Covers.{needs_itself}
use Rattle.order_laws.proofs.FirstByRows as b
use Rattle.order_laws.proofs.Frames.{StandsAt, stands_there, stands_called, same_place}
use Rattle.order_laws.proofs.Needed.{needed_names_come_before}
use Rattle.order_laws.proofs.Placed.{all_in_self}
use Rattle.rest_laws.specs.Rests.{part_reads}
use Rattle.rest_laws.proofs.Build.{facts, placed, in_turn_from, all_stand}
use Rattle.rest_laws.proofs.Clocks.{fitting_named, IsTimed, instant_timed}
use Rattle.rest_laws.proofs.Facts.{in_of, fitting_call, Facts, PartAtoms, numbering_at, own_operands, resolution_read, part_read, evaluated_read, given_read, switch_is, left_of_all, one_equation}
use Rattle.rest_laws.proofs.Needing.{own_name, call_name, in_matching, reach_clock, reach_caller, name_reaches, lower, AreImports, BeatNeeded, beat_of_whole, beat_of_import}
use Rattle.rest_laws.proofs.Set.{sees_parent, slot_own, name_in, ClockIs, switch_in, AtomsAre, atoms_in, above_itself, same_end}
use Rattle.rest_laws.proofs.Slots.{place_at, place_of_slot, slot_there}
use Rattle.rest_laws.proofs.Sources.{Gives, Obliged, GoodAt, all_good}

above_longer : (v w : List ℕ) (k : ℕ) → is_above v w ≡ true → is_above v (w ++ k ∷ []) ≡ true
above_longer [] w k h = refl
above_longer (n ∷ v) [] k h = absurd (false≢true h)
above_longer (n ∷ v) (m ∷ w) k h =
    let q = both_true (eqb n m) (is_above v w) h in
    both (eqb n m) (is_above v (w ++ k ∷ [])) q.0 (above_longer v w k q.1)

no_import : (m : Manner) (xs : List Name) → m ≡ plain → m ≡ as_import xs → ⊥
no_import m xs e d = cc

no_condition : (m : Manner) (a : Expression) (xs : List Name) → m ≡ while_true a → m ≡ as_import xs → ⊥
no_condition m a xs e d = cc

module _ (p : Program) (c : IsChecked p) (n : Component) (j : Contains (components p) n) (qs : List Part) (ev : IsEvaluation (instance_of p n) qs)
    (m : ℕ) (f : Frame) (run : IsRun (instance_of p n) m throughout f) (t : ℕ) (l : t < m) (front : List Part) (q : Part) (rest : List Part)
    (split : qs ≡ front ++ q ∷ rest) (none : NonePast (instance_of p n) f front t) where
  abbrev i : Instance
  i = instance_of p n

  abbrev row : SlotValues
  row = row_at i f t

  known : Facts i f t qs
  known = facts p c n j qs ev m f run t l

  tree : TreeFits IsKnown i
  tree = known.typed.tree

  -- a part of the front, or the one behind it
  pub record Early (r : Part) : Type 0 where
    pub before : List Part
    pub after : List Part
    pub place : qs ≡ before ++ r ∷ after
    pub early : (y : Part) → IsOneOf before y → IsOneOf front y

  last : Early q
  last = record { before = front; after = rest; place = split; early = λ y o. o }

  grouped : (xs ys zs : List Part) → (xs ++ ys) ++ zs ≡ xs ++ (ys ++ zs)
  grouped [] ys zs = refl
  grouped (x ∷ xs) ys zs = ap (λ u. x ∷ u) (grouped xs ys zs)

  further_one : (xs ys : List Part) (y : Part) → IsOneOf xs y → IsOneOf (xs ++ ys) y
  further_one xs ys y o = record { before = o.before; after = o.after ++ ys; split = ap (λ u. u ++ ys) o.split ∙ grouped o.before (y ∷ o.after) ys }

  early_one : (r : Part) → IsOneOf front r → Early r
  early_one r o = record {
    before = o.before;
    after = o.after ++ q ∷ rest;
    place = split ∙ ap (λ u. u ++ q ∷ rest) o.split ∙ grouped o.before (r ∷ o.after) (q ∷ rest);
    early = λ y z. subst (λ u. IsOneOf u y) (sym o.split) (further_one o.before (r ∷ o.after) y z);
  }

  there : (r : Part) → Early r → IsIn r qs
  there r e = subst (IsIn r) (sym e.place) (in_right r e.before (r ∷ e.after) (inl refl))

  -- no part before such a part is outside
  none_before : (r : Part) → (e : Early r) → NonePast i f e.before t
  none_before r e =
      all_from (λ y. IsIn y e.before) (λ y. part_past i f y t ≡ None)
      (λ y h. in_all (λ y. part_past i f y t ≡ None) front y none (in_of (e.early y (b.one_of e.before y h)))) e.before (all_in_self e.before)

  -- ---- places that are needed

  pub record NameSeen (w : List ℕ) (x : Name) : Type 0 where
    pub part : Part
    pub early : Early part
    pub sees : Sees part w
    pub needed : NeedsPlace i part.needs (place_named w x)

  pub record BeatSeen (w : List ℕ) : Type 0 where
    pub part : Part
    pub early : Early part
    pub above : List ℕ
    pub down : List ℕ
    pub same : w ≡ lower i f above down
    pub imports : AreImports i f above down
    pub sees : Sees part above
    pub needed : NeedsPlace i part.needs (from_top above the_beat)

  abbrev P : List ℕ → Spot → Type 0
  P w beat = BeatSeen w
  P w (named x) = NameSeen w x
  P w (memory k) = Unit {0}
  P w (starting k) = Unit {0}
  P w so_far = ⊥
  P w (held k x) = Unit {0}

  abbrev at_place : Place → Type 0
  at_place z = P z.0 z.1

  abbrev pub R : ℕ → Type 0
  R k = P (place_at i k).0 (place_at i k).1

  slot_in : (w : List ℕ) → AreCalls i w → (ks : List ℕ) (z : Spot) (s : Sort) → HasPlaceIn IsKnown (as_import []) ks (place_there i f w) z s →
      P (w ++ ks) z → R (numbers_there i w (ks, z))
  slot_in w a ks z s h e = subst at_place (sym (slot_there i f known.typed w a ks z s h)) e

  fits_there : (w : List ℕ) → AreCalls i w → OwnFits (place_there i f w) (IsKnown (place_there i f w))
  fits_there w a = own_fits IsKnown (place_there i f w) (stands_there i f w a tree).fits

  -- a clock whose needs are needed
  clock_seen : (w : List ℕ) (r : Part) → Early r → Sees r w → (k : Clock) → ((u : Need) → IsIn u (clock_needs k) → NeedsPlace i r.needs (from_top w u)) →
      ClockIs i f tree R P slot_in w k
  clock_seen w r e s base h = record { part = r; early = e; above = w; down = []; same = refl; imports = tt; sees = s; needed = h the_beat (inl refl) }
  clock_seen w r e s (sampled_by o x) h =
      record { part = r; early = e; sees = s; needed = subst (NeedsPlace i r.needs) (own_name w x) (h (a_name [] x) (inl refl)) }

  name_clock : (w : List ℕ) → AreCalls i w → (x : Name) → is_declared (place_there i f w) (IsKnown (place_there i f w)) x → NameSeen w x → (k : Clock) →
      clock_here (place_there i f w) (IsKnown (place_there i f w)) x ≡ k → ClockIs i f tree R P slot_in w k
  name_clock w a x d v k e =
      clock_seen w v.part v.early v.sees k
      (λ u h. reach_clock i f v.part.needs w a (fits_there w a) x d v.needed u (subst (λ y. IsIn u (clock_needs y)) (sym e) h))

  -- ---- what such parts read by themselves

  timed : (r : Part) → IsIn r qs → BeatNeeded i f r.way r.needs
  timed r h =
      (in_all (IsTimed i f (BeatNeeded i f) (beat_of_whole i f) (beat_of_import i f)) (in_turn ev.orders i) r
      (instant_timed i f (BeatNeeded i f) (beat_of_whole i f) (beat_of_import i f) ev.orders (stands_there i f [] tt tree) tree
      (all_stand p c n j qs ev m f run t l)) (in_turn_from p c n j qs ev m f run t l r h)).needed

  above_lower : (v : List ℕ) (ks : List ℕ) → is_above v (lower i f v ks) ≡ true
  above_lower v [] = above_itself v
  above_lower v (k ∷ ks) = above_longer v (lower i f v ks) k (above_lower v ks)

  own_beat : (r : Part) → Early r → BeatSeen r.way
  own_beat r e =
      let z : BeatNeeded i f r.way r.needs = timed r (there r e) in record {
        part = r;
        early = e;
        above = z.above;
        down = z.down;
        same = z.same;
        imports = z.imports;
        sees = inl (subst (λ y. is_above z.above y ≡ true) (sym z.same) (above_lower z.above z.down));
        needed = z.needed;
      }

  module _ (r : Part) (e : Early r) where
    abbrev w : List ℕ
    w = r.way

    abbrev z : Instance
    z = place_there i f w

    calls : AreCalls i w
    calls = known.calls r (there r e)

    stands : Stands z (IsKnown z) r.clock r.expression
    stands = known.stands r (there r e)

    itself : Sees r w
    itself = inl (above_itself w)

    -- the names that it needs itself its whole needs
    own_seen : (x : Name) → IsIn (a_name [] x) (needs z (modes_need z) r.clock r.expression) → NameSeen w x
    own_seen x h = record {
      part = r;
      early = e;
      sees = itself;
      needed = (placed p c n j qs ev m f run t l r (in_turn_from p c n j qs ev m f run t l r (there r e))).2.covers w x
          (subst (NeedsPlace i (map (from_top w) (needs z (modes_need z) r.clock r.expression))) (own_name w x)
          (needs_itself i (map (from_top w) (needs z (modes_need z) r.clock r.expression)) (from_top w (a_name [] x))
          (in_mapped (from_top w) (a_name [] x) (needs z (modes_need z) r.clock r.expression) h)));
    }

    call_need : (k : ℕ) (x : Name) → IsIn (a_name (pred k ∷ []) x) (needs z (modes_need z) r.clock r.expression) →
        NeedsPlace i r.needs (place_named (w ++ k ∷ []) x)
    call_need k x h =
        (placed p c n j qs ev m f run t l r (in_turn_from p c n j qs ev m f run t l r (there r e))).2.covers (w ++ k ∷ []) x
        (subst (NeedsPlace i (map (from_top w) (needs z (modes_need z) r.clock r.expression))) (call_name w k x)
        (needs_itself i (map (from_top w) (needs z (modes_need z) r.clock r.expression)) (from_top w (a_name (pred k ∷ []) x))
        (in_mapped (from_top w) (a_name (pred k ∷ []) x) (needs z (modes_need z) r.clock r.expression) h)))

    call_seen : (k : ℕ) (x : Name) → Sees r (w ++ k ∷ []) → IsIn (a_name (pred k ∷ []) x) (needs z (modes_need z) r.clock r.expression) →
        NameSeen (w ++ k ∷ []) x
    call_seen k x s h = record { part = r; early = e; sees = s; needed = call_need k x h }

    -- a declared name of a frame that is called needs the beat of that frame
    callee_needed : (k : ℕ) → 0 < k → pred k < count_of (calls_of z) → (x : Name) → is_declared (call_instance z k) (IsKnown (call_instance z k)) x →
        NeedsPlace i r.needs (place_named (w ++ k ∷ []) x) → NeedsPlace i r.needs (from_top (w ++ k ∷ []) the_beat)
    callee_needed k u g x d v =
        let s : StandsAt i f (w ++ k ∷ []) (call_instance z k) = stands_called i f w z (stands_there i f w calls tree) k u g in
        name_reaches i f r.needs (w ++ k ∷ []) s.calls (fits_there (w ++ k ∷ []) s.calls) x (subst (λ y. is_declared y (IsKnown y) x) (sym s.place) d) v

    outputs_seen : (k : ℕ) → Sees r (w ++ k ∷ []) → (vs : List Variable) →
        ((u : Need) → IsIn u (map (a_name (pred k ∷ [])) (map (λ v. v.name.text) vs)) → IsIn u (needs z (modes_need z) r.clock r.expression)) →
        AllByRecursion (λ v. NameSeen (w ++ k ∷ []) v.name.text) vs
    outputs_seen k s [] h = tt
    outputs_seen k s (v ∷ vs) h =
        (call_seen k v.name.text s (h (a_name (pred k ∷ []) v.name.text) (inl refl)), outputs_seen k s vs (λ u g. h u (inr g)))

    beat_by_first : (k : ℕ) → 0 < k → pred k < count_of (calls_of z) → Sees r (w ++ k ∷ []) → (vs : List Variable) → 0 < length vs →
        AllByRecursion (OutputFits z (IsKnown z) k) vs →
        ((u : Need) → IsIn u (map (a_name (pred k ∷ [])) (map (λ v. v.name.text) vs)) → IsIn u (needs z (modes_need z) r.clock r.expression)) →
        NeedsPlace i r.needs (from_top (w ++ k ∷ []) the_beat)
    beat_by_first k u g s [] y o h = absurd (omega (arith, y))
    beat_by_first k u g s (v ∷ vs) y o h =
        callee_needed k u g v.name.text o.0.2 (call_need k v.name.text (h (a_name (pred k ∷ []) v.name.text) (inl refl)))

    atoms_are : (x : Expression) → Stands z (IsKnown z) r.clock x → ((v : List ℕ) → IsCalled w x v → Sees r v) →
        ((u : Need) → IsIn u (needs z (modes_need z) r.clock x) → IsIn u (needs z (modes_need z) r.clock r.expression)) → AtomsAre i f tree R P slot_in w x
    atoms_are (name y x) st s h = own_seen x (h (a_name [] x) (inl refl))
    atoms_are (pre y k x) st s h = tt
    atoms_are (arrow y k x d) st s h = tt
    atoms_are (sampled y x o d) st s h = own_seen d.text (h (a_name [] d.text) (inl refl))
    atoms_are (merged y x d o) st s h = own_seen x.text (h (a_name [] x.text) (inl refl))
    atoms_are (call y k x as_) st s h = outputs_seen k (s (w ++ k ∷ []) refl) (component_of (call_instance z k)).outputs h
    atoms_are (condact y k x d as_ ds) st s h =
        let some : (u : Need) → IsIn u (output_needs z k) → IsIn u (needs z (modes_need z) r.clock r.expression) =
        λ u g. h u (in_right u (clock_needs r.clock) _ (in_right u (needs z (modes_need z) r.clock x) _
        (in_left u (output_needs z k) (needs_each z (modes_need z) r.clock ds) g))) in
        let all : AllByRecursion (λ v. NameSeen (w ++ k ∷ []) v.name.text) (component_of (call_instance z k)).outputs =
        outputs_seen k (s (w ++ k ∷ []) refl) (component_of (call_instance z k)).outputs some in (
          record {
            part = r;
            early = e;
            above = w ++ k ∷ [];
            down = [];
            same = refl;
            imports = tt;
            sees = s (w ++ k ∷ []) refl;
            needed = beat_by_first k st.0.call.counted st.0.call.listed (s (w ++ k ∷ []) refl) (component_of (call_instance z k)).outputs st.0.outputs
                st.0.call.named some;
          },
          all_from (λ v. NameSeen (w ++ k ∷ []) v.name.text) (λ v. NameSeen (w ++ k ∷ []) v.name.text × Unit {0}) (λ v g. (g, tt))
              (component_of (call_instance z k)).outputs all,
        )
    atoms_are (truth y x) st s h = tt
    atoms_are (number y x) st s h = tt
    atoms_are (negation y x) st s h = tt
    atoms_are (minus y x) st s h = tt
    atoms_are (binary y o x d) st s h = tt
    atoms_are (choice y x d o) st s h = tt
    atoms_are (mode_name y d x) st s h = tt

    atoms_of : PartAtoms i f t R tree r
    atoms_of =
        atoms_in i f tree R P slot_in w calls r.clock r.expression stands (atoms_are r.expression stands (λ v g. inr g) (λ u g. g))

    -- ---- its clock

    by_needs : (k : Clock) → ((u : Need) → IsIn u (clock_needs k) → IsIn u (needs z (modes_need z) r.clock r.expression)) → ClockIs i f tree R P slot_in w k
    by_needs base h = own_beat r e
    by_needs (sampled_by o x) h = own_seen x (h (a_name [] x) (inl refl))

    call_clock : (k : ℕ) → 0 < k → pred k < count_of (calls_of z) → Sees r (w ++ k ∷ []) → NeedsPlace i r.needs (from_top (w ++ k ∷ []) the_beat) →
        (site_of z k).manner ≡ plain → (site_of z k).clock ≡ r.clock → ClockIs i f tree R P slot_in w r.clock
    call_clock k u g s h d y =
        clock_seen w r e itself r.clock
        (λ o q. reach_caller i f r.needs w k calls u g None h o
        (subst (λ v. IsIn o (site_needs z (modes_need z) (site_of z k) v)) (sym d) (subst (λ v. IsIn o (clock_needs v)) (sym y) q)))

    clock_is : (x : Expression) → Stands z (IsKnown z) r.clock x → ((v : List ℕ) → IsCalled w x v → Sees r v) →
        ((u : Need) → IsIn u (needs z (modes_need z) r.clock x) → IsIn u (needs z (modes_need z) r.clock r.expression)) → ClockIs i f tree R P slot_in w r.clock
    clock_is (truth y x) st s h = by_needs r.clock h
    clock_is (number y x) st s h = by_needs r.clock h
    clock_is (name y x) st s h = by_needs r.clock (λ u g. h u (inr g))
    clock_is (negation y x) st s h = by_needs r.clock (λ u g. h u (in_left u (clock_needs r.clock) _ g))
    clock_is (minus y x) st s h = by_needs r.clock (λ u g. h u (in_left u (clock_needs r.clock) _ g))
    clock_is (pre y k x) st s h = by_needs r.clock h
    clock_is (arrow y k x d) st s h = by_needs r.clock (λ u g. h u (in_left u (clock_needs r.clock) _ g))
    clock_is (binary y o x d) st s h = by_needs r.clock (λ u g. h u (in_left u (clock_needs r.clock) _ g))
    clock_is (choice y x d o) st s h = by_needs r.clock (λ u g. h u (in_left u (clock_needs r.clock) _ g))
    clock_is (sampled y x o d) st s h = subst (ClockIs i f tree R P slot_in w) (sym st.0) (own_seen d.text (h (a_name [] d.text) (inl refl)))
    clock_is (merged y x d o) st s h = name_clock w calls x.text st.0.declared (own_seen x.text (h (a_name [] x.text) (inl refl))) r.clock st.0.clock
    clock_is (call y k x as_) st s h =
        call_clock k st.0.call.counted st.0.call.listed (s (w ++ k ∷ []) refl)
        (beat_by_first k st.0.call.counted st.0.call.listed (s (w ++ k ∷ []) refl) (component_of (call_instance z k)).outputs st.0.outputs st.0.call.named h)
        st.0.manner st.0.clock
    clock_is (condact y k x d as_ ds) st s h = by_needs r.clock (λ u g. h u (in_left u (clock_needs r.clock) _ g))
    clock_is (mode_name y d x) st s h = subst (ClockIs i f tree R P slot_in w) (sym st.0) (own_beat r e)

    switch_read : R (switch_of (numbering_at i f t w) r.clock).slot
    switch_read =
        switch_in i f tree R P slot_in w calls r.clock (known.named r (there r e)) (clock_is r.expression stands (λ v g. inr g) (λ u g. g))

  early_before : (r : Part) → (e : Early r) → (y : Part) → IsOneOf e.before y → Early y
  early_before r e y o = early_one y (e.early y o)

  -- all that a part reads
  part_seen : (r : Part) → Early r → AllByRecursion R (part_reads i r)
  part_seen r e = (
    subst (λ y. R (switch_of (numbering_of y (numbers_there i r.way)) r.clock).slot) (same_place r.way i throughout f) (switch_read r e),
    part_read i f t R tree r (resolution_read i f t R tree r (calls r e) (atoms_of r e)
        (all_from (IsOneOf e.before) (PartAtoms i f t R tree) (λ y o. atoms_of y (early_before r e y o)) (own_operands i f t r)
        (b.operands_before p c n j qs ev m f run t l e.before r e.after e.place))),
  )

  evaluated_seen : (r : Part) → (e : Early r) → (w : List ℕ) (k : Clock) (a : Expression) → IsEvaluatedIn i f t e.before w k a →
      AllByRecursion R (slots_read (resolution (numbering_at i f t w) a))
  evaluated_seen r e w k a v =
      evaluated_read i f t R tree e.before (λ y o. calls y (early_before r e y o)) (λ y o. atoms_of y (early_before r e y o)) w k a v

  given_seen : (r : Part) → (e : Early r) → (w : List ℕ) (x : Name) → (g : IsGiven i f t e.before w x) →
      AllByRecursion (λ y. AllByRecursion R (slots_read y)) (right_resolutions (numbering_at i f t w) g.part.expression)
  given_seen r e w x g =
      given_read i f t R tree e.before (λ y o. calls y (early_before r e y o)) (λ y o. atoms_of y (early_before r e y o)) w x g

  -- ---- sources

  abbrev Good : Source → Type 0
  Good s = AllByRecursion R (reads_now s) × (outside_now row s ≡ [])

  given_good : (y : Switch) → R y.slot → (rs : List Resolution) → AllByRecursion (λ r. AllByRecursion R (slots_read r)) rs →
      AllByRecursion (λ r. outside row (rows.is_on row y) r ≡ []) rs → AllByRecursion (λ r. Good (given y r)) rs
  given_good y h [] a v = tt
  given_good y h (r ∷ rs) a v = (((h, a.0), v.0), given_good y h rs a.1 v.1)

  module _ (w : List ℕ) (way : AreCalls i w) where
    abbrev j1 : Instance
    j1 = place_there i f w

    abbrev g : Numbering
    g = numbering_at i f t w

    here : StandsAt i f w j1
    here = stands_there i f w way tree

    by_switch : (k : Clock) (r : Resolution) → outside row (clock_on (row_by (numbers_there i w) row) k) r ≡ [] →
        outside row (rows.is_on row (switch_of g k)) r ≡ []
    by_switch k r e = subst (λ b. outside row b r ≡ []) (sym (switch_is row g k)) e

    evaluated_quiet : (r : Part) → (e : Early r) → (k : Clock) (a : Expression) → IsEvaluatedIn i f t e.before w k a →
        outside row (rows.is_on row (switch_of g k)) (resolution g a) ≡ []
    evaluated_quiet r e k a v = by_switch k (resolution g a) (known.argument_none e.before (r ∷ e.after) e.place (none_before r e) w k a v)

    stream_good : (v : Variable) → StreamFits j1 (IsKnown j1) v → P w (named v.name.text) → Good (listed (switch_of g (clock_from v.clock)))
    stream_good v fit h = (
      (
        switch_in i f tree R P slot_in w way (clock_from v.clock) (fitting_named j1 (clock_from v.clock) fit.clock)
            (name_clock w way v.name.text fit.name.declared h (clock_from v.clock) fit.name.clock),
        tt,
      ),
      refl,
    )

    side_good : (d : Equation) → IsIn d (equations (component_of j1)) → EquationFits j1 (IsKnown j1) d → (x : Name) → named_in x d.names ≡ true →
        IsNameOn j1 (IsKnown j1) (clock_of_names (component_of j1) d.names) x → P w (named x) →
        AllByRecursion (λ r. Good (given (switch_of g (clock_of_names (component_of j1) d.names)) r)) (right_resolutions g d.right)
    side_good d h fit x u on k =
        subst (λ c. AllByRecursion (λ r. Good (given (switch_of g c) r)) (right_resolutions g d.right)) clock
        (subst (λ a. AllByRecursion (λ r. Good (given (switch_of g v.part.clock) r)) (right_resolutions g a)) right
        (given_good (switch_of g v.part.clock)
        (subst (λ c. R (switch_of g c).slot) (sym clock)
        (switch_in i f tree R P slot_in w way (clock_of_names (component_of j1) d.names) (fitting_named j1 _ fit.clock)
        (name_clock w way x on.declared k (clock_of_names (component_of j1) d.names) on.clock)))
        (right_resolutions g v.part.expression) (given_seen k.part k.early w x v)
        (all_from (NoneOutside i f t w v.part.clock) (λ r. outside row (rows.is_on row (switch_of g v.part.clock)) r ≡ [])
        (λ r z. by_switch v.part.clock r z) (right_resolutions g v.part.expression)
        (known.given_none k.early.before (k.part ∷ k.early.after) k.early.place (none_before k.part k.early) w x v))))
      where
        v : IsGiven i f t k.early.before w x
        v = needed_names_come_before p c n j qs ev m f run t l k.early.before k.part k.early.after k.early.place w x k.sees
            (left_of_all x (equations (component_of j1)) d h u) k.needed

        same_one : v.side.equation ≡ d
        same_one =
            one_equation x (equations (component_of j1)) (known.once w way) v.side.equation d
            (slice_in (equations (component_of j1)) v.side.there.0 v.side.equation v.side.there.1) h
            (subst (λ y. named_in x y ≡ true) v.side.names (both_true (same_numbers w v.part.way) (named_in x v.part.gives) v.gives).1) u

        clock : v.part.clock ≡ clock_of_names (component_of j1) d.names
        clock = v.side.clock ∙ ap (λ y. clock_of_names (component_of j1) y.names) same_one

        right : v.part.expression ≡ d.right
        right = v.side.right ∙ ap (λ y. y.right) same_one

    -- ---- a call

    module _ (k : ℕ) (counted : 0 < k) (listed_one : pred k < count_of (calls_of j1)) where
      abbrev s : Site
      s = site_of j1 k

      abbrev y1 : Instance
      y1 = call_instance j1 k

      fit : CallFits IsKnown j1 s y1 (pred k)
      fit = fitting_call j1 here.fits k counted listed_one

      called : IsCall j1 (IsKnown j1) k
      called = call_of_number j1 here.fits k counted listed_one

      below : StandsAt i f (w ++ k ∷ []) y1
      below = stands_called i f w j1 here k counted listed_one

      callee_beat : BeatSeen (w ++ k ∷ []) → R (call_beat g s)
      callee_beat h = subst (λ u. R (numbers_there i w (u ∷ [], beat))) (sym called.number) (slot_in w way (k ∷ []) beat Flags (called, refl) h)

      site_clock_in : (o : Manner) (u : Need) → IsIn u (clock_needs s.clock) → IsIn u (site_needs j1 (modes_need j1) s o)
      site_clock_in plain u h = h
      site_clock_in (while_true a) u h = in_left u (clock_needs s.clock) (needs j1 (modes_need j1) s.clock a) h
      site_clock_in (as_import xs) u h = h

      -- what needs the beat of the frame that is called needs what the clock of the call needs
      caller_clock : (r : Part) → Early r → Sees r (w ++ k ∷ []) → NeedsPlace i r.needs (from_top (w ++ k ∷ []) the_beat) →
          ClockIs i f tree R P slot_in w s.clock
      caller_clock r e a h =
          clock_seen w r e (sees_parent r w k a) s.clock
          (λ u q. reach_caller i f r.needs w k way counted listed_one None h u (site_clock_in s.manner u q))

      on : (r : Part) → Early r → Sees r (w ++ k ∷ []) → NeedsPlace i r.needs (from_top (w ++ k ∷ []) the_beat) → R (switch_of g s.clock).slot
      on r e a h = switch_in i f tree R P slot_in w way s.clock (fitting_named j1 s.clock fit.clock) (caller_clock r e a h)

      beat_here : (o : Manner) → s.manner ≡ o → (r : Part) → Early r → Sees r (w ++ k ∷ []) → NeedsPlace i r.needs (from_top (w ++ k ∷ []) the_beat) →
          Good (beat_source g s o)
      beat_here plain d r e a h = ((on r e a h, tt), refl)
      beat_here (while_true x) d r e a h =
          let v : IsEvaluatedIn i f t e.before w s.clock x =
          frame_conditions_come_before p c n j qs ev m f run t l e.before r e.after e.place w k a x d h in
          ((on r e a h, evaluated_seen r e w s.clock x v), evaluated_quiet r e s.clock x v)
      beat_here (as_import xs) d r e a h = (
        (
          slot_own i f tree R P slot_in w way beat Flags refl
              (subst (ClockIs i f tree R P slot_in w) (subst (λ o. MannerFits IsKnown j1 s.clock o y1) d fit.manner).0 (caller_clock r e a h)),
          tt,
        ),
        refl,
      )

      beat_below : (o : Manner) → s.manner ≡ o → BeatSeen w → (xs : List Name) → s.manner ≡ as_import xs → Good (beat_source g s o)
      beat_below plain d h xs q = absurd (no_import s.manner xs d q)
      beat_below (while_true a) d h xs q = absurd (no_condition s.manner a xs d q)
      beat_below (as_import ys) d h xs q = ((slot_own i f tree R P slot_in w way beat Flags refl h, tt), refl)

      beat_good : P (w ++ k ∷ []) beat → Good (beat_source g s s.manner)
      beat_good h = go h.down h.same h.imports
        where
          go : (ks : List ℕ) → w ++ k ∷ [] ≡ lower i f h.above ks → AreImports i f h.above ks → Good (beat_source g s s.manner)
          go [] d a =
              beat_here s.manner refl h.part h.early (subst (Sees h.part) (sym d) h.sees)
              (subst (λ v. NeedsPlace i h.part.needs (from_top v the_beat)) (sym d) h.needed)
          go (u ∷ ks) d a =
              let o : (w ≡ lower i f h.above ks) × (k ≡ u) = same_end w (lower i f h.above ks) k u d in
              let im : IsImport j1 k = subst (λ v. IsImport (place_there i f v) k) (sym o.0) (subst (IsImport (place_there i f (lower i f h.above ks))) (sym o.1) a.0) in
              beat_below s.manner refl record {
                part = h.part;
                early = h.early;
                above = h.above;
                down = ks;
                same = o.0;
                imports = a.1;
                sees = h.sees;
                needed = h.needed;
              } im.outputs im.manner

      input_beat : (x : Name) → IsNameOn y1 (IsKnown y1) base x → (v : NameSeen (w ++ k ∷ []) x) → NeedsPlace i v.part.needs (from_top (w ++ k ∷ []) the_beat)
      input_beat x o v =
          name_reaches i f v.part.needs (w ++ k ∷ []) below.calls (fits_there (w ++ k ∷ []) below.calls) x
          (subst (λ y. is_declared y (IsKnown y) x) (sym below.place) o.declared) v.needed

      argument_good : (u : ℕ) (x : Name) (a : Expression) → slice_get (inputs_of y1) u ≡ Some x → slice_get s.arguments u ≡ Some a →
          P (w ++ k ∷ []) (named x) → Good (argument_source g s a)
      argument_good u x a d o v =
          let h : NeedsPlace i v.part.needs (from_top (w ++ k ∷ []) the_beat) =
          input_beat x (in_all (IsNameOn y1 (IsKnown y1) base) (inputs_of y1) x fit.inputs (slice_in (inputs_of y1) u x d)) v in
          let z : IsEvaluatedIn i f t v.early.before w s.clock a =
          frame_inputs_come_before p c n j qs ev m f run t l v.early.before v.part v.early.after v.early.place w k v.sees u x a
          (subst (λ y. slice_get (inputs_of y) u ≡ Some x) (sym below.place) d) o v.needed in (
            (
              callee_beat record {
                part = v.part;
                early = v.early;
                above = w ++ k ∷ [];
                down = [];
                same = refl;
                imports = tt;
                sees = v.sees;
                needed = h;
              },
              (on v.part v.early v.sees h, evaluated_seen v.part v.early w s.clock a z),
            ),
            evaluated_quiet v.part v.early s.clock a z,
          )

      output_good : (xs : List Name) → s.manner ≡ as_import xs → (u : ℕ) (o x : Name) → slice_get (outputs_of y1) u ≡ Some o → slice_get xs u ≡ Some x →
          P (w ++ k ∷ []) (named o) → Good (same (numbers_there i w (own (named x))))
      output_good xs d u o x h a v = (
        (
          name_in i f tree R P slot_in w way base x
              (in_all (IsNameOn j1 (IsKnown j1) base) xs x (subst (λ y. MannerFits IsKnown j1 s.clock y y1) d fit.manner).1 (slice_in xs u x a))
              record {
                part = v.part;
                early = v.early;
                sees = sees_parent v.part w k v.sees;
                needed = subst (NeedsPlace i v.part.needs) (own_name w x)
                    (reach_caller i f v.part.needs w k way counted listed_one (Some o) v.needed (a_name [] x)
                    (in_right (a_name [] x) (matching (λ b. site_needs j1 (modes_need j1) s s.manner ++ needs j1 (modes_need j1) s.clock b) o (inputs_of y1) s.arguments)
                    (shared_needs s.manner o (outputs_of y1))
                    (subst (λ y. IsIn (a_name [] x) (shared_needs y o (outputs_of y1))) (sym d)
                    (in_matching (λ y. a_name [] y ∷ []) o (outputs_of y1) xs u x h a (a_name [] x) (inl refl)))));
              },
          tt,
        ),
        refl,
      )

      call_gives : Gives at_place Good w j1 (numbers_there i w) k s y1
      call_gives = record {
        beats = beat_good;
        inputs = argument_good;
        outputs = output_good;
        helds = λ a d. everywhere (λ v. P w (held k v.name.text) → Good (held_source g s v)) (λ v h. (tt, refl)) (component_of y1).outputs;
      }

    frame_obliged : Obliged at_place Good w j1 (numbers_there i w)
    frame_obliged = record {
      names = all_from (StreamFits j1 (IsKnown j1)) (λ v. P w (named v.name.text) → Good (listed (switch_of g (clock_from v.clock)))) stream_good
          (variables (component_of j1)) (fits_there w way).streams;
      rights = all_from (λ d. IsIn d (equations (component_of j1)) × EquationFits j1 (IsKnown j1) d)
          (λ d. AllByRecursion (λ x. P w (named x) →
          AllByRecursion (λ r. Good (given (switch_of g (clock_of_names (component_of j1) d.names)) r)) (right_resolutions g d.right)) d.names)
          (λ d h. all_from (λ x. (named_in x d.names ≡ true) × IsNameOn j1 (IsKnown j1) (clock_of_names (component_of j1) d.names) x)
          (λ x. P w (named x) →
          AllByRecursion (λ r. Good (given (switch_of g (clock_of_names (component_of j1) d.names)) r)) (right_resolutions g d.right))
          (λ x u k. side_good d h.0 h.1 x u.0 u.1 k) d.names
          (join_all (λ x. named_in x d.names ≡ true) (IsNameOn j1 (IsKnown j1) (clock_of_names (component_of j1) d.names)) d.names
          (all_named (λ x. named_in x d.names ≡ true) d.names (λ x u. u)) h.1.names)) (equations (component_of j1))
          (join_all (λ d. IsIn d (equations (component_of j1))) (EquationFits j1 (IsKnown j1)) (equations (component_of j1))
          (all_in_self (equations (component_of j1))) (fits_there w way).equations);
      remembered = everywhere (λ o. P w (memory o.number) → Good (memory_source g o)) (λ o h. (tt, refl)) (in_order (λ p. p.number) (memories (component_of j1)));
      started = everywhere (λ a. P w (starting a.number) → Good (start_source g a)) (λ a h. (tt, refl)) (in_order (λ p. p.number) (starts (component_of j1)));
      unread = λ h. h;
      calls = call_gives;
    }

  obliged : (w : List ℕ) (z : Instance) → StandsAt i f w z → Obliged at_place Good w z (numbers_there i w)
  obliged w z s = subst (λ y. Obliged at_place Good w y (numbers_there i w)) s.place (frame_obliged w s.calls)

  all_sources : Both (GoodAt at_place Good) (slots i) (sources_of i)
  all_sources = all_good at_place Good i f obliged (stands_there i f [] tt tree) tree (λ h. (tt, refl))

  pub source_seen : (k : ℕ) (s : Source) → slice_get (sources_of i) k ≡ Some s → R k → Good s
  source_seen k s h r =
      let y = both_at (GoodAt at_place Good) (slots i) (sources_of i) all_sources k s h in
      y.2 (subst at_place (place_of_slot i k y.0 y.1) r)

  pub own_reads : AllByRecursion R (part_reads i q)
  own_reads = part_seen q last
