-- The sources of the slots on which the parts of an instant rest.
use Rattle.std.proofs.Common.{◌≡◌, ℕ, pred, ◌<◌, Bool, true, List, [], ◌∷◌, ◌++◌, refl, ap, ◌∙◌, sym, subst, Some, slice_get}
use Rattle.std.specs.List.{AllByRecursion}
use Rattle.std.proofs.Math.Logic.{inl, inr}
use Rattle.std.proofs.lemmas.Bool.{false≢true, eqb-true, eq-eqb}
use Rattle.lus_tree.specs.declared.place.Sort.{Sort}
use Rattle.lus_tree.specs.declared.place.Sort.TheVariants.{Bool as Flags}
use Rattle.lus_tree.specs.Tree.{Name, Variable, Expression, truth, number, name, negation, minus, pre, arrow, binary, choice, sampled, merged, call, condact, mode_name}
use Rattle.lus_meaning.specs.Frame.{Frame}
use Rattle.lus_meaning.specs.Scene.{Clock, base, sampled_by, Manner, plain, while_true, as_import, Site, Instance, component_of, calls_of, call_instance, clock_from, clock_of_names, variables}
use Rattle.lus_meaning.specs.Occurrences.{Memory, memories, Start, starts}
use Rattle.lus_meaning.specs.Program.{in_order}
use Rattle.lus_meaning.specs.Run.{Equation, equations, sort_of_name}
use Rattle.lus_meaning.specs.Depends.{named_in}
use Rattle.lus_meaning.specs.Slots.{slots}
use Rattle.lus_meaning.specs.Trace.{same_numbers}
use Rattle.lus_meaning.specs.Verdict.{throughout}
use Rattle.lus_meaning.proofs.Members.{IsIn}
use Rattle.lus_meaning.proofs.InOrder.{in_order_all}
use Rattle.lus_meaning.proofs.Lists.{all_from, append_none, mapped_all}
use Rattle.lus_meaning.proofs.Ranked.{all_named}
use Rattle.sys_meaning.specs.Slot.{Spot, beat, named, memory, starting, held, Place, own, in_call}
use Rattle.sys_meaning.specs.Defaults.{site_of}
use Rattle.sys_meaning.specs.WellTyped.{IsKnown, IsCall, IsNameOn, IsMemory, Stands, StreamFits, EquationFits, MemoryFits, StartFits, MannerFits, CallFits, OwnFits, HasPlaceIn, count_of}
use Rattle.sys_meaning.proofs.Balanced.{join_all}
use Rattle.sys_meaning.proofs.Forward.{own_fits}
use Rattle.sys_meaning.proofs.Shows.{same_ways}
use Rattle.lus_evaluation.specs.Part.{Part}
use Rattle.lus_evaluation.specs.Evaluation.{is_above}
use Rattle.lus_evaluation.specs.Past.{NonePast}
use Rattle.slot_values.specs.Evaluated.{SlotValues, outside}
use Rattle.slot_values.specs.Resolution.{Resolution}
use Rattle.slot_values.specs.Resolved.{Numbering, resolution, right_resolutions}
use Rattle.slot_values.specs.Clocked.{row_by, clock_on}
use Rattle.evaluation_laws.specs.Rows.{AreCalls, row_at, numbers_there}
use Rattle.evaluation_laws.proofs.Waiting.{both_true, both, any_in, in_any}
use Rattle.slot_sources.specs.declared.source.Switch.{Switch}
use Rattle.slot_sources.specs.Source.{Source, given, same, listed}
use Rattle.slot_sources.specs.Rows as rows
use Rattle.slot_sources.specs.Rows.{is_read, outside_now, outside_next, reads_now, reads_before, slots_read}
use Rattle.slot_sources.specs.Sources.{numbering_of, switch_of, call_beat, beat_source, argument_source, held_source, memory_source, start_source, sources_of}
use Rattle.row_laws.proofs.Lists.{some_inner, Both, both_at}
use Rattle.row_laws.proofs.Ranking.{call_of_number}
use Rattle.order_laws.specs.Laws.{IsOneOf}
use Rattle.order_laws.specs.Needed.{IsCalled, IsGiven, IsEvaluatedIn, NoneOutside, OfOperand}
use Rattle.order_laws.specs.Rows.{place_there}
use Rattle.order_laws.proofs.Bodies.{in_all, slice_in}
use Rattle.order_laws.proofs.Frames.{StandsAt, stands_there, stands_called, same_place}
use Rattle.order_laws.proofs.Placed.{all_in_self}
use Rattle.rest_laws.specs.Rests.{part_reads}
use Rattle.rest_laws.proofs.Clocks.{IsClockNamed, fitting_named}
use Rattle.rest_laws.proofs.Facts.{in_of, IsEntered, fitting_call, AreGiven, Facts, PartAtoms, numbering_at, own_operands, resolution_read, part_read, evaluated_read, given_read, switch_is, left_of_all, one_equation}
use Rattle.rest_laws.proofs.Set.{rested, is_entered, entered_in, entered_out, entered_parent, seen_calls, slot_own, name_in, ClockIs, switch_in, AtomsAre, atoms_in, above_itself, same_itself, is_pre, is_pre_of}
use Rattle.rest_laws.proofs.Slots.{place_at, place_of_slot, slot_there}
use Rattle.rest_laws.proofs.Sources.{Gives, Obliged, GoodAt, all_good}

module _ (i : Instance) (f : Frame) (t : ℕ) (qs : List Part) (facts : Facts i f t qs) where
  abbrev row : SlotValues
  row = row_at i f t

  -- the set
  abbrev pub in_set : ℕ → Bool
  in_set k = rested qs (place_at i k).0 (place_at i k).1

  abbrev pub R : ℕ → Type 0
  R k = in_set k ≡ true

  abbrev P : List ℕ → Spot → Type 0
  P w p = rested qs w p ≡ true

  abbrev pub at_place : Place → Type 0
  at_place q = rested qs q.0 q.1 ≡ true

  pub slot_in : (w : List ℕ) → AreCalls i w → (ks : List ℕ) (p : Spot) (z : Sort) → HasPlaceIn IsKnown (as_import []) ks (place_there i f w) p z →
      P (w ++ ks) p → R (numbers_there i w (ks, p))
  slot_in w a ks p z h e = subst at_place (sym (slot_there i f facts.typed w a ks p z h)) e

  pub calls_in : (w : List ℕ) → IsEntered qs w → AreCalls i w
  calls_in w (inl e) = subst (AreCalls i) (sym e) tt
  calls_in w (inr h) = seen_calls i f facts.typed.tree h.0 (facts.calls h.0 h.1) (facts.stands h.0 h.1) w h.2

  -- ---- what parts read

  clock_in : (w : List ℕ) → IsEntered qs w → (c : Clock) → ClockIs i f facts.typed.tree R P slot_in w c
  clock_in w e base = entered_in qs w e
  clock_in w e (sampled_by b x) = entered_in qs w e

  pub on_clock : (w : List ℕ) → IsEntered qs w → (c : Clock) → IsClockNamed (place_there i f w) c → R (switch_of (numbering_at i f t w) c).slot
  on_clock w e c n = switch_in i f facts.typed.tree R P slot_in w (calls_in w e) c n (clock_in w e c)

  all_true : {A : Type 0} (xs : List A) (b : Bool) → b ≡ true → AllByRecursion (λ x. b ≡ true) xs
  all_true [] b e = tt
  all_true (x ∷ xs) b e = (e, all_true xs b e)

  atoms_are : (w : List ℕ) (e : Expression) → IsEntered qs w → ((v : List ℕ) → IsCalled w e v → IsEntered qs v) →
      ((k : ℕ) → is_pre k e ≡ true → P w (memory k)) → AtomsAre i f facts.typed.tree R P slot_in w e
  atoms_are w (name p x) n v m = entered_in qs w n
  atoms_are w (pre p k a) n v m = m k (eq-eqb k k refl)
  atoms_are w (arrow p k a b) n v m = entered_in qs w n
  atoms_are w (sampled p a q x) n v m = entered_in qs w n
  atoms_are w (merged p x a b) n v m = entered_in qs w n
  atoms_are w (call p k z as_) n v m =
      all_true (component_of (call_instance (place_there i f w) k)).outputs (is_entered qs (w ++ k ∷ [])) (entered_in qs (w ++ k ∷ []) (v (w ++ k ∷ []) refl))
  atoms_are w (condact p k a z as_ ds) n v m =
      let there : is_entered qs (w ++ k ∷ []) ≡ true = entered_in qs (w ++ k ∷ []) (v (w ++ k ∷ []) refl) in (
        there,
        all_from (λ x. is_entered qs (w ++ k ∷ []) ≡ true) (λ x. (is_entered qs (w ++ k ∷ []) ≡ true) × P w (held k x.name.text))
            (λ x h. (h, both (is_entered qs w) (is_entered qs (w ++ k ∷ [])) (entered_in qs w n) h)) (component_of (call_instance (place_there i f w) k)).outputs
            (all_true (component_of (call_instance (place_there i f w) k)).outputs (is_entered qs (w ++ k ∷ [])) there),
      )
  atoms_are w (truth p x) n v m = tt
  atoms_are w (number p x) n v m = tt
  atoms_are w (negation p x) n v m = tt
  atoms_are w (minus p x) n v m = tt
  atoms_are w (binary p o x y) n v m = tt
  atoms_are w (choice p x y d) n v m = tt
  atoms_are w (mode_name p d x) n v m = tt

  own_entered : (r : Part) → IsIn r qs → IsEntered qs r.way
  own_entered r h = inr (r, h, inl (above_itself r.way))

  atoms_of : (r : Part) → IsIn r qs → PartAtoms i f t R facts.typed.tree r
  atoms_of r h =
      atoms_in i f facts.typed.tree R P slot_in r.way (facts.calls r h) r.clock r.expression (facts.stands r h)
      (atoms_are r.way r.expression (own_entered r h) (λ v c. inr (r, h, inr c))
      (λ k e. any_in (is_pre_of r.way k) r qs h (both (same_numbers r.way r.way) (is_pre k r.expression) (same_itself r.way) e)))

  pub part_in : (r : Part) → IsIn r qs → AllByRecursion R (part_reads i r)
  part_in r h = (
    subst (λ j. R (switch_of (numbering_of j (numbers_there i r.way)) r.clock).slot) (same_place r.way i throughout f) (on_clock r.way (own_entered r h) r.clock (facts.named r h)),
    part_read i f t R facts.typed.tree r (resolution_read i f t R facts.typed.tree r (facts.calls r h) (atoms_of r h)
        (all_from (IsOneOf qs) (PartAtoms i f t R facts.typed.tree) (λ q o. atoms_of q (in_of o)) (own_operands i f t r) (facts.operands r h))),
  )

  evaluated_in : (w : List ℕ) (c : Clock) (a : Expression) → IsEvaluatedIn i f t qs w c a → AllByRecursion R (slots_read (resolution (numbering_at i f t w) a))
  evaluated_in w c a e = evaluated_read i f t R facts.typed.tree qs (λ r o. facts.calls r (in_of o)) (λ r o. atoms_of r (in_of o)) w c a e

  given_in : (v : List ℕ) (x : Name) → (g : IsGiven i f t qs v x) →
      AllByRecursion (λ e. AllByRecursion R (slots_read e)) (right_resolutions (numbering_at i f t v) g.part.expression)
  given_in v x g = given_read i f t R facts.typed.tree qs (λ r o. facts.calls r (in_of o)) (λ r o. atoms_of r (in_of o)) v x g

  -- ---- sources

  -- what is so of the source of a slot of the set
  pub record Good (e : Source) : Type 0 where
    pub read : is_read e ≡ true
    pub now : AllByRecursion R (reads_now e)
    pub before : AllByRecursion R (reads_before e)
    pub within : NonePast i f qs t → (outside_now row e ≡ []) × (outside_next row e ≡ [])

  -- where no part is outside, no operation of these is, on their clock
  abbrev Quiet : Switch → Resolution → Type 0
  Quiet y r = NonePast i f qs t → outside row (rows.is_on row y) r ≡ []

  given_good : (y : Switch) → R y.slot → (rs : List Resolution) → AllByRecursion (λ r. AllByRecursion R (slots_read r)) rs →
      (NonePast i f qs t → AllByRecursion (λ r. outside row (rows.is_on row y) r ≡ []) rs) → AllByRecursion (λ r. Good (given y r)) rs
  given_good y h [] a q = tt
  given_good y h (r ∷ rs) a q =
      (record { read = refl; now = (h, a.0); before = tt; within = λ n. ((q n).0, refl) }, given_good y h rs a.1 (λ n. (q n).1))

  module _ (w : List ℕ) (calls : AreCalls i w) where
    abbrev j : Instance
    j = place_there i f w

    abbrev g : Numbering
    g = numbering_at i f t w

    fits : OwnFits j (IsKnown j)
    fits = own_fits IsKnown j (stands_there i f w calls facts.typed.tree).fits

    by_switch : (c : Clock) (r : Resolution) → outside row (clock_on (row_by (numbers_there i w) row) c) r ≡ [] →
        outside row (rows.is_on row (switch_of g c)) r ≡ []
    by_switch c r e = subst (λ b. outside row b r ≡ []) (sym (switch_is row g c)) e

    evaluated_quiet : (c : Clock) (a : Expression) → IsEvaluatedIn i f t qs w c a → Quiet (switch_of g c) (resolution g a)
    evaluated_quiet c a e n = by_switch c (resolution g a) (facts.argument_none qs [] (sym (append_none qs)) n w c a e)

    -- equations
    side_good : (e : Equation) → IsIn e (equations (component_of j)) → EquationFits j (IsKnown j) e → (x : Name) → named_in x e.names ≡ true →
        P w (named x) → AllByRecursion (λ r. Good (given (switch_of g (clock_of_names (component_of j) e.names)) r)) (right_resolutions g e.right)
    side_good e h fit x n k =
        subst (λ c. AllByRecursion (λ r. Good (given (switch_of g c) r)) (right_resolutions g e.right)) clock
        (subst (λ a. AllByRecursion (λ r. Good (given (switch_of g v.part.clock) r)) (right_resolutions g a)) right
        (given_good (switch_of g v.part.clock) (on_clock w there v.part.clock (subst (IsClockNamed j) (sym clock) (fitting_named j _ fit.clock)))
        (right_resolutions g v.part.expression) (given_in w x v)
        (λ q. all_from (NoneOutside i f t w v.part.clock) (λ r. outside row (rows.is_on row (switch_of g v.part.clock)) r ≡ [])
        (λ r z. by_switch v.part.clock r z) (right_resolutions g v.part.expression) (facts.given_none qs [] (sym (append_none qs)) q w x v))))
      where
        there : IsEntered qs w
        there = entered_out qs w k

        v : IsGiven i f t qs w x
        v = facts.sides w there x (left_of_all x (equations (component_of j)) e h n)

        same_one : v.side.equation ≡ e
        same_one =
            one_equation x (equations (component_of j)) (facts.once w calls) v.side.equation e
            (slice_in (equations (component_of j)) v.side.there.0 v.side.equation v.side.there.1) h
            (subst (λ l. named_in x l ≡ true) v.side.names (both_true (same_numbers w v.part.way) (named_in x v.part.gives) v.gives).1) n

        clock : v.part.clock ≡ clock_of_names (component_of j) e.names
        clock = v.side.clock ∙ ap (λ z. clock_of_names (component_of j) z.names) same_one

        right : v.part.expression ≡ e.right
        right = v.side.right ∙ ap (λ z. z.right) same_one

    -- memories
    memory_by : (k : ℕ) (c : Clock) (e : Expression) → is_pre k e ≡ true → Stands j (IsKnown j) c e → OfOperand (IsEvaluatedIn i f t qs w c) e →
        (a : Expression) × IsMemory j (IsKnown j) k c a × IsEvaluatedIn i f t qs w c a
    memory_by k c (pre p l a) b st e = (a, subst (λ n. IsMemory j (IsKnown j) n c a) (eqb-true l k b) st.0, e)
    memory_by k c (truth p x) b st e = absurd (false≢true b)
    memory_by k c (number p x) b st e = absurd (false≢true b)
    memory_by k c (name p x) b st e = absurd (false≢true b)
    memory_by k c (negation p x) b st e = absurd (false≢true b)
    memory_by k c (minus p x) b st e = absurd (false≢true b)
    memory_by k c (arrow p l x y) b st e = absurd (false≢true b)
    memory_by k c (binary p o x y) b st e = absurd (false≢true b)
    memory_by k c (choice p x y d) b st e = absurd (false≢true b)
    memory_by k c (sampled p x q y) b st e = absurd (false≢true b)
    memory_by k c (merged p y x d) b st e = absurd (false≢true b)
    memory_by k c (call p l z as_) b st e = absurd (false≢true b)
    memory_by k c (condact p l x z as_ ds) b st e = absurd (false≢true b)
    memory_by k c (mode_name p d m) b st e = absurd (false≢true b)

    memory_good : (m : Memory) → MemoryFits j (IsKnown j) m → P w (memory m.number) → Good (memory_source g m)
    memory_good m fit h = record {
      read = refl;
      now = tt;
      before = (
        on_clock w (inr (q, r.1, inl (subst (λ v. is_above v q.way ≡ true) (sym same_way) (above_itself q.way)))) m.clock (fitting_named j m.clock fit.clock),
        evaluated_in w m.clock m.operand operand,
      );
      within = λ n. (refl, evaluated_quiet m.clock m.operand operand n);
    }
      where
        r : (q : Part) × IsIn q qs × (is_pre_of w m.number q ≡ true)
        r = in_any (is_pre_of w m.number) qs h

        q : Part
        q = r.0

        test : (same_numbers w q.way ≡ true) × (is_pre m.number q.expression ≡ true)
        test = both_true (same_numbers w q.way) (is_pre m.number q.expression) r.2

        same_way : w ≡ q.way
        same_way = same_ways w q.way test.0

        one : (a : Expression) × IsMemory j (IsKnown j) m.number q.clock a × IsEvaluatedIn i f t qs w q.clock a
        one =
            memory_by m.number q.clock q.expression test.1
            (subst (λ v. Stands (place_there i f v) (IsKnown (place_there i f v)) q.clock q.expression) (sym same_way) (facts.stands q r.1))
            (subst (λ v. OfOperand (IsEvaluatedIn i f t qs v q.clock) q.expression) (sym same_way) (facts.remembered q r.1))

        same_one : (let y : Memory = record { number = m.number; clock = q.clock; operand = one.0 } in y) ≡ m
        same_one = some_inner (record { number = m.number; clock = q.clock; operand = one.0 }) m (sym one.1 ∙ fit.found)

        operand : IsEvaluatedIn i f t qs w m.clock m.operand
        operand =
            subst (λ a. IsEvaluatedIn i f t qs w m.clock a) (ap (λ y. y.operand) same_one)
            (subst (λ c. IsEvaluatedIn i f t qs w c one.0) (ap (λ y. y.clock) same_one) one.2)

    stream_good : (v : Variable) → StreamFits j (IsKnown j) v → P w (named v.name.text) → Good (listed (switch_of g (clock_from v.clock)))
    stream_good v fit h = record {
      read = refl;
      now = (on_clock w (entered_out qs w h) (clock_from v.clock) (fitting_named j (clock_from v.clock) fit.clock), tt);
      before = tt;
      within = λ n. (refl, refl);
    }

    start_good : (a : Start) → StartFits j (IsKnown j) a → P w (starting a.number) → Good (start_source g a)
    start_good a fit h = record {
      read = refl;
      now = tt;
      before = (on_clock w (entered_out qs w h) a.clock (fitting_named j a.clock fit.clock), tt);
      within = λ n. (refl, refl);
    }

    -- ---- a call

    module _ (k : ℕ) (counted : 0 < k) (listed_one : pred k < count_of (calls_of j)) where
      abbrev c : Site
      c = site_of j k

      abbrev z : Instance
      z = call_instance j k

      fit : CallFits IsKnown j c z (pred k)
      fit = fitting_call j (stands_there i f w calls facts.typed.tree).fits k counted listed_one

      called : IsCall j (IsKnown j) k
      called = call_of_number j (stands_there i f w calls facts.typed.tree).fits k counted listed_one

      callee_slot : (p : Spot) (y : Sort) → HasPlaceIn IsKnown (as_import []) (k ∷ []) j p y → P (w ++ k ∷ []) p → R (numbers_there i w (c.number ∷ [], p))
      callee_slot p y h e = subst (λ n. R (numbers_there i w (n ∷ [], p))) (sym called.number) (slot_in w calls (k ∷ []) p y h e)

      callee_beat : is_entered qs (w ++ k ∷ []) ≡ true → R (call_beat g c)
      callee_beat e = callee_slot beat Flags (called, refl) e

      callee_name : (x : Name) → IsNameOn z (IsKnown z) base x → is_entered qs (w ++ k ∷ []) ≡ true → R (numbers_there i w (in_call c.number (own (named x))))
      callee_name x n e = callee_slot (named x) (sort_of_name z x) (called, (n.declared, n.stream, refl)) e

      here_from : is_entered qs (w ++ k ∷ []) ≡ true → IsEntered qs w
      here_from e = entered_parent qs w k (entered_out qs (w ++ k ∷ []) e)

      on : is_entered qs (w ++ k ∷ []) ≡ true → R (switch_of g c.clock).slot
      on e = on_clock w (here_from e) c.clock (fitting_named j c.clock fit.clock)

      given_to : is_entered qs (w ++ k ∷ []) ≡ true → AreGiven i f t qs w k
      given_to e = facts.given w k (entered_out qs (w ++ k ∷ []) e)

      beat_good : (m : Manner) → c.manner ≡ m → is_entered qs (w ++ k ∷ []) ≡ true → Good (beat_source g c m)
      beat_good plain q e = record { read = refl; now = (on e, tt); before = tt; within = λ n. (refl, refl) }
      beat_good (while_true a) q e = record {
        read = refl;
        now = (on e, evaluated_in w c.clock a ((given_to e).conditions a q));
        before = tt;
        within = λ n. (evaluated_quiet c.clock a ((given_to e).conditions a q) n, refl);
      }
      beat_good (as_import xs) q e = record {
        read = refl;
        now = (slot_own i f facts.typed.tree R P slot_in w calls beat Flags refl (entered_in qs w (here_from e)), tt);
        before = tt;
        within = λ n. (refl, refl);
      }

      argument_good : (a : Expression) → IsIn a c.arguments → is_entered qs (w ++ k ∷ []) ≡ true → Good (argument_source g c a)
      argument_good a h e =
          let v : IsEvaluatedIn i f t qs w c.clock a = in_all (IsEvaluatedIn i f t qs w c.clock) c.arguments a (given_to e).arguments h in
          record {
            read = refl;
            now = (callee_beat e, (on e, evaluated_in w c.clock a v));
            before = tt;
            within = λ n. (evaluated_quiet c.clock a v n, refl);
          }

      output_good : (xs : List Name) → c.manner ≡ as_import xs → (x : Name) → IsIn x xs → is_entered qs (w ++ k ∷ []) ≡ true →
          Good (same (numbers_there i w (own (named x))))
      output_good xs q x h e = record {
        read = refl;
        now = (
          name_in i f facts.typed.tree R P slot_in w calls base x
              (in_all (IsNameOn j (IsKnown j) base) xs x (subst (λ m. MannerFits IsKnown j c.clock m z) q fit.manner).1 h) (entered_in qs w (here_from e)),
          tt,
        );
        before = tt;
        within = λ n. (refl, refl);
      }

      held_good : (v : Variable) → IsNameOn z (IsKnown z) base v.name.text → P w (held k v.name.text) → Good (held_source g c v)
      held_good v n h =
          let e : is_entered qs (w ++ k ∷ []) ≡ true = (both_true (is_entered qs w) (is_entered qs (w ++ k ∷ [])) h).1 in
          record { read = refl; now = tt; before = (callee_beat e, (callee_name v.name.text n e, tt)); within = λ n. (refl, refl) }

      call_gives : Gives at_place Good w j (numbers_there i w) k c z
      call_gives = record {
        beats = λ e. beat_good c.manner refl e;
        inputs = λ n x a d h e. argument_good a (slice_in c.arguments n a h) e;
        outputs = λ xs q n y x d h e. output_good xs q x (slice_in xs n x h) e;
        helds = λ a q. all_from (λ v. IsNameOn z (IsKnown z) base v.name.text) (λ v. P w (held k v.name.text) → Good (held_source g c v)) held_good
            (component_of z).outputs (mapped_all (IsNameOn z (IsKnown z) base) (λ v. v.name.text) (component_of z).outputs fit.outputs);
      }

    frame_obliged : Obliged at_place Good w j (numbers_there i w)
    frame_obliged = record {
      names = all_from (StreamFits j (IsKnown j)) (λ v. P w (named v.name.text) → Good (listed (switch_of g (clock_from v.clock)))) stream_good
          (variables (component_of j)) fits.streams;
      rights = all_from (λ e. IsIn e (equations (component_of j)) × EquationFits j (IsKnown j) e)
          (λ e. AllByRecursion (λ x. P w (named x) →
          AllByRecursion (λ r. Good (given (switch_of g (clock_of_names (component_of j) e.names)) r)) (right_resolutions g e.right)) e.names)
          (λ e h. all_named (λ x. P w (named x) →
          AllByRecursion (λ r. Good (given (switch_of g (clock_of_names (component_of j) e.names)) r)) (right_resolutions g e.right)) e.names
          (λ x n k. side_good e h.0 h.1 x n k)) (equations (component_of j))
          (join_all (λ e. IsIn e (equations (component_of j))) (EquationFits j (IsKnown j)) (equations (component_of j))
          (all_in_self (equations (component_of j))) fits.equations);
      remembered = all_from (MemoryFits j (IsKnown j)) (λ m. P w (memory m.number) → Good (memory_source g m)) memory_good
          (in_order (λ p. p.number) (memories (component_of j))) (in_order_all (λ p. p.number) (MemoryFits j (IsKnown j)) (memories (component_of j)) fits.memories);
      started = all_from (StartFits j (IsKnown j)) (λ a. P w (starting a.number) → Good (start_source g a)) start_good
          (in_order (λ p. p.number) (starts (component_of j))) (in_order_all (λ p. p.number) (StartFits j (IsKnown j)) (starts (component_of j)) fits.starts);
      unread = λ h. false≢true h;
      calls = call_gives;
    }

  -- the names of a frame that is entered
  pub names_in : (w : List ℕ) → IsEntered qs w →
      AllByRecursion (λ v. R (numbers_there i w (own (named v.name.text)))) (variables (component_of (place_there i f w)))
  names_in w e =
      all_from (StreamFits (place_there i f w) (IsKnown (place_there i f w))) (λ v. R (numbers_there i w (own (named v.name.text))))
      (λ v fit. name_in i f facts.typed.tree R P slot_in w (calls_in w e) (clock_from v.clock) v.name.text fit.name (entered_in qs w e))
      (variables (component_of (place_there i f w))) (own_fits IsKnown (place_there i f w) (stands_there i f w (calls_in w e) facts.typed.tree).fits).streams

  -- a frame whose beat is in the set, and the one above
  pub beat_up : (w : List ℕ) (j : Instance) → StandsAt i f w j → (k : ℕ) → 0 < k → pred k < count_of (calls_of j) →
      R (numbers_there i (w ++ k ∷ []) (own beat)) → R (numbers_there i w (own beat))
  beat_up w j s k c l h =
      let v : List ℕ = w ++ k ∷ [] in
      let e : is_entered qs v ≡ true =
      subst (λ z. is_entered qs z ≡ true) (append_none v)
      (subst at_place (slot_there i f facts.typed v (stands_called i f w j s k c l).calls [] beat Flags refl) h) in
      slot_own i f facts.typed.tree R P slot_in w s.calls beat Flags refl (entered_in qs w (entered_parent qs w k (entered_out qs v e)))

  obliged : (w : List ℕ) (j : Instance) → StandsAt i f w j → Obliged at_place Good w j (numbers_there i w)
  obliged w j s = subst (λ y. Obliged at_place Good w y (numbers_there i w)) s.place (frame_obliged w s.calls)

  -- of each slot of the set the source is good
  pub all_sources : Both (GoodAt at_place Good) (slots i) (sources_of i)
  all_sources =
      all_good at_place Good i f obliged (stands_there i f [] tt facts.typed.tree) facts.typed.tree
      (λ e. record { read = refl; now = tt; before = tt; within = λ n. (refl, refl) })

  pub source_good : (k : ℕ) (e : Source) → slice_get (sources_of i) k ≡ Some e → R k → Good e
  source_good k e h r =
      let y = both_at (GoodAt at_place Good) (slots i) (sources_of i) all_sources k e h in
      y.2 (subst at_place (place_of_slot i k y.0 y.1) r)
