-- What has been evaluated has no operation outside 128 bits in the row of the run.
use Rattle.std.proofs.Common.{◌≡◌, ℕ, ◌<◌, Bool, true, false, cond, Option, arith, List, [], ◌∷◌, ◌++◌, map, length, None, refl, ◌∙◌, sym, subst, ap}
use Rattle.std.specs.Prelude.{Contains}
use Rattle.std.specs.List.{AllByRecursion}
use Rattle.lus_tree.specs.Tree.{Name, Variable, Expression, truth, number, name, negation, minus, pre, arrow, binary, choice, sampled, merged, call, condact, mode_name, Component, Program}
use Rattle.lus_meaning.specs.Frame.{Frame}
use Rattle.lus_meaning.specs.Scene.{Clock, Instance, component_of, call_instance, is_on}
use Rattle.lus_meaning.specs.Occurrences.{own}
use Rattle.lus_meaning.specs.Program.{instance_of}
use Rattle.lus_meaning.specs.Run.{IsRun}
use Rattle.lus_meaning.specs.Trace.{same_numbers}
use Rattle.lus_meaning.specs.Verdict.{throughout}
use Rattle.lus_meaning.specs.ClockFaults.{components}
use Rattle.lus_meaning.specs.Refusals.{IsChecked}
use Rattle.lus_meaning.proofs.Members.{IsIn}
use Rattle.sys_meaning.specs.Items.{Key}
use Rattle.sys_meaning.specs.WellTyped.{IsKnown, Stands}
use Rattle.sys_meaning.proofs.Shows.{same_ways}
use Rattle.lus_evaluation.specs.Part.{Part}
use Rattle.lus_evaluation.specs.Evaluation.{IsEvaluation}
use Rattle.lus_evaluation.specs.Past.{past_in, part_past, NonePast}
use Rattle.lus_evaluation.specs.Turn.{in_turn}
use Rattle.slot_values.specs.Evaluated.{SlotValues, told, outside}
use Rattle.slot_values.specs.Resolution.{Resolution}
use Rattle.slot_values.specs.Resolved.{Numbering, output_resolution, latest_resolution, first_resolution, right_resolutions, resolution, outputs_at}
use Rattle.slot_values.specs.Clocked.{row_by, clock_on}
use Rattle.slot_values.specs.FrameRow.{numbering}
use Rattle.evaluation_laws.specs.Rows.{row_at, scene_there, numbers_there, modes_there, resolution_there}
use Rattle.evaluation_laws.proofs.Waiting.{both_true}
use Rattle.order_laws.specs.Laws.{IsOneOf}
use Rattle.order_laws.specs.Needed.{IsGiven, IsEvaluatedIn, NoneOutside, right_there, GivenNamesAreWithin, ArgumentsAreWithin, OfCondition, ConditionsAreWithin, OfOperand, RememberedOperandsAreWithin}
use Rattle.order_laws.proofs.Lists.{grouped, left_of, right_of}
use Rattle.order_laws.proofs.Placed.{CalledIn, PartIn}
use Rattle.order_laws.proofs.Bodies.{picked_in, slice_below}
use Rattle.order_laws.proofs.Evaluated.{firsts, first_at}
use Rattle.order_laws.proofs.FirstByRows as b

-- ---- right sides

module _ (s : SlotValues) (on : Bool) (g : Numbering) where
  abbrev None_ : Resolution → Type 0
  None_ r = outside s on r ≡ []

  outputs_none : (k : ℕ) (ys : List Name) → AllByRecursion None_ (map (output_resolution g k) ys)
  outputs_none k [] = tt
  outputs_none k (y ∷ ys) = (refl, outputs_none k ys)

  latest_none : (k : ℕ) (a : Resolution) (ys : List Name) → None_ a → AllByRecursion None_ (map (latest_resolution g k a) ys)
  latest_none k a [] h = tt
  latest_none k a (y ∷ ys) h = (h, latest_none k a ys h)

  held_none : (k : ℕ) (a : Resolution) (ys : List Name) → None_ (first_resolution (map (latest_resolution g k a) ys)) →
      AllByRecursion None_ (map (latest_resolution g k a) ys)
  held_none k a [] h = tt
  held_none k a (y ∷ ys) h = (h, latest_none k a ys h)

  rights_none : (e : Expression) → None_ (resolution g e) → AllByRecursion None_ (right_resolutions g e)
  rights_none (call p k n as_) h = outputs_none k (outputs_at g k)
  rights_none (condact p k a n as_ ds) h = held_none k (resolution g a) (outputs_at g k) h
  rights_none (truth p a) h = (h, tt)
  rights_none (number p a) h = (h, tt)
  rights_none (name p a) h = (h, tt)
  rights_none (negation p a) h = (h, tt)
  rights_none (minus p a) h = (h, tt)
  rights_none (pre p l a) h = (h, tt)
  rights_none (arrow p l a d) h = (h, tt)
  rights_none (binary p o a d) h = (h, tt)
  rights_none (choice p a d e) h = (h, tt)
  rights_none (sampled p a q x) h = (h, tt)
  rights_none (merged p x a d) h = (h, tt)
  rights_none (mode_name p d m) h = (h, tt)

-- ---- conditions

cond_none : {X : Type 0} (c : Bool) → cond c None None ≡ (let o : Option X = None in o)
cond_none true = refl
cond_none false = refl

module _ (s : SlotValues) (on : Bool) (g : Numbering) (M : Key → Type 0) where
  first_held : (k : ℕ) (a : Resolution) (vs : List Variable) → 0 < length vs →
      outside s on (first_resolution (map (latest_resolution g k a) (map (λ v. v.name.text) vs))) ≡ [] → outside s on a ≡ []
  first_held k a [] l h = absurd (omega (arith, l))
  first_held k a (v ∷ vs) l h = h

  condition_none : (c : Clock) (e : Expression) → Stands g.place M c e → outside s on (resolution g e) ≡ [] →
      OfCondition (λ a. outside s on (resolution g a) ≡ []) e
  condition_none c (condact p k a n as_ ds) st h = first_held k (resolution g a) (component_of (call_instance g.place k)).outputs st.0.outputs h
  condition_none c (call p k n as_) st h = tt
  condition_none c (truth p a) st h = tt
  condition_none c (number p a) st h = tt
  condition_none c (name p a) st h = tt
  condition_none c (negation p a) st h = tt
  condition_none c (minus p a) st h = tt
  condition_none c (pre p l a) st h = tt
  condition_none c (arrow p l a d) st h = tt
  condition_none c (binary p o a d) st h = tt
  condition_none c (choice p a d e) st h = tt
  condition_none c (sampled p a q x) st h = tt
  condition_none c (merged p x a d) st h = tt
  condition_none c (mode_name p d m) st h = tt

module _ (p : Program) (c : IsChecked p) (n : Component) (j : Contains (components p) n) (qs : List Part) (ev : IsEvaluation (instance_of p n) qs)
    (m : ℕ) (f : Frame) (run : IsRun (instance_of p n) m throughout f) (t : ℕ) (l : t < m) where
  abbrev i : Instance
  i = instance_of p n

  abbrev ps : List Part
  ps = in_turn ev.orders i

  abbrev Fine : Part → Type 0
  Fine q = part_past i f q t ≡ None

  -- a part that is within, behind parts that are
  part_none : (front : List Part) (q : Part) (rest : List Part) → qs ≡ front ++ q ∷ rest → NonePast i f front t → Fine q →
      NoneOutside i f t q.way q.clock (resolution_there i f q.way q.expression)
  part_none front q rest e none mine =
      subst (λ z. outside (row_at i f t) z (resolution_there i f q.way q.expression) ≡ [])
      (sym (b.here p c n j qs ev m f run t l front q rest e).clock)
      (b.own_here p c n j qs ev m f run t l front q rest e none ∙ ap (told (own q.expression)) mine)

  part_within : (zs : List Part) (q : Part) (rest : List Part) → qs ≡ zs ++ rest → NonePast i f zs t → IsOneOf zs q →
      NoneOutside i f t q.way q.clock (resolution_there i f q.way q.expression)
  part_within zs q rest e none o =
      let both : NonePast i f (o.before ++ q ∷ o.after) t = subst (λ l. NonePast i f l t) o.split none in
      part_none o.before q (o.after ++ rest) (e ∙ ap (λ l. l ++ rest) o.split ∙ grouped o.before (q ∷ o.after) rest)
      (left_of Fine o.before (q ∷ o.after) both) (right_of Fine o.before (q ∷ o.after) both).0

  pub given_within : (front rest : List Part) → qs ≡ front ++ rest → NonePast i f front t → (v : List ℕ) (x : Name) →
      (g : IsGiven i f t front v x) → AllByRecursion (NoneOutside i f t v g.part.clock) (right_there i f v g.part.expression)
  given_within front rest e none v x g =
      let same : v ≡ g.part.way = same_ways v g.part.way (both_true (same_numbers v g.part.way) _ g.gives).0 in
      rights_none (row_at i f t) (clock_on (row_by (numbers_there i v) (row_at i f t)) g.part.clock)
      (numbering (scene_there i f v) (numbers_there i v) (modes_there i f v)) g.part.expression
      (subst (λ z. NoneOutside i f t z g.part.clock (resolution_there i f z g.part.expression)) (sym same)
      (part_within front g.part rest e none g.there))

  pub argument_within : (front rest : List Part) → qs ≡ front ++ rest → NonePast i f front t → (w : List ℕ) (d : Clock) (a : Expression) →
      IsEvaluatedIn i f t front w d a → NoneOutside i f t w d (resolution_there i f w a)
  argument_within front rest e none w d a h =
      subst (λ z. NoneOutside i f t z d (resolution_there i f z a)) h.way
      (subst (λ z. NoneOutside i f t h.part.way z (resolution_there i f h.part.way a)) h.clock
      (subst (λ z. NoneOutside i f t h.part.way h.part.clock (resolution_there i f h.part.way z)) h.expression
      (part_within front h.part rest e none h.there)))

  module _ (front : List Part) (q : Part) (rest : List Part) (e : qs ≡ front ++ q ∷ rest) (none : NonePast i f front t) where
    abbrev Condition : Expression → Type 0
    Condition x = OfCondition (λ a. NoneOutside i f t q.way q.clock (resolution_there i f q.way a)) x

    by_condition : (x : Expression) → q.expression ≡ x → Condition x
    by_condition (condact h k a z as_ ds) r =
        condition_none (row_at i f t) (clock_on (row_by (numbers_there i q.way) (row_at i f t)) q.clock)
        (numbering (scene_there i f q.way) (numbers_there i q.way) (modes_there i f q.way)) (IsKnown (scene_there i f q.way).place) q.clock
        (condact h k a z as_ ds)
        (subst (Stands (scene_there i f q.way).place (IsKnown (scene_there i f q.way).place) q.clock) r (b.here p c n j qs ev m f run t l front q rest e).stands)
        (subst (λ y. NoneOutside i f t q.way q.clock (resolution_there i f q.way y)) r (part_none front q rest e none
        (subst (λ y. past_in (scene_there i f q.way) q.clock y t ≡ None) (sym r) (cond_none (is_on (scene_there i f q.way) q.clock t)))))
    by_condition (call h k z as_) r = tt
    by_condition (truth h a) r = tt
    by_condition (number h a) r = tt
    by_condition (name h a) r = tt
    by_condition (negation h a) r = tt
    by_condition (minus h a) r = tt
    by_condition (pre h k a) r = tt
    by_condition (arrow h k a d) r = tt
    by_condition (binary h o a d) r = tt
    by_condition (choice h a d z) r = tt
    by_condition (sampled h a k x) r = tt
    by_condition (merged h x a d) r = tt
    by_condition (mode_name h d x) r = tt

    pub condition_within : Condition q.expression
    condition_within = by_condition q.expression refl

  -- ---- memories

  part_listed : (k : ℕ) (r : Part) → IsIn r (firsts k ps) → IsOneOf qs r
  part_listed k r h =
      let z = first_at k ps r h in
      b.one_of qs r (subst (λ l. IsIn r l) (sym ev.parts)
      (picked_in ev.numbers ps z.0 r z.2 (ev.turn.order.all z.0 (slice_below ps z.0 r z.2))))

  operand_within : NonePast i f qs t → (w : List ℕ) (k : ℕ) (d : Clock) (a : Expression) → PartIn i f t w (firsts k ps) d a →
      NoneOutside i f t w d (resolution_there i f w a)
  operand_within none w k d a h =
      subst (λ z. NoneOutside i f t z d (resolution_there i f z a)) h.way
      (subst (λ z. NoneOutside i f t h.part.way z (resolution_there i f h.part.way a)) h.clock
      (subst (λ z. NoneOutside i f t h.part.way h.part.clock (resolution_there i f h.part.way z)) h.expression
      (part_within qs h.part [] (all_of qs) none (part_listed k h.part h.there))))
    where
      all_of : (zs : List Part) → zs ≡ zs ++ []
      all_of [] = refl
      all_of (z ∷ zs) = ap (λ l. z ∷ l) (all_of zs)

  pub remembered_within : NonePast i f qs t → (w : List ℕ) (k : ℕ) (d : Clock) (e : Expression) → CalledIn i f t w (firsts k ps) d e →
      OfOperand (λ a. NoneOutside i f t w d (resolution_there i f w a)) e
  remembered_within none w k d (pre q l a) h = operand_within none w k d a h
  remembered_within none w k d (call q l z as_) h = tt
  remembered_within none w k d (condact q l a z as_ ds) h = tt
  remembered_within none w k d (truth q a) h = tt
  remembered_within none w k d (number q a) h = tt
  remembered_within none w k d (name q a) h = tt
  remembered_within none w k d (negation q a) h = tt
  remembered_within none w k d (minus q a) h = tt
  remembered_within none w k d (arrow q l a z) h = tt
  remembered_within none w k d (binary q o a z) h = tt
  remembered_within none w k d (choice q a z e) h = tt
  remembered_within none w k d (sampled q a z x) h = tt
  remembered_within none w k d (merged q x a z) h = tt
  remembered_within none w k d (mode_name q x z) h = tt

pub given_names_are_within : GivenNamesAreWithin
given_names_are_within p c n j qs ev m f run t l front rest e none v x g = given_within p c n j qs ev m f run t l front rest e none v x g

pub remembered_operands_are_within : RememberedOperandsAreWithin
remembered_operands_are_within p c n j qs ev m f run t l none front q rest e =
    remembered_within p c n j qs ev m f run t l none q.way (b.at p c n j qs ev m f run t l front q rest e).number q.clock q.expression
    (b.here p c n j qs ev m f run t l front q rest e).called

pub arguments_are_within : ArgumentsAreWithin
arguments_are_within p c n j qs ev m f run t l front rest e none w d a h = argument_within p c n j qs ev m f run t l front rest e none w d a h

pub conditions_are_within : ConditionsAreWithin
conditions_are_within p c n j qs ev m f run t l front q rest e none = condition_within p c n j qs ev m f run t l front q rest e none
