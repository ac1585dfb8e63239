-- What is known of the evaluation of an instant of a run, and what follows for slots that its parts read.
use Rattle.std.proofs.Common.{◌≡◌, ℕ, zero, suc, pred, ◌+◌, ◌<◌, Bool, true, false, ◌||◌, List, [], ◌∷◌, ◌++◌, flat_map, refl, ◌∙◌, sym, subst, arith}
use Rattle.std.specs.List.{AllByRecursion}
use Rattle.std.specs.Str.{bytes_eq}
use Rattle.std.proofs.Math.Logic.{◌⊎◌, inl, inr}
use Rattle.std.proofs.lemmas.Bool.{false≢true}
use Rattle.lus_tree.specs.Tree.{Name, Expression, truth, number, name, negation, minus, pre, arrow, binary, choice, sampled, merged, call, condact, mode_name}
use Rattle.lus_meaning.specs.Frame.{Frame}
use Rattle.lus_meaning.specs.Scene.{Clock, base, sampled_by, while_true, Instance, Instances, no_instances, with_instance, instance_at, component_of, calls_of, call_instance}
use Rattle.lus_meaning.specs.Run.{Equation}
use Rattle.lus_meaning.specs.Depends.{named_in, left_names}
use Rattle.lus_meaning.specs.Trace.{same_numbers}
use Rattle.lus_meaning.specs.Cycle.{Place as NeededPlace}
use Rattle.lus_meaning.specs.Verdict.{throughout}
use Rattle.lus_meaning.specs.WellMade.{AreDistinct}
use Rattle.lus_meaning.proofs.Members.{IsIn, in_right}
use Rattle.lus_meaning.proofs.Lists.{all_from, both_parts, named_append, or_left, or_true}
use Rattle.lus_meaning.proofs.Unique.{same_bytes}
use Rattle.sys_meaning.specs.Defaults.{site_at, site_of}
use Rattle.sys_meaning.specs.WellTyped.{IsKnown, count_of, Stands, CallFits, CallsFit, TreeFits, WellTyped}
use Rattle.sys_meaning.proofs.Forward.{calls_fit}
use Rattle.sys_meaning.proofs.Shows.{same_ways}
use Rattle.lus_evaluation.specs.Part.{Part, Setting, part}
use Rattle.lus_evaluation.specs.Past.{NonePast}
use Rattle.slot_values.specs.Evaluated.{SlotValues}
use Rattle.slot_values.specs.Resolution.{Resolution}
use Rattle.slot_values.specs.Resolved.{Numbering, resolution, right_resolutions}
use Rattle.slot_values.specs.Clocked.{row_by, clock_on}
use Rattle.slot_values.specs.Parts.{own_parts, operands, setting_at}
use Rattle.evaluation_laws.specs.Resolvings.{resolvings}
use Rattle.evaluation_laws.specs.Rows.{AreCalls, numbers_there, resolution_there}
use Rattle.evaluation_laws.proofs.Waiting.{both_true}
use Rattle.slot_sources.specs.Rows as rows
use Rattle.slot_sources.specs.Rows.{slots_read}
use Rattle.slot_sources.specs.Sources.{numbering_of, switch_of}
use Rattle.slot_sources.specs.Parts.{part_resolution}
use Rattle.order_laws.specs.Laws.{IsOneOf}
use Rattle.order_laws.specs.Own.{own_setting, own_modes}
use Rattle.order_laws.specs.Needed.{Sees, IsGiven, IsEvaluatedIn, NoneOutside, OfOperand, right_there}
use Rattle.order_laws.specs.Rows.{place_there, standpoint_there}
use Rattle.order_laws.proofs.Frames.{StandsAt, stands_there, same_place}
use Rattle.rest_laws.proofs.Atoms.{AtomsOf, modes_read, reads, rights}
use Rattle.rest_laws.proofs.Clocks.{IsClockNamed}

-- ---- lists

pub in_of : {qs : List Part} {r : Part} → IsOneOf qs r → IsIn r qs
in_of {qs} {r} o = subst (IsIn r) (sym o.split) (in_right r o.before (r ∷ o.after) (inl refl))

-- an expression stands behind its own operands
own_ends : (g : Setting) (ns : List NeededPlace) (xs : List Name) (c : Clock) (e : Expression) →
    own_parts g ns xs c e ≡ operands g ns c e ++ part g ns xs c e ∷ []
own_ends g ns xs c (truth p b) = refl
own_ends g ns xs c (number p k) = refl
own_ends g ns xs c (name p x) = refl
own_ends g ns xs c (negation p a) = refl
own_ends g ns xs c (minus p a) = refl
own_ends g ns xs c (pre p k a) = refl
own_ends g ns xs c (arrow p k a b) = refl
own_ends g ns xs c (binary p o a b) = refl
own_ends g ns xs c (choice p a b d) = refl
own_ends g ns xs c (sampled p a q x) = refl
own_ends g ns xs c (merged p x a b) = refl
own_ends g ns xs c (call p k f as_) = refl
own_ends g ns xs c (condact p k a f as_ ds) = refl
own_ends g ns xs c (mode_name p d m) = refl

-- ---- the frame at the end of a way of calls

-- what is evaluated of a frame: a part sees it, or it is the top one
abbrev pub IsEntered : List Part → List ℕ → Type 0
IsEntered qs w = (w ≡ []) ⊎ ((r : Part) × IsIn r qs × Sees r w)

call_fits : (j : Instance) (is : Instances) (p q : ℕ) → CallsFit IsKnown j is p → q < count_of is → CallFits IsKnown j (site_at is q) (instance_at is q) (p + q)
call_fits j no_instances p q t l = absurd (omega (arith, l))
call_fits j (with_instance c k is) p zero t l = subst (CallFits IsKnown j c k) (let e : p ≡ p + 0 = omega arith in e) t.0
call_fits j (with_instance c k is) p (suc q) t l =
    subst (CallFits IsKnown j (site_at is q) (instance_at is q)) (let e : suc p + q ≡ p + suc q = omega arith in e)
    (call_fits j is (suc p) q t.2 (omega (arith, l)))

-- the call with a number
pub fitting_call : (j : Instance) → TreeFits IsKnown j → (k : ℕ) → 0 < k → pred k < count_of (calls_of j) →
    CallFits IsKnown j (site_of j k) (call_instance j k) (pred k)
fitting_call j t zero c l = absurd (omega (arith, c))
fitting_call j t (suc k) c l =
    subst (CallFits IsKnown j (site_at (calls_of j) k) (instance_at (calls_of j) k)) (let e : 0 + k ≡ k = omega arith in e)
    (call_fits j (calls_of j) 0 k (calls_fit IsKnown j t) l)

module _ (i : Instance) (f : Frame) (t : ℕ) where
  -- what callers give to a frame is among these parts
  pub record AreGiven (front : List Part) (w : List ℕ) (k : ℕ) : Type 0 where
    pub arguments : AllByRecursion (IsEvaluatedIn i f t front w (site_of (place_there i f w) k).clock) (site_of (place_there i f w) k).arguments
    pub conditions : (a : Expression) → (site_of (place_there i f w) k).manner ≡ while_true a →
        IsEvaluatedIn i f t front w (site_of (place_there i f w) k).clock a

  abbrev pub own_operands : Part → List Part
  own_operands r = operands (setting_at (standpoint_there i f t r.way)) r.needs r.clock r.expression

  pub record Facts (qs : List Part) : Type 0 where
    pub typed : WellTyped IsKnown i
    pub once : (w : List ℕ) → AreCalls i w → AreDistinct (left_names (component_of (place_there i f w)))
    pub calls : (r : Part) → IsIn r qs → AreCalls i r.way
    pub stands : (r : Part) → IsIn r qs → Stands (place_there i f r.way) (IsKnown (place_there i f r.way)) r.clock r.expression
    pub named : (r : Part) → IsIn r qs → IsClockNamed (place_there i f r.way) r.clock
    pub operands : (r : Part) → IsIn r qs → AllByRecursion (IsOneOf qs) (own_operands r)
    pub sides : (w : List ℕ) → IsEntered qs w → (x : Name) → named_in x (left_names (component_of (place_there i f w))) ≡ true → IsGiven i f t qs w x
    pub given : (w : List ℕ) (k : ℕ) → IsEntered qs (w ++ k ∷ []) → AreGiven qs w k
    pub remembered : (r : Part) → IsIn r qs → OfOperand (IsEvaluatedIn i f t qs r.way r.clock) r.expression
    pub given_none : (front rest : List Part) → qs ≡ front ++ rest → NonePast i f front t → (v : List ℕ) (x : Name) → (g : IsGiven i f t front v x) →
        AllByRecursion (NoneOutside i f t v g.part.clock) (right_there i f v g.part.expression)
    pub argument_none : (front rest : List Part) → qs ≡ front ++ rest → NonePast i f front t → (w : List ℕ) (c : Clock) (a : Expression) →
        IsEvaluatedIn i f t front w c a → NoneOutside i f t w c (resolution_there i f w a)

  -- ---- what parts read

  abbrev pub numbering_at : List ℕ → Numbering
  numbering_at w = numbering_of (place_there i f w) (numbers_there i w)

  module _ (R : ℕ → Type 0) (tree : TreeFits IsKnown i) where
    abbrev pub PartAtoms : Part → Type 0
    PartAtoms r = AtomsOf i f R (place_there i f) r

    abbrev Reads : Resolution → Type 0
    Reads e = AllByRecursion R (slots_read e)

    own_read : (r : Part) → PartAtoms r → AllByRecursion PartAtoms (own_operands r) →
        AllByRecursion PartAtoms (own_parts (own_setting (place_there i f r.way) r.way (own_modes r.way (place_there i f r.way))) r.needs r.gives r.clock r.expression)
    own_read r a o =
        subst (AllByRecursion PartAtoms)
        (sym (own_ends (own_setting (place_there i f r.way) r.way (own_modes r.way (place_there i f r.way))) r.needs r.gives r.clock r.expression))
        (both_parts PartAtoms (own_operands r) (r ∷ []) o (a, tt))

    there : (w : List ℕ) → AreCalls i w → StandsAt i f w (place_there i f w)
    there w a = stands_there i f w a tree

    at_way : (w : List ℕ) (j : Instance) → StandsAt i f w j → place_there i f w ≡ j
    at_way w j s = s.place

    pub resolution_read : (r : Part) → AreCalls i r.way → PartAtoms r → AllByRecursion PartAtoms (own_operands r) →
        Reads (resolution (numbering_at r.way) r.expression)
    resolution_read r c a o =
        reads i f R (place_there i f) r.way (place_there i f r.way) refl (own_modes r.way (place_there i f r.way)) (resolvings (place_there i f r.way))
        (modes_read i f R (place_there i f) at_way r.way (place_there i f r.way) (there r.way c)) r.expression r.needs r.gives r.clock (own_read r a o)

    rights_read : (r : Part) → AreCalls i r.way → PartAtoms r → AllByRecursion PartAtoms (own_operands r) →
        AllByRecursion Reads (right_resolutions (numbering_at r.way) r.expression)
    rights_read r c a o =
        rights i f R (place_there i f) r.way (place_there i f r.way) refl (own_modes r.way (place_there i f r.way)) (resolvings (place_there i f r.way))
        (modes_read i f R (place_there i f) at_way r.way (place_there i f r.way) (there r.way c)) r.expression r.needs r.gives r.clock (own_read r a o)

    -- what a part's own resolution is
    pub part_read : (r : Part) → Reads (resolution (numbering_at r.way) r.expression) → Reads (part_resolution i r)
    part_read r a = subst (λ j. Reads (resolution (numbering_of j (numbers_there i r.way)) r.expression)) (same_place r.way i throughout f) a

    -- of a front of parts that read such slots by themselves
    module _ (front : List Part) (calls : (r : Part) → IsOneOf front r → AreCalls i r.way) (atoms : (r : Part) → IsOneOf front r → PartAtoms r) where
      all_atoms : (os : List Part) → AllByRecursion (IsOneOf front) os → AllByRecursion PartAtoms os
      all_atoms os a = all_from (IsOneOf front) PartAtoms (λ r o. atoms r o) os a

      pub evaluated_read : (w : List ℕ) (c : Clock) (a : Expression) → IsEvaluatedIn i f t front w c a → Reads (resolution (numbering_at w) a)
      evaluated_read w c a e =
          subst (λ z. Reads (resolution (numbering_at w) z)) e.expression
          (subst (λ z. Reads (resolution (numbering_at z) e.part.expression)) e.way
          (resolution_read e.part (calls e.part e.there) (atoms e.part e.there) (all_atoms (own_operands e.part) e.own)))

      pub given_read : (v : List ℕ) (x : Name) → (g : IsGiven i f t front v x) → AllByRecursion Reads (right_resolutions (numbering_at v) g.part.expression)
      given_read v x g =
          subst (λ z. AllByRecursion Reads (right_resolutions (numbering_at z) g.part.expression))
          (sym (same_ways v g.part.way (both_true (same_numbers v g.part.way) (named_in x g.part.gives) g.gives).0))
          (rights_read g.part (calls g.part g.there) (atoms g.part g.there) (all_atoms (own_operands g.part) g.own))

-- ---- by the switches of clocks

pub switch_is : (row : SlotValues) (g : Numbering) (c : Clock) → rows.is_on row (switch_of g c) ≡ clock_on (row_by g.number row) c
switch_is row g base = refl
switch_is row g (sampled_by b x) = refl

-- ---- one equation gives a name

never_both : (z : Name) (xs ys : List Name) → AreDistinct (xs ++ ys) → named_in z xs ≡ true → named_in z ys ≡ true → ⊥
never_both z [] ys d e h = false≢true e
never_both z (x ∷ xs) ys d e h = go (bytes_eq z x) refl e (λ n. never_both z xs ys d.1 n h)
  where
    go : (b : Bool) → bytes_eq z x ≡ b → (b || named_in z xs) ≡ true → (named_in z xs ≡ true → ⊥) → ⊥
    go true t n r =
        false≢true (sym d.0 ∙ named_append x xs ys ∙ or_true (named_in x xs) (named_in x ys) (subst (λ w. named_in w ys ≡ true) (same_bytes z x t) h))
    go false t n r = r n

distinct_right : (xs ys : List Name) → AreDistinct (xs ++ ys) → AreDistinct ys
distinct_right [] ys d = d
distinct_right (x ∷ xs) ys d = distinct_right xs ys d.1

pub left_of_all : (x : Name) (es : List Equation) (e : Equation) → IsIn e es → named_in x e.names ≡ true → named_in x (flat_map (λ e. e.names) es) ≡ true
left_of_all x [] e h n = absurd h
left_of_all x (q ∷ es) e (inl h) n =
    named_append x q.names (flat_map (λ e. e.names) es)
    ∙ or_left (named_in x q.names) (named_in x (flat_map (λ e. e.names) es)) (subst (λ z. named_in x z.names ≡ true) h n)
left_of_all x (q ∷ es) e (inr h) n =
    named_append x q.names (flat_map (λ e. e.names) es)
    ∙ or_true (named_in x q.names) (named_in x (flat_map (λ e. e.names) es)) (left_of_all x es e h n)

-- equations that give the same name are the same
pub one_equation : (x : Name) (es : List Equation) → AreDistinct (flat_map (λ e. e.names) es) → (e d : Equation) → IsIn e es → IsIn d es →
    named_in x e.names ≡ true → named_in x d.names ≡ true → e ≡ d
one_equation x [] a e d h k n m = absurd h
one_equation x (q ∷ es) a e d (inl h) (inl k) n m = h ∙ sym k
one_equation x (q ∷ es) a e d (inl h) (inr k) n m =
    absurd (never_both x q.names (flat_map (λ e. e.names) es) a (subst (λ z. named_in x z.names ≡ true) h n) (left_of_all x es d k m))
one_equation x (q ∷ es) a e d (inr h) (inl k) n m =
    absurd (never_both x q.names (flat_map (λ e. e.names) es) a (subst (λ z. named_in x z.names ≡ true) k m) (left_of_all x es e h n))
one_equation x (q ∷ es) a e d (inr h) (inr k) n m = one_equation x es (distinct_right q.names (flat_map (λ e. e.names) es) a) e d h k n m
