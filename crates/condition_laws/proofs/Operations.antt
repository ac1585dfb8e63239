-- The parts of an expression, and the operations of its resolution.
use Rattle.std.proofs.Common.{◌≡◌, true, false, List, [], ◌∷◌, ◌++◌, refl, ap, ◌∙◌, subst, None}
use Rattle.std.specs.List.{AllByRecursion}
use Rattle.lus_tree.specs.declared.expression.Operator.TheVariants.{And, Or, Implies}
use Rattle.lus_tree.specs.Tree.{Name, Expression, truth, number, name, negation, minus, pre, arrow, binary, choice, sampled, merged, call, condact, mode_name}
use Rattle.lus_meaning.specs.Value.{Value, absent, flag, whole}
use Rattle.lus_meaning.specs.Scene.{Clock, sampled_by, component_of, clock_of}
use Rattle.lus_meaning.specs.Cycle.{Place as NeededPlace}
use Rattle.lus_meaning.specs.Occurrences.{own}
use Rattle.lus_meaning.proofs.Lists.{both_parts}
use Rattle.lus_meaning.proofs.Now.{left_part, right_part}
use Rattle.lus_evaluation.specs.Part.{Part, Setting, needs_of, part, parts, argument_parts, operand_parts}
use Rattle.lus_evaluation.specs.Past.{past_of_values, part_past, NonePast}
use Rattle.slot_values.specs.declared.resolved.PastAt.{PastAt}
use Rattle.slot_values.specs.Evaluated.{told}
use Rattle.slot_values.specs.Parts.{own_parts, operands, Standpoint, setting_at, operations_at, PartsByRow}

-- what holds of all parts of an expression holds of its own ones
own_among : (P : Part → Type 0) (g : Setting) (ns : List NeededPlace) (xs : List Name) (c : Clock) (e : Expression) →
    AllByRecursion P (parts g ns xs c e) → AllByRecursion P (own_parts g ns xs c e)
own_among P g ns xs c (truth p b) a = a
own_among P g ns xs c (number p n) a = a
own_among P g ns xs c (name p x) a = a
own_among P g ns xs c (negation p x) a =
    both_parts P (own_parts g ns [] c x) (part g ns xs c (negation p x) ∷ [])
    (own_among P g ns [] c x (left_part P (parts g ns [] c x) (part g ns xs c (negation p x) ∷ []) a))
    (right_part P (parts g ns [] c x) (part g ns xs c (negation p x) ∷ []) a)
own_among P g ns xs c (minus p x) a =
    both_parts P (own_parts g ns [] c x) (part g ns xs c (minus p x) ∷ [])
    (own_among P g ns [] c x (left_part P (parts g ns [] c x) (part g ns xs c (minus p x) ∷ []) a))
    (right_part P (parts g ns [] c x) (part g ns xs c (minus p x) ∷ []) a)
own_among P g ns xs c (pre p k x) a = right_part P (parts g (needs_of g c x) [] c x) (part g ns xs c (pre p k x) ∷ []) a
own_among P g ns xs c (arrow p k x y) a =
    let l : List Part = part g ns xs c (arrow p k x y) ∷ [] in
    let b = left_part P (parts g ns [] c x ++ parts g ns [] c y) l a in
    both_parts P (own_parts g ns [] c x ++ own_parts g ns [] c y) l
    (both_parts P (own_parts g ns [] c x) (own_parts g ns [] c y)
    (own_among P g ns [] c x (left_part P (parts g ns [] c x) (parts g ns [] c y) b))
    (own_among P g ns [] c y (right_part P (parts g ns [] c x) (parts g ns [] c y) b)))
    (right_part P (parts g ns [] c x ++ parts g ns [] c y) l a)
own_among P g ns xs c (binary p o x y) a =
    let l : List Part = part g ns xs c (binary p o x y) ∷ [] in
    let b = left_part P (parts g ns [] c x ++ parts g ns [] c y) l a in
    both_parts P (own_parts g ns [] c x ++ own_parts g ns [] c y) l
    (both_parts P (own_parts g ns [] c x) (own_parts g ns [] c y)
    (own_among P g ns [] c x (left_part P (parts g ns [] c x) (parts g ns [] c y) b))
    (own_among P g ns [] c y (right_part P (parts g ns [] c x) (parts g ns [] c y) b)))
    (right_part P (parts g ns [] c x ++ parts g ns [] c y) l a)
own_among P g ns xs c (choice p x y z) a =
    let l : List Part = part g ns xs c (choice p x y z) ∷ [] in
    let b = left_part P (parts g ns [] c x ++ parts g ns [] c y ++ parts g ns [] c z) l a in
    let d = left_part P (parts g ns [] c x ++ parts g ns [] c y) (parts g ns [] c z) b in
    both_parts P (own_parts g ns [] c x ++ own_parts g ns [] c y ++ own_parts g ns [] c z) l
    (both_parts P (own_parts g ns [] c x ++ own_parts g ns [] c y) (own_parts g ns [] c z)
    (both_parts P (own_parts g ns [] c x) (own_parts g ns [] c y)
    (own_among P g ns [] c x (left_part P (parts g ns [] c x) (parts g ns [] c y) d))
    (own_among P g ns [] c y (right_part P (parts g ns [] c x) (parts g ns [] c y) d)))
    (own_among P g ns [] c z (right_part P (parts g ns [] c x ++ parts g ns [] c y) (parts g ns [] c z) b)))
    (right_part P (parts g ns [] c x ++ parts g ns [] c y ++ parts g ns [] c z) l a)
own_among P g ns xs c (sampled p x q y) a =
    let d : Clock = clock_of (component_of g.place) y.text in
    both_parts P (own_parts g ns [] d x) (part g ns xs c (sampled p x q y) ∷ [])
    (own_among P g ns [] d x (left_part P (parts g ns [] d x) (part g ns xs c (sampled p x q y) ∷ []) a))
    (right_part P (parts g ns [] d x) (part g ns xs c (sampled p x q y) ∷ []) a)
own_among P g ns xs c (merged p y x z) a =
    let l : List Part = part g ns xs c (merged p y x z) ∷ [] in
    let d : Clock = sampled_by true y.text in
    let f : Clock = sampled_by false y.text in
    let b = left_part P (parts g ns [] d x ++ parts g ns [] f z) l a in
    both_parts P (own_parts g ns [] d x ++ own_parts g ns [] f z) l
    (both_parts P (own_parts g ns [] d x) (own_parts g ns [] f z)
    (own_among P g ns [] d x (left_part P (parts g ns [] d x) (parts g ns [] f z) b))
    (own_among P g ns [] f z (right_part P (parts g ns [] d x) (parts g ns [] f z) b)))
    (right_part P (parts g ns [] d x ++ parts g ns [] f z) l a)
own_among P g ns xs c (call p k h as_) a = right_part P (argument_parts g c as_ ++ g.body k) (part g ns xs c (call p k h as_) ∷ []) a
own_among P g ns xs c (condact p k x h as_ ds) a =
    let l : List Part = part g ns xs c (condact p k x h as_ ds) ∷ [] in
    let ms : List NeededPlace = needs_of g c x in
    let b = left_part P (parts g ms [] c x ++ argument_parts g c as_ ++ g.body k ++ operand_parts g ns c ds) l a in
    let d = left_part P (parts g ms [] c x ++ argument_parts g c as_ ++ g.body k) (operand_parts g ns c ds) b in
    let f = left_part P (parts g ms [] c x ++ argument_parts g c as_) (g.body k) d in
    both_parts P (own_parts g ms [] c x) l (own_among P g ms [] c x (left_part P (parts g ms [] c x) (argument_parts g c as_) f))
    (right_part P (parts g ms [] c x ++ argument_parts g c as_ ++ g.body k ++ operand_parts g ns c ds) l a)
own_among P g ns xs c (mode_name p d m) a = a

-- where all parts of an expression are within, its resolution has no operation outside
pub none_outside : (v : Standpoint) (ns : List NeededPlace) (c : Clock) (e : Expression) → PartsByRow v ns [] c e →
    NonePast v.top v.frame (parts (setting_at v) ns [] c e) v.instant → operations_at v c e ≡ []
none_outside v ns c e r a =
    let fine : Part → Type 0 = λ q. part_past v.top v.frame q v.instant ≡ None in
    let one : List Part = part (setting_at v) ns [] c e ∷ [] in
    let b : AllByRecursion fine (operands (setting_at v) ns c e ++ one) =
    subst (AllByRecursion fine) r.ends (own_among fine (setting_at v) ns [] c e a) in
    r.own_past (left_part fine (operands (setting_at v) ns c e) one b)
    ∙ ap (told (own e)) (right_part fine (operands (setting_at v) ns c e) one b).0

pub never_and : (v w : Value) → past_of_values And v w ≡ None
never_and absent w = refl
never_and (flag b) w = refl
never_and (whole x) absent = refl
never_and (whole x) (flag b) = refl
never_and (whole x) (whole y) = refl

pub never_or : (v w : Value) → past_of_values Or v w ≡ None
never_or absent w = refl
never_or (flag b) w = refl
never_or (whole x) absent = refl
never_or (whole x) (flag b) = refl
never_or (whole x) (whole y) = refl

pub never_implies : (v w : Value) → past_of_values Implies v w ≡ None
never_implies absent w = refl
never_implies (flag b) w = refl
never_implies (whole x) absent = refl
never_implies (whole x) (flag b) = refl
never_implies (whole x) (whole y) = refl

pub no_operation : (x y z : List PastAt) → x ≡ [] → y ≡ [] → z ≡ [] → x ++ y ++ z ≡ []
no_operation x y z e h k = rw (e, h, k) refl
