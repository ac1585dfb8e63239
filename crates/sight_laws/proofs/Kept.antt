-- The constants that are known have their values.
use Rattle.std.proofs.Common.{◌≡◌, Bool, true, false, cond, List, [], ◌∷◌, ◌++◌, Option, Some, None, unwrap_or, refl, ap, ◌∙◌}
use Rattle.std.specs.Map.{lookup}
use Rattle.std.specs.Str.{bytes_eq}
use Rattle.lus_tree.specs.declared.expression.Operator.{Operator}
use Rattle.lus_tree.specs.declared.expression.Operator.TheVariants.{Implies, Or, Xor, And, Less, AtMost, Equal, Differs, AtLeast, More, Add, Sub, Mul, Div, Mod}
use Rattle.lus_tree.specs.Tree.{Name, Expression, truth, number, name, negation, minus, pre, arrow, binary, choice, sampled, merged, call, condact, mode_name, Constant}
use Rattle.lus_meaning.specs.Program.{program_constants}
use Rattle.lus_meaning.specs.Scope.{apply_total, choose_total}
use Rattle.lus_meaning.specs.Value.{Value, absent, flag, whole, not_value, minus_value}
use Rattle.sys_parts.specs.Values.{tame}
use Rattle.sys_texts.specs.Texts.{Folded, known, left_open, folded, folded_name, negated, opposite, operated, chosen}
use Rattle.steady_laws.specs.Kept.{kept_value, kept_values}
use Rattle.steady_laws.specs.Laws.{OuterConstantsAreKept, OwnConstantsAreKept}
use Rattle.sys_tables.specs.Tabled.{bare, own_constants, small_value, small_values, value_of}
use Rattle.sight_laws.specs.Sights.{ConstantsAreKnown}

-- ---- what is not known has no value

negated_so : (f : Folded) → value_of (negated f) ≡ not_value (value_of f)
negated_so (known v) = refl
negated_so (left_open p) = refl

opposite_so : (f : Folded) → value_of (opposite f) ≡ tame (minus_value (value_of f))
opposite_so (known v) = refl
opposite_so (left_open p) = refl

right_absent : (o : Operator) (v : Value) → absent ≡ tame (apply_total o v absent)
right_absent Implies absent = refl
right_absent Implies (flag b) = refl
right_absent Implies (whole n) = refl
right_absent Or absent = refl
right_absent Or (flag b) = refl
right_absent Or (whole n) = refl
right_absent Xor absent = refl
right_absent Xor (flag b) = refl
right_absent Xor (whole n) = refl
right_absent And absent = refl
right_absent And (flag b) = refl
right_absent And (whole n) = refl
right_absent Less absent = refl
right_absent Less (flag b) = refl
right_absent Less (whole n) = refl
right_absent AtMost absent = refl
right_absent AtMost (flag b) = refl
right_absent AtMost (whole n) = refl
right_absent Equal absent = refl
right_absent Equal (flag b) = refl
right_absent Equal (whole n) = refl
right_absent Differs absent = refl
right_absent Differs (flag b) = refl
right_absent Differs (whole n) = refl
right_absent AtLeast absent = refl
right_absent AtLeast (flag b) = refl
right_absent AtLeast (whole n) = refl
right_absent More absent = refl
right_absent More (flag b) = refl
right_absent More (whole n) = refl
right_absent Add absent = refl
right_absent Add (flag b) = refl
right_absent Add (whole n) = refl
right_absent Sub absent = refl
right_absent Sub (flag b) = refl
right_absent Sub (whole n) = refl
right_absent Mul absent = refl
right_absent Mul (flag b) = refl
right_absent Mul (whole n) = refl
right_absent Div absent = refl
right_absent Div (flag b) = refl
right_absent Div (whole n) = refl
right_absent Mod absent = refl
right_absent Mod (flag b) = refl
right_absent Mod (whole n) = refl

no_values : (b : Bool) → absent ≡ tame (cond b absent absent)
no_values true = refl
no_values false = refl

left_absent : (o : Operator) (w : Value) → absent ≡ tame (apply_total o absent w)
left_absent Implies w = refl
left_absent Or w = refl
left_absent Xor w = refl
left_absent And w = refl
left_absent Less w = refl
left_absent AtMost w = refl
left_absent Equal w = refl
left_absent Differs w = refl
left_absent AtLeast w = refl
left_absent More w = refl
left_absent Add w = refl
left_absent Sub w = refl
left_absent Mul w = refl
left_absent Div absent = refl
left_absent Div (flag b) = refl
left_absent Div (whole n) = no_values _
left_absent Mod absent = refl
left_absent Mod (flag b) = refl
left_absent Mod (whole n) = no_values _

operated_so : (o : Operator) (f g : Folded) → value_of (operated o f g) ≡ tame (apply_total o (value_of f) (value_of g))
operated_so o (known v) (known w) = refl
operated_so o (known v) (left_open q) = right_absent o v
operated_so o (left_open p) (known w) = left_absent o w
operated_so o (left_open p) (left_open q) = left_absent o absent

third_absent : (c v : Value) → absent ≡ choose_total c v absent
third_absent c absent = refl
third_absent c (flag b) = refl
third_absent c (whole n) = refl

chosen_so : (c a b : Folded) → value_of (chosen c a b) ≡ choose_total (value_of c) (value_of a) (value_of b)
chosen_so (known c) (known v) (known w) = refl
chosen_so (known c) (known v) (left_open q) = third_absent c v
chosen_so (known c) (left_open p) (known w) = refl
chosen_so (known c) (left_open p) (left_open q) = refl
chosen_so (left_open c) (known v) (known w) = unknown v w
  where
    unknown : (v w : Value) → absent ≡ choose_total absent v w
    unknown absent w = refl
    unknown (flag a) absent = refl
    unknown (flag a) (flag b) = refl
    unknown (flag a) (whole n) = refl
    unknown (whole m) absent = refl
    unknown (whole m) (flag b) = refl
    unknown (whole m) (whole n) = refl
chosen_so (left_open c) (known v) (left_open q) = third_absent absent v
chosen_so (left_open c) (left_open p) (known w) = refl
chosen_so (left_open c) (left_open p) (left_open q) = refl

-- ---- values

module _ (cs : List (Name × Value)) where
  name_so : (x : Name) (o : Option Value) → value_of (folded_name (bare cs) x o) ≡ unwrap_or o absent
  name_so x (Some v) = refl
  name_so x None = refl

  pub small_so : (e : Expression) → small_value cs e ≡ kept_value cs e
  small_so (truth p b) = refl
  small_so (number p n) = refl
  small_so (name p x) = name_so x (lookup (bytes_eq x) cs)
  small_so (negation p a) = negated_so (folded (bare cs) [] a) ∙ ap not_value (small_so a)
  small_so (minus p a) = opposite_so (folded (bare cs) [] a) ∙ ap (λ v. tame (minus_value v)) (small_so a)
  small_so (pre p k a) = refl
  small_so (arrow p k a b) = refl
  small_so (binary p o a b) =
      operated_so o (folded (bare cs) [] a) (folded (bare cs) [] b)
      ∙ ap (λ v. tame (apply_total o v (small_value cs b))) (small_so a)
      ∙ ap (λ v. tame (apply_total o (kept_value cs a) v)) (small_so b)
  small_so (choice p a b d) =
      chosen_so (folded (bare cs) [] a) (folded (bare cs) [] b) (folded (bare cs) [] d)
      ∙ ap (λ v. choose_total v (small_value cs b) (small_value cs d)) (small_so a)
      ∙ ap (λ v. choose_total (kept_value cs a) v (small_value cs d)) (small_so b)
      ∙ ap (choose_total (kept_value cs a) (kept_value cs b)) (small_so d)
  small_so (sampled p a b x) = refl
  small_so (merged p x a b) = refl
  small_so (call p k f as_) = refl
  small_so (condact p k a f as_ ds) = refl
  small_so (mode_name p d m) = refl

values_so : (cs : List (Name × Value)) (ds : List Constant) → small_values cs ds ≡ kept_values cs ds
values_so cs [] = refl
values_so cs (d ∷ ds) =
    values_so (cs ++ (d.name.text, small_value cs d.value) ∷ []) ds
    ∙ ap (λ v. kept_values (cs ++ (d.name.text, v) ∷ []) ds) (small_so cs d.value)

pub constants_known_so : OuterConstantsAreKept → OwnConstantsAreKept → ConstantsAreKnown
constants_known_so outer own p c n i =
    values_so (small_values [] (program_constants p)) (own_constants n)
    ∙ ap (λ cs. kept_values cs (own_constants n)) (values_so [] (program_constants p) ∙ outer p c)
    ∙ own p c n i
