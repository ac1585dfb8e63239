-- A constant expression that fits has a value of its type.
use Rattle.std.proofs.Common.{◌≡◌, true, ◌&&◌, Option, Some, None, refl, subst, length}
use Rattle.std.specs.Prelude.{is_some}
use Rattle.std.specs.List.{AllByRecursion}
use Rattle.std.specs.Map.{lookup}
use Rattle.std.specs.Str.{bytes_eq}
use Rattle.std.proofs.lemmas.Bool.{false≢true}
use Rattle.lus_tree.specs.declared.place.Sort.TheVariants.{Bool as Flags, Int as Numbers}
use Rattle.lus_tree.specs.Tree.{Name, Expression, truth, number, name, negation, minus, binary, choice}
use Rattle.lus_meaning.specs.Value.{Value, has_sort}
use Rattle.lus_meaning.specs.Frame.{empty_frame, entry}
use Rattle.lus_meaning.specs.Scene.{Clock, Instance, component_of, constants_of}
use Rattle.lus_meaning.specs.Meaning.{constant_or}
use Rattle.lus_meaning.specs.Program.{constant_value, instance_of}
use Rattle.lus_meaning.specs.Run.{sort_of, sort_of_name}
use Rattle.lus_meaning.specs.Occurrences.{Standing, within, Occurrence, occurrences, texts, all_occurrences}
use Rattle.lus_meaning.proofs.EachPart.{Each}
use Rattle.lus_meaning.proofs.Lists.{all_from}
use Rattle.lus_meaning.proofs.NamesOnce.{at_one}
use Rattle.lus_meaning.proofs.Typed.{not_has, minus_has, has_as, apply_has, choose_has}
use Rattle.rule_laws.specs.Fitting.{is_fixed, NameFits, FitsThere, ConstantsTyped}
use Rattle.rule_laws.proofs.Goods.{TextFits, texts_fit}
use Rattle.rule_laws.proofs.Lists.{all_flat}
use Rattle.rule_laws.proofs.Parts.{all_parts, nested}
use Rattle.rule_laws.proofs.Truths.{both_true}
use Rattle.rule_laws.proofs.Unfolded.{component_within}

module _ (i : Instance) where
  abbrev fixed_value : Expression → Value
  fixed_value e = constant_value (constants_of i) e

  abbrev IsTyped : Expression → Type 0
  IsTyped e = has_sort (sort_of i e) (fixed_value e) ≡ true

  name_typed : (o : Option Value) (c : Clock) (x : Name) → is_some o ≡ true → NameFits i o c x
      → has_sort (sort_of_name i x) (constant_or o (λ t. true) (entry empty_frame x) 0) ≡ true
  name_typed None c x e h = absurd (false≢true e)
  name_typed (Some v) c x e h = h

  constant_typed : (t : Standing) (e : Expression) → Each (FitsThere i) (component_of i) t e → is_fixed (constants_of i) e ≡ true → IsTyped e
  constant_typed t (truth p b) h k = refl
  constant_typed t (number p n) h k = refl
  constant_typed t (name p x) h k = name_typed (lookup (bytes_eq x) (constants_of i)) t.clock x k h
  constant_typed t (negation p a) h k = not_has (fixed_value a) (has_as (sort_of i a) Flags (fixed_value a) h.0 (constant_typed (within t) a h.1 k))
  constant_typed t (minus p a) h k = minus_has (fixed_value a) (has_as (sort_of i a) Numbers (fixed_value a) h.0 (constant_typed (within t) a h.1 k))
  constant_typed t (binary p o a b) h k =
      let q = both_true (is_fixed (constants_of i) a) (is_fixed (constants_of i) b) k in
      apply_has o (sort_of i a) (fixed_value a) (fixed_value b) h.0.0 (constant_typed (within t) a h.1 q.0)
      (has_as (sort_of i b) (sort_of i a) (fixed_value b) h.0.1 (constant_typed (within t) b h.2 q.1))
  constant_typed t (choice p a b d) h k =
      let q = both_true (is_fixed (constants_of i) a) (is_fixed (constants_of i) b && is_fixed (constants_of i) d) k in
      let r = both_true (is_fixed (constants_of i) b) (is_fixed (constants_of i) d) q.1 in
      choose_has (sort_of i b) (fixed_value a) (fixed_value b) (fixed_value d)
      (has_as (sort_of i a) Flags (fixed_value a) h.0.0 (constant_typed (within t) a h.1 q.0)) (constant_typed (within t) b h.2 r.0)
      (has_as (sort_of i d) (sort_of i b) (fixed_value d) h.0.1 (constant_typed (within t) d h.3 r.1))
  constant_typed t _ h k = absurd (false≢true k)

  abbrev pub IfFixed : Occurrence → Type 0
  IfFixed o = is_fixed (constants_of i) o.expression ≡ true → IsTyped o.expression

  pub part_typed : (o : Occurrence) → Each (FitsThere i) (component_of i) o.standing o.expression → IfFixed o
  part_typed o h k = constant_typed o.standing o.expression h k

pub constants_typed : ConstantsTyped
constants_typed p c n d o q =
    let i : Instance = instance_of p n in
    let each : AllByRecursion (λ x. AllByRecursion (IfFixed i) (occurrences n x.0 x.1)) (texts n) =
    all_from (TextFits i) (λ x. AllByRecursion (IfFixed i) (occurrences n x.0 x.1))
    (λ x a. subst (λ m. AllByRecursion (IfFixed i) (occurrences m x.0 x.1)) (component_within (length p) p n)
    (all_from (λ w. Each (FitsThere i) (component_of i) w.standing w.expression) (IfFixed i) (part_typed i) (occurrences (component_of i) x.0 x.1)
    (all_parts (λ w. Each (FitsThere i) (component_of i) w.standing w.expression) (component_of i) x.0 x.1
    (nested (FitsThere i) (component_of i) x.0 x.1 a)))) (texts n) (texts_fit p c n d) in
    at_one (IfFixed i) (all_occurrences n) o (all_flat (IfFixed i) (λ x. occurrences n x.0 x.1) (texts n) each) q
