-- An expression has a type where the names in it have one, and its calls one output.
use Rattle.std.proofs.Common.{◌≡◌, ℕ, suc, Bool, true, false, not, ◌&&◌, List, [], ◌∷◌, ◌++◌, length, Option, Some, None, refl, arith}
use Rattle.std.specs.Prelude.{is_some, ◌==◌}
use Rattle.std.specs.Option.{option_and_then}
use Rattle.std.specs.List.{AllByRecursion}
use Rattle.std.proofs.lemmas.Bool.{false≢true, eqb-true}
use Rattle.lus_tree.specs.Tree.{Place, Name, Spelled, Expression, Expressions, truth, number, name, negation, minus, pre, arrow, binary, choice, sampled, merged, call, condact, mode_name, Variable, Component}
use Rattle.lus_tree.specs.Reason.{arity_clash}
use Rattle.lus_meaning.specs.Scene.{clock_of, sampled_by}
use Rattle.lus_meaning.specs.Occurrences.{Standing, within, before, moved, Occurrence, occurs, occurrences}
use Rattle.lus_meaning.specs.Scope.{Scope, call_sort, only_sort, sort_of_entry, type_of}
use Rattle.lus_meaning.specs.Faults.{if_so}
use Rattle.lus_meaning.specs.ExpressionFaults.{arguments_fit, call_faults, has_one}
use Rattle.lus_meaning.proofs.EachPart.{Each, each_part}
use Rattle.lus_meaning.proofs.Lists.{all_from}
use Rattle.lus_meaning.proofs.NamesOnce.{no_parts, not_nil, not_so}
use Rattle.rule_laws.proofs.Parts.{all_parts, nested}
use Rattle.rule_laws.proofs.Truths.{not_false}
use Rattle.lus_types.specs.Standing.{has_one_output, has_one_value}

-- ---- calls

one_sort : (vs : List Variable) → has_one vs ≡ true → is_some (only_sort vs) ≡ true
one_sort [] e = absurd (false≢true e)
one_sort (v ∷ []) e = refl
one_sort (v ∷ w ∷ vs) e = let two : suc (suc (length vs)) ≡ 1 = eqb-true (suc (suc (length vs))) 1 e in absurd (omega arith)

pub one_output : (o : Option Component) → has_one_output o ≡ true → is_some (option_and_then (λ n. only_sort n.outputs) o) ≡ true
one_output None e = absurd (false≢true e)
one_output (Some n) e = one_sort n.outputs e

-- where it is not the whole of a side, a call without faults has one output
pub called_once : (s : Scope) (w : Bool) (f : Spelled) (as_ : List Expression) (o : Option Component) → call_faults s w f as_ o ≡ []
    → (w ≡ true → has_one_output o ≡ true) → has_one_output o ≡ true
called_once s w f as_ None h one = not_nil _ [] h
called_once s true f as_ (Some n) h one = one refl
called_once s false f as_ (Some n) h one =
    not_false (has_one n.outputs)
    (not_so (not false && not (has_one n.outputs)) arity_clash f.at
    (no_parts (if_so (not (length n.inputs == length as_)) arity_clash f.at ++ arguments_fit s n.inputs as_) _ h).1)

-- ---- expressions

module _ (P : Occurrence → Type 0) (n : Component) (u : Scope)
    (names : (t : Standing) (q : Place) (x : Name) → P (occurs t (name q x)) → is_some (sort_of_entry u x) ≡ true)
    (calls : (t : Standing) (q : Place) (k : ℕ) (f : Spelled) (as_ : Expressions) → P (occurs t (call q k f as_))
    → (t.whole_side ≡ true → has_one_value u.program (call q k f as_) ≡ true) → is_some (call_sort u f.text) ≡ true)
    (condacts : (t : Standing) (q : Place) (k : ℕ) (a : Expression) (f : Spelled) (as_ ds : Expressions) → P (occurs t (condact q k a f as_ ds))
    → (t.whole_side ≡ true → has_one_value u.program (condact q k a f as_ ds) ≡ true) → is_some (call_sort u f.text) ≡ true) where
  inner : (e : Expression) → false ≡ true → has_one_value u.program e ≡ true
  inner e w = absurd (false≢true w)

  sorted : (t : Standing) (e : Expression) → Each P n t e → (t.whole_side ≡ true → has_one_value u.program e ≡ true)
      → is_some (type_of u e) ≡ true
  sorted t (truth q b) h w = refl
  sorted t (number q k) h w = refl
  sorted t (name q x) h w = names t q x h
  sorted t (negation q a) h w = refl
  sorted t (minus q a) h w = refl
  sorted t (pre q k a) h w = sorted (before t) a h.1 (inner a)
  sorted t (arrow q k a b) h w = sorted (within t) a h.1 (inner a)
  sorted t (binary q o a b) h w = refl
  sorted t (choice q a b c) h w = sorted (within t) b h.2 (inner b)
  sorted t (sampled q a b x) h w = sorted (moved (clock_of n x.text) t) a h.1 (inner a)
  sorted t (merged q x a b) h w = sorted (moved (sampled_by true x.text) t) a h.1 (inner a)
  sorted t (call q k f as_) h w = calls t q k f as_ h.0 w
  sorted t (condact q k a f as_ ds) h w = condacts t q k a f as_ ds h.0 w
  sorted t (mode_name q c m) h w = refl

  -- so does each expression in one of whose parts that holds
  abbrev pub Sorted : Occurrence → Type 0
  Sorted o = has_one_value u.program o.expression ≡ true → is_some (type_of u o.expression) ≡ true

  pub all_sorted : (t : Standing) (e : Expression) → AllByRecursion P (occurrences n t e) → AllByRecursion Sorted (occurrences n t e)
  all_sorted t e a =
      all_from (λ o. Each P n o.standing o.expression) Sorted (λ o h one. sorted o.standing o.expression h (λ w. one)) (occurrences n t e)
      (all_parts (λ o. Each P n o.standing o.expression) n t e (nested P n t e (each_part P n t e a)))
