-- The expression of a constant breaks no rule of clocks.
use Rattle.std.proofs.Common.{◌≡◌, List, [], ◌∷◌, map, flat_map, true, None, Option, refl, subst}
use Rattle.std.specs.List.{AllByRecursion}
use Rattle.lus_tree.specs.Tree.{Name, Expression, truth, number, name, negation, minus, pre, arrow, binary, choice, sampled, merged, call, condact, mode_name, Component}
use Rattle.lus_tree.specs.Reason.{not_constant}
use Rattle.lus_meaning.specs.Scene.{Clock, base}
use Rattle.lus_meaning.specs.Occurrences.{Standing, on_clock, within, Occurrence, occurrences}
use Rattle.lus_meaning.specs.Scope.{Scope, is_constant_name}
use Rattle.lus_meaning.specs.Faults.{fault}
use Rattle.lus_meaning.specs.ExpressionFaults.{hinders_constant, not_allowed}
use Rattle.lus_meaning.specs.ClockFaults.{name_clock, or_else, clock_in, all_on, clock_form_faults, clock_faults_of}
use Rattle.lus_meaning.proofs.EachPart.{Each, each_part}
use Rattle.lus_meaning.proofs.Flexible.{flexible}
use Rattle.lus_meaning.proofs.NamesOnce.{not_nil}
use Rattle.lus_meaning.proofs.RulesFit.{none_mapped}
use Rattle.rule_laws.proofs.Parts.{Whole, nested, all_parts}
use Rattle.clock_laws.proofs.Parts.{each_from}

nothing_mapped : {A B : Type 0} (f : A → B) (xs : List A) → map f xs ≡ [] → xs ≡ []
nothing_mapped f [] e = refl
nothing_mapped f (x ∷ xs) e = not_nil (f x) (map f xs) e

none_flat : {A B : Type 0} (f : A → List B) (xs : List A) → AllByRecursion (λ x. f x ≡ []) xs → flat_map f xs ≡ []
none_flat f [] a = refl
none_flat f (x ∷ xs) a = rw (a.0, none_flat f xs a.1) refl

none_on_two : (n : Component) (o p : Option Clock) (es : List Expression) → o ≡ None → p ≡ None → all_on n (or_else o p) es ≡ []
none_on_two n o p es e h = rw (e, h) refl

none_on_three : (n : Component) (o p q : Option Clock) (es : List Expression) → o ≡ None → p ≡ None → q ≡ None → all_on n (or_else o (or_else p q)) es ≡ []
none_on_three n o p q es e h g = rw (e, h, g) refl

module _ (s : Scope) (n : Component) (apart : (x : Name) → is_constant_name s x ≡ true → name_clock n x ≡ None) where
  abbrev Allowed : Occurrence → Type 0
  Allowed o = hinders_constant s o.expression ≡ []

  form_right : (t : Standing) (e : Expression) → Each Allowed n t e → clock_form_faults n e ≡ []
  form_right t (binary p o c d) a = none_on_two n (clock_in n c) (clock_in n d) (c ∷ d ∷ []) (flexible s n apart (within t) c a.1)
      (flexible s n apart (within t) d a.2)
  form_right t (choice p c d e) a = none_on_three n (clock_in n c) (clock_in n d) (clock_in n e) (c ∷ d ∷ e ∷ [])
      (flexible s n apart (within t) c a.1) (flexible s n apart (within t) d a.2) (flexible s n apart (within t) e a.3)
  form_right t (truth p b) a = refl
  form_right t (number p k) a = refl
  form_right t (name p x) a = refl
  form_right t (negation p e) a = refl
  form_right t (minus p e) a = refl
  form_right t (pre p k e) a = refl
  form_right t (mode_name p d x) a = refl
  form_right t (arrow p k c d) a = not_nil _ _ a.0
  form_right t (sampled p c b x) a = not_nil _ _ a.0
  form_right t (merged p x c d) a = not_nil _ _ a.0
  form_right t (call p k f as_) a = not_nil _ _ a.0
  form_right t (condact p k c f as_ ds) a = not_nil _ _ a.0

  abbrev NoFault : Occurrence → Type 0
  NoFault o = clock_form_faults n o.expression ≡ []

  pub constant_clocks : s.owner ≡ n → (e : Expression) → not_allowed s e ≡ [] → clock_faults_of n base e ≡ []
  constant_clocks o e h =
      let a : Each Allowed n (on_clock base) e = each_part Allowed n (on_clock base) e
      (none_mapped (λ u. hinders_constant s u.expression) (occurrences n (on_clock base) e)
      (nothing_mapped (fault not_constant) _ (subst (λ m. map (fault not_constant)
      (flat_map (λ u. hinders_constant s u.expression) (occurrences m (on_clock base) e)) ≡ []) o h))) in
      let forms : flat_map (λ u. clock_form_faults n u.expression) (occurrences n (on_clock base) e) ≡ [] = none_flat
      (λ u. clock_form_faults n u.expression) (occurrences n (on_clock base) e) (all_parts NoFault n (on_clock base) e
      (each_from (Whole Allowed n) NoFault (λ u b. form_right u.standing u.expression b) n (on_clock base) e
      (nested Allowed n (on_clock base) e a))) in
      rw (flexible s n apart (on_clock base) e a, forms) refl
