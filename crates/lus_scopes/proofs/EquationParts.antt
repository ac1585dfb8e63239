-- The faults of an equation, its left names first.
use Rattle.std.proofs.Common.{◌≡◌, ◌≤◌, true, false, List, [], ◌∷◌, ◌++◌, map, flat_map, length, refl, ap, sym, ◌∙◌, arith, Option, Some, None}
use Rattle.lus_tree.specs.declared.place.Pos.{Pos}
use Rattle.lus_tree.specs.declared.place.Sort.{Sort}
use Rattle.lus_tree.specs.declared.place.PlacedName.{PlacedName}
use Rattle.lus_tree.specs.View.{word_view}
use Rattle.lus_tree.specs.Tree.{Spelled, Expression, truth, number, name, negation, minus, pre, arrow, binary, choice, sampled, merged, call, condact, mode_name, Component}
use Rattle.lus_tree.specs.Reason.{Refused, arity_clash}
use Rattle.lus_meaning.specs.Scene.{Clock}
use Rattle.lus_meaning.specs.Occurrences.{as_side, begin}
use Rattle.lus_meaning.specs.Scope.{Scope, node_named, type_of}
use Rattle.lus_meaning.specs.Faults.{fault}
use Rattle.lus_meaning.specs.ExpressionFaults.{equation_faults, expression_faults, sides_fit, outputs_fit, value_fits, used}
use Rattle.lus_scopes.specs.declared.found.Part.{Part}
use Rattle.lus_scopes.specs.Least.{noted_all}
use Rattle.lus_scopes.specs.Parts.{IsPart}
use Rattle.lus_scopes.specs.Sides.{outputs_notes, value_notes, sides_notes}
use Rattle.lus_scopes.specs.Walk.{whole_walk}
use Rattle.lus_scopes.proofs.Leasts.{noted_append}
use Rattle.lus_scopes.proofs.Walks.{Both, failing, failing_append, expression_noted}
use Rattle.lus_scopes.proofs.Alike.{AreSame}

module _ (s : Scope) where
  outputs_are : (xs : List Spelled) (e : Expression) (f : Spelled) (n : Option Component) → outputs_notes s xs (begin e) f n ≡ outputs_fit s xs e f n
  outputs_are xs e f None = refl
  outputs_are xs e f (Some n) = refl

  value_is : (xs : List Spelled) (e : Expression) → value_notes s xs (type_of s e) (begin e) ≡ value_fits s xs e
  value_is [] e = refl
  value_is (x ∷ []) e = refl
  value_is (x ∷ y ∷ xs) e = refl

  sides_are : (xs : List Spelled) (e : Expression) → sides_notes s xs e (type_of s e) (begin e) ≡ sides_fit s xs e
  sides_are xs (truth p b) = value_is xs (truth p b)
  sides_are xs (number p n) = value_is xs (number p n)
  sides_are xs (name p x) = value_is xs (name p x)
  sides_are xs (negation p a) = value_is xs (negation p a)
  sides_are xs (minus p a) = value_is xs (minus p a)
  sides_are xs (pre p k a) = value_is xs (pre p k a)
  sides_are xs (arrow p k a b) = value_is xs (arrow p k a b)
  sides_are xs (binary p o a b) = value_is xs (binary p o a b)
  sides_are xs (choice p a b c) = value_is xs (choice p a b c)
  sides_are xs (sampled p a b x) = value_is xs (sampled p a b x)
  sides_are xs (merged p x a b) = value_is xs (merged p x a b)
  sides_are xs (call p k f as_) = outputs_are xs (call p k f as_) f (node_named s.program f.text)
  sides_are xs (condact p k a f as_ ds) = outputs_are xs (condact p k a f as_ ds) f (node_named s.program f.text)
  sides_are xs (mode_name p c m) = value_is xs (mode_name p c m)

  abbrev pub names_used : List Spelled → List Refused
  names_used xs = flat_map (λ x. used s x.text x.at) xs

  -- the names, the right side, and what is between them
  pub equation_chain : (xs : List Spelled) (e : Expression) (p : Part) (o o1 o2 q : Option Refused) → IsPart s e p → o1 ≡ noted_all o
      (names_used xs) → o2 ≡ noted_all o1 (whole_walk s true false e) → q ≡ noted_all o2 (sides_notes s xs e p.sort p.from) →
      q ≡ noted_all o (names_used xs ++ (whole_walk s true false e ++ sides_fit s xs e))
  equation_chain xs e p o o1 o2 q i d g h =
      h ∙ ap (λ z. noted_all o2 (sides_notes s xs e z p.from)) i.sort ∙ ap (λ z. noted_all o2 (sides_notes s xs e (type_of s e) z)) i.from
      ∙ ap (noted_all o2) (sides_are xs e) ∙ ap (λ z. noted_all z (sides_fit s xs e)) g
      ∙ sym (noted_append o1 (whole_walk s true false e) (sides_fit s xs e)) ∙ ap
      (λ z. noted_all z (whole_walk s true false e ++ sides_fit s xs e)) d ∙ sym
      (noted_append o (names_used xs) (whole_walk s true false e ++ sides_fit s xs e))

  pub equation_same : (c : Clock) (xs : List Spelled) (e : Expression) → AreSame
      (names_used xs ++ (whole_walk s true false e ++ sides_fit s xs e)) (equation_faults s c xs e)
  equation_same c xs e p =
      let i : Both (failing p (whole_walk s true false e)) (failing p (expression_faults s (as_side c) e)) = expression_noted p s (as_side c) e in
      let a = failing_append p (names_used xs) (whole_walk s true false e ++ sides_fit s xs e) in
      let b = failing_append p (whole_walk s true false e) (sides_fit s xs e) in
      let d = failing_append p (names_used xs ++ sides_fit s xs e) (expression_faults s (as_side c) e) in
      let f = failing_append p (names_used xs) (sides_fit s xs e) in
      record { there = λ z. omega (arith, a, b, d, f, i.there); back = λ z. omega (arith, a, b, d, f, i.back) }

  -- several left names of one value
  pub several : (xs : List PlacedName) (q : Option Sort) (from : Pos) → 2 ≤ length xs → value_notes s (map word_view xs) q from ≡ fault arity_clash from ∷ []
  several [] q from h = absurd (omega arith)
  several (x ∷ []) q from h = absurd (omega arith)
  several (x ∷ y ∷ xs) q from h = refl
