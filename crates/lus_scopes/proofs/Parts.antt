-- The faults of an operator by what is known of its operands are those of the definition.
use Rattle.std.proofs.Common.{◌≡◌, ◌&&◌, ◌++◌, refl, ap}
use Rattle.lus_tree.specs.declared.place.Pos.{Pos}
use Rattle.lus_tree.specs.declared.place.Sort.{Sort}
use Rattle.lus_tree.specs.declared.place.Sort.TheVariants.{Bool as Flags, Int as Numbers}
use Rattle.lus_tree.specs.declared.expression.Operator.{Operator}
use Rattle.lus_tree.specs.declared.expression.Operator.TheVariants.{Implies, Or, Xor, And, Less, AtMost, Equal, Differs, AtLeast, More, Add, Sub, Mul, Div, Mod}
use Rattle.lus_tree.specs.Tree.{Expression}
use Rattle.lus_tree.specs.Reason.{zero_divisor}
use Rattle.lus_meaning.specs.Scope.{Scope, Worth, is_constant, is_zero}
use Rattle.lus_meaning.specs.Faults.{if_so}
use Rattle.lus_meaning.specs.ExpressionFaults.{needs_sort, agree}
use Rattle.lus_scopes.specs.declared.found.Part.{Part}
use Rattle.lus_scopes.specs.Walk.{operator_own, division_faults}
use Rattle.lus_scopes.specs.Parts.{IsPart, sort_notes, agree_notes, both_notes, division_notes, operator_notes}

module _ (s : Scope) where
  pub sort_noted : (q : Sort) (a : Expression) (p : Part) → IsPart s a p → sort_notes q p ≡ needs_sort s q a
  sort_noted q a p i = rw (i.sort, i.from) refl

  pub agree_noted : (a b : Expression) (p q : Part) → IsPart s a p → IsPart s b q → agree_notes p q ≡ agree s a b
  agree_noted a b p q i j = rw (i.sort, j.sort, j.from) refl

  both_noted : (k : Sort) (a b : Expression) (p q : Part) → IsPart s a p → IsPart s b q → both_notes k p q ≡ needs_sort s k a ++ needs_sort s k b
  both_noted k a b p q i j = rw (i.sort, i.from, j.sort, j.from) refl

  division_noted : (at : Pos) (a b : Expression) (p q : Part) → IsPart s a p → IsPart s b q → division_notes at p q ≡ division_faults s at a b
  division_noted at a b p q i j =
      rw (i.sort, i.from, j.sort, j.from, j.constant)
      (ap (λ w. needs_sort s Numbers a ++ needs_sort s Numbers b ++ if_so (is_constant s b && is_zero w) zero_divisor at) (ap (λ (w : Worth). w.value) j.worth))

  product_noted : (at : Pos) (a b : Expression) (p q : Part) → IsPart s a p → IsPart s b q → operator_notes at Mul p q ≡ operator_own s at Mul a b
  product_noted at a b p q i j = rw (i.sort, i.from, i.constant, j.sort, j.from, j.constant) refl

  pub operator_noted : (at : Pos) (o : Operator) (a b : Expression) (p q : Part) → IsPart s a p → IsPart s b q
      → operator_notes at o p q ≡ operator_own s at o a b
  operator_noted at Implies a b p q i j = both_noted Flags a b p q i j
  operator_noted at Or a b p q i j = both_noted Flags a b p q i j
  operator_noted at Xor a b p q i j = both_noted Flags a b p q i j
  operator_noted at And a b p q i j = both_noted Flags a b p q i j
  operator_noted at Less a b p q i j = both_noted Numbers a b p q i j
  operator_noted at AtMost a b p q i j = both_noted Numbers a b p q i j
  operator_noted at Equal a b p q i j = agree_noted a b p q i j
  operator_noted at Differs a b p q i j = agree_noted a b p q i j
  operator_noted at AtLeast a b p q i j = both_noted Numbers a b p q i j
  operator_noted at More a b p q i j = both_noted Numbers a b p q i j
  operator_noted at Add a b p q i j = both_noted Numbers a b p q i j
  operator_noted at Sub a b p q i j = both_noted Numbers a b p q i j
  operator_noted at Mul a b p q i j = product_noted at a b p q i j
  operator_noted at Div a b p q i j = division_noted at a b p q i j
  operator_noted at Mod a b p q i j = division_noted at a b p q i j
