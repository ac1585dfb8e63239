-- What is computed of parts whose weights are cut.
use Rattle.std.proofs.Common.{◌≡◌, ℕ, suc, ◌+◌, ◌*◌, min, max, Bool, true, false, cond, refl, sym, ap, ◌∙◌, arith, Option, Some, None, option_map}
use Rattle.std.specs.Prelude.{nat_lt}
use Rattle.std.proofs.lemmas.Bool.Decides.{nat_tests}
use Rattle.lus_tree.specs.declared.expression.Operator.{Operator}
use Rattle.lus_tree.specs.declared.expression.Operator.TheVariants.{Implies, Or, Xor, And, Less, AtMost, Equal, Differs, AtLeast, More, Add, Sub, Mul, Div, Mod}
use Rattle.lus_meaning.specs.Value.{Value, absent, minus_value}
use Rattle.lus_meaning.specs.Scope.{Worth, worth, weighing, operator_weight, operator_worth, choice_worth, choose_total, apply_total, is_zero, is_heavy, both_weights, size_of, greater}
use Rattle.lus_scopes.specs.Cut.{heaviest, cut, cut_worth}
use Rattle.lus_scopes.proofs.Cuts.{sum_of_cut, greater_of_cut, one_of_cut, product_of_cut}

cut_once : (k w : ℕ) → min k (min k w) ≡ min k w
cut_once k w = omega arith

factor_of_cut : (k m w : ℕ) → min k (m * min k w) ≡ min k (m * w)
factor_of_cut k m w = sym (product_of_cut k m (min k w)) ∙ ap (λ z. min k (min k m * z)) (cut_once k w) ∙ product_of_cut k m w

above_cut : (g w : ℕ) → nat_lt g (min (suc g) w) ≡ nat_lt g w
above_cut g w = grind (arith, nat_tests)

pub heavy_of_cut : (w : Option ℕ) → is_heavy (cut w) ≡ is_heavy w
heavy_of_cut None = refl
heavy_of_cut (Some w) = above_cut 9223372036854775808 w

same_heavy : (v w : Option ℕ) → cut v ≡ cut w → is_heavy v ≡ is_heavy w
same_heavy v w e = sym (heavy_of_cut v) ∙ ap is_heavy e ∙ heavy_of_cut w

same_worth : (x : Value) (v w : Option ℕ) → cut v ≡ cut w → cut_worth (worth x v) ≡ cut_worth (worth x w)
same_worth x v w e = ap (λ h. let z : Worth = record { value = cond h absent x; weight = cut v } in z) (same_heavy v w e) ∙ ap
    (λ c. let z : Worth = record { value = cond (is_heavy w) absent x; weight = c } in z) e

sum_weight : (v w : Option ℕ) → cut (both_weights (λ v w. v + w) (cut v) (cut w)) ≡ cut (both_weights (λ v w. v + w) v w)
sum_weight None w = refl
sum_weight (Some v) None = refl
sum_weight (Some v) (Some w) = ap Some (sum_of_cut heaviest v w)

product_weight : (v w : Option ℕ) → cut (both_weights (λ v w. v * w) v (cut w)) ≡ cut (both_weights (λ v w. v * w) v w)
product_weight None w = refl
product_weight (Some v) None = refl
product_weight (Some v) (Some w) = ap Some (factor_of_cut heaviest v w)

greater_weight : (v w : Option ℕ) → cut (greater (cut v) (cut w)) ≡ cut (greater v w)
greater_weight None w = refl
greater_weight (Some v) None = refl
greater_weight (Some v) (Some w) = ap Some (greater_of_cut heaviest v w (omega arith))

one_weight : (v : Option ℕ) → cut (option_map (max 1) (cut v)) ≡ cut (option_map (max 1) v)
one_weight None = refl
one_weight (Some v) = ap Some (one_of_cut heaviest v (omega arith))

divided_weight_of_cut : (z : Bool) (v w : Option ℕ) → cut v ≡ cut w → cut (cond z None v) ≡ cut (cond z None w)
divided_weight_of_cut true v w e = refl
divided_weight_of_cut false v w e = e

weight_of_cut : (o : Operator) (c : Bool) (a b : Worth) → cut (operator_weight o c (cut_worth a) (cut_worth b)) ≡ cut (operator_weight o c a b)
weight_of_cut Implies c a b = refl
weight_of_cut Or c a b = refl
weight_of_cut Xor c a b = refl
weight_of_cut And c a b = refl
weight_of_cut Less c a b = refl
weight_of_cut AtMost c a b = refl
weight_of_cut Equal c a b = refl
weight_of_cut Differs c a b = refl
weight_of_cut AtLeast c a b = refl
weight_of_cut More c a b = refl
weight_of_cut Add c a b = sum_weight a.weight b.weight
weight_of_cut Sub c a b = sum_weight a.weight b.weight
weight_of_cut Mul true a b = product_weight (size_of a.value) b.weight
weight_of_cut Mul false a b = product_weight (size_of b.value) a.weight
weight_of_cut Div c a b = divided_weight_of_cut (is_zero b.value) _ _ (one_weight a.weight)
weight_of_cut Mod c a b = refl

pub operator_of_cut : (o : Operator) (c : Bool) (a b : Worth) → cut_worth (operator_worth o c (cut_worth a) (cut_worth b)) ≡ cut_worth (operator_worth o c a b)
operator_of_cut o c a b = same_worth (apply_total o a.value b.value) (operator_weight o c (cut_worth a) (cut_worth b))
    (operator_weight o c a b) (weight_of_cut o c a b)

pub choice_of_cut : (a b d : Worth) → cut_worth (choice_worth (cut_worth a) (cut_worth b) (cut_worth d)) ≡ cut_worth (choice_worth a b d)
choice_of_cut a b d = same_worth (choose_total a.value b.value d.value) (greater (cut b.weight) (cut d.weight)) (greater b.weight d.weight)
    (greater_weight b.weight d.weight)

-- both sides of a stream that has two
pub either_of_cut : (a b : Worth) → cut_worth (weighing (greater (cut_worth a).weight (cut_worth b).weight)) ≡ cut_worth (weighing (greater a.weight b.weight))
either_of_cut a b = ap (λ c. let z : Worth = record { value = absent; weight = c } in z) (greater_weight a.weight b.weight)

pub minus_of_cut : (a : Worth) → worth (minus_value (cut_worth a).value) (cut_worth a).weight ≡ cut_worth (worth (minus_value a.value) a.weight)
minus_of_cut a = ap (λ h. let z : Worth = record { value = cond h absent (minus_value a.value); weight = cut a.weight } in z) (heavy_of_cut a.weight)
