-- Lists.
use Rattle.std.proofs.Common.{◌≡◌, ℕ, zero, suc, ◌<◌, true, false, eqb, List, [], ◌∷◌, ◌++◌, map, length, Option, Some, None, slice_get, refl, ap, ◌∙◌, subst, arith}
use Rattle.std.specs.Prelude.{option_to_list}
use Rattle.std.specs.List.{AllByRecursion}
use Rattle.std.proofs.Math.Logic.{◌⊎◌, inl, inr}
use Rattle.std.proofs.lemmas.Bool.{false≢true, cases_Bool, eqb-true}
use Rattle.lus_meaning.specs.Order.{is_listed}
use Rattle.lus_evaluation.specs.Frame.{picked}
use Rattle.order_laws.proofs.Lists.{left_of, right_of}

some_is : {A : Type 0} (x y : A) → Some x ≡ Some y → x ≡ y
some_is x y q = cc

-- ---- what is picked

-- what is so of all that is picked by numbers is so of what has one of them
one_picked : {A : Type 0} (P : A → Type 0) (ks : List ℕ) (xs : List A) (k : ℕ) (x : A) → AllByRecursion P (picked ks xs) → is_listed ks k ≡ true
    → slice_get xs k ≡ Some x → P x
one_picked P [] xs k x a l q = absurd (false≢true l)
one_picked {A} P (j ∷ ks) xs k x a l q = go (cases_Bool (eqb k j)) (one_picked P ks xs k x (right_of P (option_to_list (slice_get xs j)) (picked ks xs) a))
  where
    here : (o : Option A) → AllByRecursion P (option_to_list o) → o ≡ Some x → P x
    here None a e = cc
    here (Some y) a e = subst P (some_is y x e) a.0

    go : (eqb k j ≡ true) ⊎ (eqb k j ≡ false) → (is_listed ks k ≡ true → slice_get xs k ≡ Some x → P x) → P x
    go (inl t) later = here (slice_get xs j) (left_of P (option_to_list (slice_get xs j)) (picked ks xs) a)
        (subst (λ n. slice_get xs n ≡ Some x) (eqb-true k j t) q)
    go (inr f) later = later (rw f at l) q

by_numbers : {A : Type 0} (P : A → Type 0) (xs : List A) → ((k : ℕ) (x : A) → k < length xs → slice_get xs k ≡ Some x → P x) → AllByRecursion P xs
by_numbers P [] h = tt
by_numbers P (x ∷ xs) h = (h zero x (omega arith) refl, by_numbers P xs (λ k y l q. h (suc k) y (omega (arith, l)) q))

-- so it is of all, where each number is among these
pub all_picked : {A : Type 0} (P : A → Type 0) (ks : List ℕ) (xs : List A) → ((k : ℕ) → k < length xs → is_listed ks k ≡ true)
    → AllByRecursion P (picked ks xs) → AllByRecursion P xs
all_picked P ks xs all a = by_numbers P xs (λ k x l q. one_picked P ks xs k x a (all k l) q)

-- ---- what is mapped

-- a part of a mapped list stands where one of the list does
pub record IsSplitOf {A B : Type 0} (g : A → B) (xs : List A) (front : List B) (y : B) : Type 0 where
  pub before : List A
  pub here : A
  pub after : List A
  pub split : xs ≡ before ++ here ∷ after
  pub front_is : front ≡ map g before
  pub here_is : y ≡ g here

pub map_split : {A B : Type 0} (g : A → B) (xs : List A) (front : List B) (y : B) (rest : List B) → map g xs ≡ front ++ y ∷ rest
    → IsSplitOf g xs front y
map_split g [] [] y rest e = cc
map_split g [] (z ∷ front) y rest e = cc
map_split g (x ∷ xs) [] y rest e = record {
  before = [];
  here = x;
  after = xs;
  split = refl;
  front_is = refl;
  here_is = first_is (g x) y (map g xs) rest e;
}
  where
    first_is : {B : Type 0} (x y : B) (xs ys : List B) → x ∷ xs ≡ y ∷ ys → y ≡ x
    first_is x y xs ys e = cc
map_split g (x ∷ xs) (z ∷ front) y rest e =
    let h : IsSplitOf g xs front y = map_split g xs front y rest (rest_is (g x) z (map g xs) (front ++ y ∷ rest) e) in
    record {
      before = x ∷ h.before;
      here = h.here;
      after = h.after;
      split = ap (λ xs. x ∷ xs) h.split;
      front_is = ap (λ w. w ∷ front) (first_is (g x) z (map g xs) (front ++ y ∷ rest) e) ∙ ap (λ fs. g x ∷ fs) h.front_is;
      here_is = h.here_is;
    }
  where
    first_is : {B : Type 0} (x y : B) (xs ys : List B) → x ∷ xs ≡ y ∷ ys → y ≡ x
    first_is x y xs ys e = cc

    rest_is : {B : Type 0} (x y : B) (xs ys : List B) → x ∷ xs ≡ y ∷ ys → xs ≡ ys
    rest_is x y xs ys e = cc

pub over_mapped : {A B : Type 0} (P : B → Type 0) (g : A → B) (xs : List A) → AllByRecursion (λ x. P (g x)) xs → AllByRecursion P (map g xs)
over_mapped P g [] a = tt
over_mapped P g (x ∷ xs) a = (a.0, over_mapped P g xs a.1)
