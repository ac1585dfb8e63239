-- What is numbered from 1 on, in the order of its numbers; names in a list, and values by their place.
use Rattle.std.proofs.Common.{◌≡◌, ℕ, zero, suc, ◌<◌, ◌≤◌, ◌+◌, true, List, [], ◌∷◌, ◌++◌, map, flat_map, length, Some, refl, sym, ap, ◌∙◌, subst, arith, slice_get}
use Rattle.std.specs.Prelude.{find, option_to_list, ◌==◌}
use Rattle.std.specs.List.{AllByRecursion}
use Rattle.lus_tree.specs.Tree.{Expression, truth, number, name, negation, minus, pre, arrow, binary, choice, sampled, merged, call, condact, mode_name, ContractStatement, assume, guarantee, ghost_variable, constant, mode, «import», Component}
use Rattle.lus_tree.specs.Numbers.{a_pre, an_arrow, a_call, arrow_number, pre_number, call_number, all_numbers, import_number, numbers_in, counting, times, are_counted, IsNumbered}
use Rattle.lus_meaning.specs.Scene.{Site, contract_statements}
use Rattle.lus_meaning.specs.Program.{site_in, import_site, in_order}
use Rattle.lus_meaning.specs.Occurrences.{Standing, gathered, memories, starts}
use Rattle.lus_meaning.proofs.Lists.{append_none}
use Rattle.rule_laws.proofs.Numbered.{At}
use Rattle.sys_meaning.proofs.Found.{once, found, found_number, some_found}

-- ---- in order

module _ {A : Type 0} (at : A → ℕ) where
  -- numbered on from m
  abbrev pub CountedFrom : ℕ → List A → Type 0
  CountedFrom m [] = Unit {0}
  CountedFrom m (x ∷ xs) = (at x ≡ m) × CountedFrom (suc m) xs

  counted_on : (xs : List A) (m n : ℕ) → ((j : ℕ) → m ≤ j → j < m + n → (x : A) × (found at j xs ≡ Some x)) →
      CountedFrom m (flat_map (λ k. option_to_list (find (λ x. at x == k) xs)) (counting m n))
  counted_on xs m zero h = tt
  counted_on xs m (suc n) h =
      go (h m (omega arith) (omega arith)) (counted_on xs (suc m) n (λ j a b. h j (omega (arith, a)) (omega (arith, b))))
    where
      go : (x : A) × (found at m xs ≡ Some x) →
          CountedFrom (suc m) (flat_map (λ k. option_to_list (find (λ x. at x == k) xs)) (counting (suc m) n)) →
          CountedFrom m (option_to_list (find (λ x. at x == m) xs) ++ flat_map (λ k. option_to_list (find (λ x. at x == k) xs)) (counting (suc m) n))
      go q r = subst (λ o. CountedFrom m (option_to_list o ++ flat_map (λ k. option_to_list (find (λ x. at x == k) xs)) (counting (suc m) n)))
          (sym q.1) (found_number at m xs q.0 q.1, r)

  many : (xs : List A) → length (map at xs) ≡ length xs
  many [] = refl
  many (x ∷ xs) = ap suc (many xs)

  pub each_found : (xs : List A) → are_counted (map at xs) ≡ true → (j : ℕ) → 1 ≤ j → j < 1 + length xs → (x : A) × (found at j xs ≡ Some x)
  each_found xs e j a b =
      let l : length (map at xs) ≡ length xs = many xs in
      let o : times j (map at xs) ≡ 1 = once (map at xs) e j a (omega (arith, l, b)) in
      some_found at j xs (omega (arith, o))

  pub in_order_counted : (xs : List A) → are_counted (map at xs) ≡ true → CountedFrom 1 (in_order at xs)
  in_order_counted xs e = counted_on xs 1 (length xs) (each_found xs e)

-- ---- places

pub at_get : {A B : Type 0} (f : A → B) (xs : List A) (k : ℕ) (x : A) → At xs k x → slice_get (map f xs) k ≡ Some (f x)
at_get f [] k x a = absurd a
at_get f (y ∷ xs) zero x a = ap (λ z. Some (f z)) a
at_get f (y ∷ xs) (suc k) x a = at_get f xs k x a

pub at_within : {A : Type 0} (xs : List A) (k : ℕ) (x : A) → At xs k x → k < length xs
at_within [] k x a = absurd a
at_within (y ∷ xs) zero x a = omega arith
at_within (y ∷ xs) (suc k) x a = let l : k < length xs = at_within xs k x a in omega (arith, l)
