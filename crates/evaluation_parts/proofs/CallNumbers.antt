-- The numbers of the calls of a text, from its occurrences.
use Rattle.std.proofs.Common.{◌≡◌, refl, ap, sym, ◌∙◌, ℕ, true, false, ◌||◌, List, [], ◌∷◌, ◌++◌, map, flat_map, ◌==◌}
use Rattle.std.proofs.lemmas.List.{append_assoc, append-nil}
use Rattle.lus_tree.specs.Tree.{Expression, Expressions, truth, number, name, negation, minus, pre, arrow, binary, choice, sampled, merged, call, condact, mode_name, no_more, more, Statement, equation, assertion, property, main_mark, ContractStatement, assume, guarantee, ghost_variable, constant, mode, «import», Component}
use Rattle.lus_meaning.specs.Scene.{Site, Manner, plain, while_true, as_import, base, sampled_by, clock_of, contract_statements}
use Rattle.lus_meaning.specs.Occurrences.{Standing, Occurrence, Text, within, before, moved, on_clock, occurrences, occurrences_among}
use Rattle.lus_meaning.specs.Program.{site_in}
use Rattle.lus_evaluation.specs.Frame.{evaluated_clause, evaluated_statement, evaluated_texts, evaluated_calls, stands_in, is_evaluated}
use Rattle.evaluation_parts.specs.CallNumbers.{call_numbers, call_numbers_among, clause_numbers, statement_numbers, numbers_evaluated, has_number, is_import_or}

abbrev sites_at : List Occurrence → List Site
sites_at os = flat_map (λ o. site_in o.standing o.expression) os

abbrev numbers : List Site → List ℕ
numbers ss = map (λ s. s.number) ss

-- ---- lists

map_joint : {A B : Type 0} (f : A → B) (xs ys : List A) → map f (xs ++ ys) ≡ map f xs ++ map f ys
map_joint f [] ys = refl
map_joint f (x ∷ xs) ys = ap (λ z. f x ∷ z) (map_joint f xs ys)

flat_joint : {A B : Type 0} (f : A → List B) (xs ys : List A) → flat_map f (xs ++ ys) ≡ flat_map f xs ++ flat_map f ys
flat_joint f [] ys = refl
flat_joint f (x ∷ xs) ys = ap (λ z. f x ++ z) (flat_joint f xs ys) ∙ sym (append_assoc (f x) (flat_map f xs) (flat_map f ys))

joint : (xs ys : List Occurrence) → numbers (sites_at (xs ++ ys)) ≡ numbers (sites_at xs) ++ numbers (sites_at ys)
joint xs ys = ap numbers (flat_joint (λ o. site_in o.standing o.expression) xs ys)
    ∙ map_joint (λ s. s.number) (sites_at xs) (sites_at ys)

both : (xs ys : List Occurrence) (a b : List ℕ) → numbers (sites_at xs) ≡ a → numbers (sites_at ys) ≡ b → numbers (sites_at (xs ++ ys)) ≡ a ++ b
both xs ys a b p q = joint xs ys ∙ (ap (λ z. z ++ numbers (sites_at ys)) p ∙ ap (λ z. a ++ z) q)

-- ---- expressions

mutual
  pub of_text : (n : Component) (s : Standing) (e : Expression) → numbers (sites_at (occurrences n s e)) ≡ call_numbers e
  of_text n s (truth p b) = refl
  of_text n s (number p k) = refl
  of_text n s (name p x) = refl
  of_text n s (negation p a) = of_text n (within s) a
  of_text n s (minus p a) = of_text n (within s) a
  of_text n s (pre p k a) = of_text n (before s) a
  of_text n s (arrow p k a b) = both (occurrences n (within s) a) (record { standing = s; expression = arrow p k a b } ∷ occurrences n (within s) b)
      (call_numbers a) (call_numbers b) (of_text n (within s) a) (of_text n (within s) b)
  of_text n s (binary p o a b) = both (occurrences n (within s) a) (record { standing = s; expression = binary p o a b } ∷ occurrences n (within s) b)
      (call_numbers a) (call_numbers b) (of_text n (within s) a) (of_text n (within s) b)
  of_text n s (choice p a b d) = both (occurrences n (within s) a) (occurrences n (within s) b ++ occurrences n (within s) d)
      (call_numbers a) (call_numbers b ++ call_numbers d) (of_text n (within s) a)
      (both (occurrences n (within s) b) (occurrences n (within s) d) (call_numbers b) (call_numbers d) (of_text n (within s) b) (of_text n (within s) d))
  of_text n s (sampled p a b x) = both (occurrences n (moved (clock_of n x.text) s) a) (record { standing = s; expression = sampled p a b x } ∷ [])
      (call_numbers a) [] (of_text n (moved (clock_of n x.text) s) a) refl ∙ append-nil (call_numbers a)
  of_text n s (merged p x a b) = both (occurrences n (moved (sampled_by true x.text) s) a) (occurrences n (moved (sampled_by false x.text) s) b)
      (call_numbers a) (call_numbers b) (of_text n (moved (sampled_by true x.text) s) a) (of_text n (moved (sampled_by false x.text) s) b)
  of_text n s (call p k f as_) = ap (λ z. k ∷ z) (of_texts n (within s) as_)
  of_text n s (condact p k a f as_ ds) = ap (λ z. k ∷ z)
      (both (occurrences n (within s) a) (occurrences_among n (within s) as_ ++ occurrences_among n (within s) ds)
      (call_numbers a) (call_numbers_among as_ ++ call_numbers_among ds) (of_text n (within s) a)
      (both (occurrences_among n (within s) as_) (occurrences_among n (within s) ds) (call_numbers_among as_) (call_numbers_among ds)
      (of_texts n (within s) as_) (of_texts n (within s) ds)))
  of_text n s (mode_name p d m) = refl

  of_texts : (n : Component) (s : Standing) (es : Expressions) → numbers (sites_at (occurrences_among n s es)) ≡ call_numbers_among es
  of_texts n s no_more = refl
  of_texts n s (more a as_) = both (occurrences n s a) (occurrences_among n s as_) (call_numbers a) (call_numbers_among as_) (of_text n s a) (of_texts n s as_)

-- ---- the texts that are evaluated with a frame

abbrev calls_of_texts : Component → List Text → List Site
calls_of_texts d xs = flat_map (λ x. sites_at (occurrences d x.0 x.1)) xs

abbrev text_numbers : List Text → List ℕ
text_numbers xs = flat_map (λ x. call_numbers x.1) xs

of_all : (d : Component) (xs : List Text) → numbers (calls_of_texts d xs) ≡ text_numbers xs
of_all d [] = refl
of_all d (x ∷ xs) = map_joint (λ s. s.number) (sites_at (occurrences d x.0 x.1)) (calls_of_texts d xs)
    ∙ (ap (λ z. z ++ numbers (calls_of_texts d xs)) (of_text d x.0 x.1) ∙ ap (λ z. call_numbers x.1 ++ z) (of_all d xs))

of_arguments : (as_ : List Expression) → text_numbers (map (λ a. (on_clock base, a)) as_) ≡ flat_map call_numbers as_
of_arguments [] = refl
of_arguments (a ∷ as_) = ap (λ z. call_numbers a ++ z) (of_arguments as_)

of_clause : (c : ContractStatement) → text_numbers (evaluated_clause c) ≡ clause_numbers c
of_clause (assume l) = refl
of_clause (guarantee l) = refl
of_clause (ghost_variable x e) = append-nil (call_numbers e)
of_clause (constant c) = refl
of_clause (mode m rs es) = refl
of_clause («import» k c as_ xs) = of_arguments as_

of_statement : (d : Component) (s : Statement) → text_numbers (evaluated_statement d s) ≡ statement_numbers s
of_statement d (equation xs e) = append-nil (call_numbers e)
of_statement d (assertion e) = append-nil (call_numbers e)
of_statement d (property l) = refl
of_statement d (main_mark p) = refl

of_each : {A : Type 0} (f : A → List Text) (g : A → List ℕ) → ((a : A) → text_numbers (f a) ≡ g a) → (xs : List A)
    → text_numbers (flat_map f xs) ≡ flat_map g xs
of_each f g h [] = refl
of_each f g h (x ∷ xs) = flat_joint (λ y. call_numbers y.1) (f x) (flat_map f xs)
    ∙ (ap (λ z. z ++ text_numbers (flat_map f xs)) (h x) ∙ ap (λ z. g x ++ z) (of_each f g h xs))

numbers_are : (d : Component) → numbers (evaluated_calls d) ≡ numbers_evaluated d
numbers_are d = of_all d (evaluated_texts d)
    ∙ (flat_joint (λ y. call_numbers y.1) (flat_map evaluated_clause (contract_statements d)) (flat_map (evaluated_statement d) d.body)
    ∙ (ap (λ z. z ++ text_numbers (flat_map (evaluated_statement d) d.body)) (of_each evaluated_clause clause_numbers of_clause (contract_statements d))
    ∙ ap (λ z. flat_map clause_numbers (contract_statements d) ++ z) (of_each (evaluated_statement d) statement_numbers (of_statement d) d.body)))

any_number : (ss : List Site) (k : ℕ) → stands_in ss k ≡ has_number (numbers ss) k
any_number [] k = refl
any_number (s ∷ ss) k = ap (λ z. (s.number == k) || z) (any_number ss k)

stands : (d : Component) (k : ℕ) → stands_in (evaluated_calls d) k ≡ has_number (numbers_evaluated d) k
stands d k = any_number (evaluated_calls d) k ∙ ap (λ z. has_number z k) (numbers_are d)

pub evaluated_is : (d : Component) (c : Site) (m : Manner) → is_evaluated d c m ≡ is_import_or (numbers_evaluated d) c.number m
evaluated_is d c (as_import xs) = refl
evaluated_is d c plain = stands d c.number
evaluated_is d c (while_true a) = stands d c.number
