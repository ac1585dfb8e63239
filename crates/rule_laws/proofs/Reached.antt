-- What is reached by calls: in one more step, and in more steps.
use Rattle.std.proofs.Common.{◌≡◌, ℕ, zero, suc, ◌+◌, Bool, true, false, cond, ◌||◌, List, [], ◌∷◌, ◌++◌, map, refl, sym, ap, ◌∙◌, subst, arith}
use Rattle.std.specs.List.{AllByRecursion}
use Rattle.std.specs.Str.{bytes_eq}
use Rattle.std.proofs.Math.Logic.{◌⊎◌, inl, inr}
use Rattle.std.proofs.lemmas.Bool.{false≢true}
use Rattle.lus_tree.specs.Tree.{Name, text_of, Component, declared_constant, declared_node, declared_contract, Program}
use Rattle.lus_meaning.specs.Depends.{named_in}
use Rattle.lus_meaning.specs.NameFaults.{Graph, callees, graph_of, next_in, new_among, reached}
use Rattle.lus_meaning.specs.ClockFaults.{components}
use Rattle.lus_meaning.proofs.Lists.{all_from, named_append, or_true, or_left}
use Rattle.lus_meaning.proofs.Exists.{self_bytes}
use Rattle.lus_meaning.proofs.Unique.{same_bytes}

in_first : (a b : Bool) → b ≡ false → (a || (b || false)) ≡ true → a ≡ true
in_first true b d e = refl
in_first false b d e = absurd (false≢true (sym (rw d refl) ∙ e))

in_left : (x : Name) (xs ys : List Name) → named_in x xs ≡ true → named_in x (xs ++ ys) ≡ true
in_left x xs ys e = named_append x xs ys ∙ or_left (named_in x xs) (named_in x ys) e

in_right : (x : Name) (xs ys : List Name) → named_in x ys ≡ true → named_in x (xs ++ ys) ≡ true
in_right x xs ys e = named_append x xs ys ∙ or_true (named_in x xs) (named_in x ys) e

-- what is found is known or new
new_or_known : (y : Name) (known xs : List Name) → named_in y xs ≡ true → (named_in y known ≡ true) ⊎ (named_in y (new_among known xs) ≡ true)
new_or_known y known [] e = absurd (false≢true e)
new_or_known y known (x ∷ xs) e = here (bytes_eq y x) refl e (new_or_known y (known ++ x ∷ []) xs)
  where
    later : List Name
    later = new_among (known ++ x ∷ []) xs

    same : (c : Bool) → named_in x known ≡ c → y ≡ x → (named_in y known ≡ true) ⊎ (named_in y (cond c [] (x ∷ []) ++ later) ≡ true)
    same true k s = inl (ap (λ z. named_in z known) s ∙ k)
    same false k s = inr (or_left (bytes_eq y x) (named_in y later) (ap (bytes_eq y) (sym s) ∙ self_bytes y))

    other : bytes_eq y x ≡ false → (named_in y (known ++ x ∷ []) ≡ true) ⊎ (named_in y later ≡ true) → (named_in y known ≡ true) ⊎
        (named_in y (cond (named_in x known) [] (x ∷ []) ++ later) ≡ true)
    other d (inl h) = inl (in_first (named_in y known) (bytes_eq y x) d (sym (named_append y known (x ∷ [])) ∙ h))
    other d (inr h) = inr (in_right y (cond (named_in x known) [] (x ∷ [])) later h)

    here : (c : Bool) → bytes_eq y x ≡ c → (c || named_in y xs) ≡ true →
        (named_in y xs ≡ true → (named_in y (known ++ x ∷ []) ≡ true) ⊎ (named_in y later ≡ true)) → (named_in y known ≡ true) ⊎
        (named_in y (cond (named_in x known) [] (x ∷ []) ++ later) ≡ true)
    here true m h r = same (named_in x known) refl (same_bytes y x m)
    here false m h r = other m (r h)

-- the names of one round
abbrev pub round : Graph → List Name → List Name
round g xs = xs ++ new_among xs (next_in g xs)

in_round : (g : Graph) (y : Name) (xs : List Name) → named_in y (next_in g xs) ≡ true → named_in y (round g xs) ≡ true
in_round g y xs e = go (new_or_known y xs (next_in g xs) e)
  where
    go : (named_in y xs ≡ true) ⊎ (named_in y (new_among xs (next_in g xs)) ≡ true) → named_in y (round g xs) ≡ true
    go (inl h) = in_left y xs (new_among xs (next_in g xs)) h
    go (inr h) = in_right y xs (new_among xs (next_in g xs)) h

pub reach_more : (k : ℕ) (g : Graph) (x : Name) (xs : List Name) → named_in x (reached k g xs) ≡ true → named_in x (reached (suc k) g xs) ≡ true
reach_more zero g x xs e = in_left x xs (new_among xs (next_in g xs)) e
reach_more (suc k) g x xs e = reach_more k g x (round g xs) e

pub reach_first : (k : ℕ) (g : Graph) (x : Name) (xs : List Name) → named_in x xs ≡ true → named_in x (reached k g xs) ≡ true
reach_first zero g x xs e = e
reach_first (suc k) g x xs e = reach_more k g x xs (reach_first k g x xs e)

pub reach_most : (j k m : ℕ) → j + k ≡ m → (g : Graph) (x : Name) (xs : List Name) → named_in x (reached k g xs) ≡ true → named_in x (reached m g xs) ≡ true
reach_most zero k m s g x xs e = let same : k ≡ m = omega arith in subst (λ i. named_in x (reached i g xs) ≡ true) same e
reach_most (suc j) k m s g x xs e = reach_most j (suc k) m (omega arith) g x xs (reach_more k g x xs e)

-- a call from what is reached is reached by one more step
pub reach_next : (k : ℕ) (g : Graph) (x y : Name) → ((xs : List Name) → named_in x xs ≡ true → named_in y (next_in g xs) ≡ true) →
    (xs : List Name) → named_in x (reached k g xs) ≡ true → named_in y (reached (suc k) g xs) ≡ true
reach_next zero g x y next xs e = in_round g y xs (next xs e)
reach_next (suc k) g x y next xs e = reach_next k g x y next (round g xs) e

-- ---- the calls of a declaration

abbrev pub Leads : Program → Graph → Name → List Name → Component → Type 0
Leads p g y xs n = named_in n.name.text xs ≡ true → named_in y (map text_of (callees p n)) ≡ true → named_in y (next_in g xs) ≡ true

first_row : (p : Program) (g : Graph) (y : Name) (xs : List Name) (n : Component) → Leads p ((n.name.text, map text_of (callees p n)) ∷ g) y xs n
first_row p g y xs n h e = go (named_in n.name.text xs) h
  where
    go : (c : Bool) → c ≡ true → named_in y (cond c (map text_of (callees p n)) [] ++ next_in g xs) ≡ true
    go true k = in_left y (map text_of (callees p n)) (next_in g xs) e
    go false k = absurd (false≢true k)

later_rows : (p : Program) (g : Graph) (y : Name) (xs : List Name) (r : Name × List Name) (ns : List Component) → AllByRecursion
    (Leads p g y xs) ns → AllByRecursion (Leads p (r ∷ g) y xs) ns
later_rows p g y xs r ns a = all_from (Leads p g y xs) (Leads p (r ∷ g) y xs)
    (λ n l h e. in_right y (cond (named_in r.0 xs) r.1 []) (next_in g xs) (l h e)) ns a

pub leads : (p : Program) (y : Name) (xs : List Name) (ds : Program) → AllByRecursion (Leads p (graph_of p ds) y xs) (components ds)
leads p y xs [] = tt
leads p y xs (declared_constant c ∷ ds) = leads p y xs ds
leads p y xs (declared_node n ∷ ds) =
    (first_row p (graph_of p ds) y xs n, later_rows p (graph_of p ds) y xs (n.name.text, map text_of (callees p n)) (components ds) (leads p y xs ds))
leads p y xs (declared_contract n ∷ ds) =
    (first_row p (graph_of p ds) y xs n, later_rows p (graph_of p ds) y xs (n.name.text, map text_of (callees p n)) (components ds) (leads p y xs ds))
