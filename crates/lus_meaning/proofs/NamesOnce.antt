-- In a program that breaks no rule of names each declaration has each name once, and so has each instance.
use Rattle.std.proofs.Common.{◌≡◌, ℕ, zero, suc, ◌<◌, Bool, true, false, cond, ◌||◌, List, [], ◌∷◌, ◌++◌, map, Option, Some, None, unwrap_or, refl, sym, ap, ◌∙◌, subst, arith}
use Rattle.std.specs.Prelude.{Contains}
use Rattle.std.specs.List.{AllByRecursion}
use Rattle.std.specs.Str.{bytes_eq}
use Rattle.std.proofs.lemmas.Bool.{false≢true}
use Rattle.lus_tree.specs.declared.place.Pos.{Pos}
use Rattle.lus_tree.specs.Tree.{Name, text_of, Spelled, Variable, Component, declared_constant, declared_node, declared_contract, Program}
use Rattle.lus_tree.specs.Reason.{Reason, name_twice}
use Rattle.lus_meaning.specs.Scene.{Site, Instance, variables, contract_statements, no_component}
use Rattle.lus_meaning.specs.Program.{component_named, first_of_two, instance_within, instances_with, all_sites, contract_statement_constants}
use Rattle.lus_meaning.specs.Depends.{named_in}
use Rattle.lus_meaning.specs.WellMade.{AreDistinct}
use Rattle.lus_meaning.specs.Faults.{if_so, meets, same_word, words_twice, later}
use Rattle.lus_meaning.specs.NameFaults.{own_words, home, component_faults, declaration_faults, constant_words, typing_faults}
use Rattle.lus_meaning.specs.ClockFaults.{components}
use Rattle.lus_meaning.specs.Refusals.{IsTyped}
use Rattle.lus_meaning.specs.RuleLaws.{NamesOnce}
use Rattle.lus_meaning.proofs.Lists.{named_append, map_append}
use Rattle.lus_meaning.proofs.Equal.{AreNamed, CallsNamed}

-- ---- empty lists

abbrev is_nil : {A : Type 0} → List A → Bool
is_nil [] = true
is_nil (x ∷ xs) = false

pub not_nil : {A B : Type 0} (x : A) (xs : List A) → x ∷ xs ≡ [] → B
not_nil x xs e = absurd (false≢true (ap is_nil e))

pub empty_of : {A : Type 0} (xs : List A) → ((x : A) → Contains xs x → ⊥) → xs ≡ []
empty_of [] h = refl
empty_of (x ∷ xs) h = absurd (h x (0, omega arith, refl))

pub no_parts : {A : Type 0} (xs ys : List A) → xs ++ ys ≡ [] → (xs ≡ []) × (ys ≡ [])
no_parts [] ys e = (refl, e)
no_parts (x ∷ xs) ys e = not_nil x (xs ++ ys) e

pub not_so : (b : Bool) (r : Reason) (at : Pos) → if_so b r at ≡ [] → b ≡ false
not_so true r at e = not_nil _ _ e
not_so false r at e = refl

-- ---- names

neither_is : (a b : Bool) → a ≡ false → b ≡ false → (a || b) ≡ false
neither_is a b e f = rw (e, f) refl

meets_none : (r : Reason) (x : Spelled) (ws : List Spelled) → meets same_word (λ w. w.at) r x ws ≡ [] → named_in x.text (map text_of ws) ≡ false
meets_none r x [] e = refl
meets_none r x (w ∷ ws) e =
    let h : (if_so (same_word x w) r (later x.at w.at) ≡ []) × (meets same_word (λ w. w.at) r x ws ≡ []) = no_parts
    (if_so (same_word x w) r (later x.at w.at)) (meets same_word (λ w. w.at) r x ws) e in
    neither_is (bytes_eq x.text w.text) (named_in x.text (map text_of ws)) (not_so (same_word x w) r (later x.at w.at) h.0) (meets_none r x ws h.1)

pub none_twice : (r : Reason) (ws : List Spelled) → words_twice r ws ≡ [] → AreDistinct (map text_of ws)
none_twice r [] e = tt
none_twice r (w ∷ ws) e =
    let h : (meets same_word (λ w. w.at) r w ws ≡ []) × (words_twice r ws ≡ []) = no_parts (meets same_word (λ w. w.at) r w ws) (words_twice r ws) e in
    (meets_none r w ws h.0, none_twice r ws h.1)

not_first : (a b : Bool) → (a || b) ≡ false → a ≡ false
not_first true b e = absurd (false≢true (sym e))
not_first false b e = refl

pub distinct_left : (xs ys : List Name) → AreDistinct (xs ++ ys) → AreDistinct xs
distinct_left [] ys h = tt
distinct_left (x ∷ xs) ys h = (not_first (named_in x xs) (named_in x ys) (sym (named_append x xs ys) ∙ h.0), distinct_left xs ys h.1)

texts_of : (vs : List Variable) → map text_of (map (λ v. v.name) vs) ≡ map (λ v. v.name.text) vs
texts_of [] = refl
texts_of (v ∷ vs) = ap (λ (xs : List Name). v.name.text ∷ xs) (texts_of vs)

-- ---- declarations

abbrev pub Clean : Program → Component → Type 0
Clean p n = (k : ℕ) × (component_faults (home p k n) (constant_words p) ≡ [])

-- a program without faults of this phase has declarations without such faults
pub each_clean : (p : Program) (k : ℕ) (ds : Program) → declaration_faults p k ds ≡ [] → AllByRecursion (Clean p) (components ds)
each_clean p k [] e = tt
each_clean p k (declared_constant c ∷ ds) e = each_clean p (suc k) ds (no_parts _ _ e).1
each_clean p k (declared_node n ∷ ds) e = (
  (
    k,
    (no_parts (component_faults (home p k n) (constant_words p))
        (declaration_faults p k ds) e).0,
  ),
  each_clean p k ds (no_parts (component_faults (home p k n) (constant_words p))
      (declaration_faults p k ds) e).1,
)
each_clean p k (declared_contract n ∷ ds) e = (
  (
    k,
    (no_parts (component_faults (home p k n) (constant_words p))
        (declaration_faults p k ds) e).0,
  ),
  each_clean p k ds (no_parts (component_faults (home p k n) (constant_words p))
      (declaration_faults p k ds) e).1,
)

pub all_clean : (p : Program) → IsTyped p → AllByRecursion (Clean p) (components p)
all_clean p t = each_clean p 0 p (no_parts _ (declaration_faults p 0 p) (no_parts _ _ (empty_of (typing_faults p) t)).1).1

abbrev HasNamesOnce : Component → Type 0
HasNamesOnce n = AreDistinct (map (λ v. v.name.text) (variables n))

clean_names : (p : Program) (n : Component) → Clean p n → HasNamesOnce n
clean_names p n (k, e) =
    let words : AreDistinct (map text_of (own_words n)) = none_twice name_twice (own_words n) (no_parts (words_twice name_twice (own_words n)) _ e).0 in
    let split : AreDistinct (map text_of (map (λ v. v.name) (variables n)) ++ map text_of
    (map (λ c. c.name) (contract_statement_constants (contract_statements n)) ++ map (λ c. c.name) n.constants)) =
    subst AreDistinct (map_append text_of (map (λ v. v.name) (variables n))
    (map (λ c. c.name) (contract_statement_constants (contract_statements n)) ++ map (λ c. c.name) n.constants)) words in
    subst AreDistinct (texts_of (variables n)) (distinct_left (map text_of (map (λ v. v.name) (variables n)))
    (map text_of (map (λ c. c.name) (contract_statement_constants (contract_statements n)) ++ map (λ c. c.name) n.constants)) split)

all_names_once : (p : Program) (ns : List Component) → AllByRecursion (Clean p) ns → AllByRecursion HasNamesOnce ns
all_names_once p [] a = tt
all_names_once p (n ∷ ns) a = (clean_names p n a.0, all_names_once p ns a.1)

pub at_one : {A : Type 0} (P : A → Type 0) (xs : List A) (x : A) → AllByRecursion P xs → Contains xs x → P x
at_one P [] x a (k, l, e) = absurd (none k l)
  where
    none : (k : ℕ) → k < 0 → ⊥
    none k l = omega arith
at_one P (y ∷ ys) x a (zero, l, e) = subst P e a.0
at_one P (y ∷ ys) x a (suc k, l, e) = at_one P ys x a.1 (k, omega arith, e)

pub names_once : NamesOnce
names_once p c n i = at_one HasNamesOnce (components p) n (all_names_once p (components p) (all_clean p c.rules.clocked.typed)) i

-- ---- instances

found : (P : Component → Type 0) (b : Bool) (n : Component) (o : Option Component) → P n → P (unwrap_or o no_component) → P
    (unwrap_or (first_of_two (cond b (Some n) None) o) no_component)
found P true n None h g = h
found P true n (Some m) h g = h
found P false n o h g = g

-- what holds of each declaration, and of none, holds of a callee
pub of_callee : (P : Component → Type 0) (ds : Program) → AllByRecursion P (components ds) → P no_component → (x : Name) → P
    (unwrap_or (component_named ds x) no_component)
of_callee P [] a h x = h
of_callee P (declared_constant c ∷ ds) a h x = of_callee P ds a h x
of_callee P (declared_node n ∷ ds) a h x = found P (bytes_eq x n.name.text) n (component_named ds x) a.0 (of_callee P ds a.1 h x)
of_callee P (declared_contract n ∷ ds) a h x = found P (bytes_eq x n.name.text) n (component_named ds x) a.0 (of_callee P ds a.1 h x)

calls_named : (f : Name → Instance) (ss : List Site) → ((x : Name) → AreNamed (f x)) → CallsNamed (instances_with f ss)
calls_named f [] h = tt
calls_named f (s ∷ ss) h = (h s.callee, calls_named f ss h)

named_within : (p : Program) → AllByRecursion HasNamesOnce (components p) → (d : ℕ) (n : Component) → HasNamesOnce n → AreNamed (instance_within d p n)
named_within p a zero n h = (h, tt)
named_within p a (suc d) n h = (
  h,
  calls_named (λ x. instance_within d p (unwrap_or (component_named p x) no_component)) (all_sites n)
      (λ x. named_within p a d (unwrap_or (component_named p x) no_component) (of_callee HasNamesOnce p a tt x)),
)

-- so each name of the instance of a declaration stands once
pub instance_named : (p : Program) → IsTyped p → (n : Component) → Contains (components p) n → (d : ℕ) → AreNamed (instance_within d p n)
instance_named p t n i d = let a : AllByRecursion HasNamesOnce (components p) = all_names_once p (components p) (all_clean p t)
    in named_within p a d n (at_one HasNamesOnce (components p) n a i)
