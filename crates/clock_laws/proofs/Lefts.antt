-- Where the left names of a declaration have no fault, each stands once.
use Rattle.std.proofs.Common.{◌≡◌, Bool, true, false, not, ◌||◌, List, [], ◌∷◌, ◌++◌, map, flat_map, refl, sym, ap, ◌∙◌, subst, append_assoc}
use Rattle.std.specs.List.{AllByRecursion}
use Rattle.std.specs.Str.{bytes_eq}
use Rattle.std.proofs.lemmas.Bool.{false≢true, cases_Bool}
use Rattle.std.proofs.Math.Logic.{◌⊎◌, inl, inr}
use Rattle.lus_tree.specs.Tree.{Name, text_of, Spelled, Variable, Statement, equation, assertion, property, main_mark, ContractStatement, assume, guarantee, ghost_variable, constant, mode, «import», Component}
use Rattle.lus_tree.specs.Reason.{equation_twice, input_defined}
use Rattle.lus_meaning.specs.Scene.{contract_statements, variables, ghosts}
use Rattle.lus_meaning.specs.Run.{Equation, ghost_equations, body_equations}
use Rattle.lus_meaning.specs.Depends.{named_in, left_names}
use Rattle.lus_meaning.specs.WellMade.{AreDistinct}
use Rattle.lus_meaning.specs.Faults.{if_so, words_twice}
use Rattle.lus_meaning.specs.EquationFaults.{body_sides, body_lefts, definable, left_faults}
use Rattle.lus_meaning.proofs.Exists.{self_bytes}
use Rattle.lus_meaning.proofs.Lists.{map_append, named_append, or_left, or_true}
use Rattle.lus_meaning.proofs.NamesOnce.{no_parts, not_so, none_twice}
use Rattle.lus_meaning.proofs.RulesFit.{none_mapped}
use Rattle.lus_meaning.proofs.Unique.{same_bytes}

-- ---- distinct names

pub distinct_parts : (xs ys : List Name) → AreDistinct xs → AreDistinct ys → ((z : Name) → named_in z xs ≡ true → named_in z ys ≡ false)
    → AreDistinct (xs ++ ys)
distinct_parts [] ys d e f = e
distinct_parts (x ∷ xs) ys d e f = (
  named_append x xs ys ∙ neither (named_in x xs) (named_in x ys) d.0 (f x (or_left (bytes_eq x x) (named_in x xs) (self_bytes x))),
  distinct_parts xs ys d.1 e (λ z h. f z (or_true (bytes_eq z x) (named_in z xs) h)),
)
  where
    neither : (a b : Bool) → a ≡ false → b ≡ false → (a || b) ≡ false
    neither a b h g = rw (h, g) refl

pub distinct_behind : (xs ys : List Name) → AreDistinct (xs ++ ys) → AreDistinct ys
distinct_behind [] ys d = d
distinct_behind (x ∷ xs) ys d = distinct_behind xs ys d.1

pub not_in_both : (z : Name) (xs ys : List Name) → AreDistinct (xs ++ ys) → named_in z xs ≡ true → named_in z ys ≡ false
not_in_both z [] ys d e = absurd (false≢true e)
not_in_both z (x ∷ xs) ys d e = go (cases_Bool (bytes_eq z x)) (not_in_both z xs ys d.1)
  where
    second : (a b : Bool) → (a || b) ≡ false → b ≡ false
    second true b h = absurd (false≢true (sym h))
    second false b h = h

    go : (bytes_eq z x ≡ true) ⊎ (bytes_eq z x ≡ false) → (named_in z xs ≡ true → named_in z ys ≡ false) → named_in z ys ≡ false
    go (inl t) r = subst (λ w. named_in w ys ≡ false) (sym (same_bytes z x t)) (second (named_in x xs) (named_in x ys) (sym (named_append x xs ys) ∙ d.0))
    go (inr n) r = r (subst (λ c. (c || named_in z xs) ≡ true) n e)

-- ---- the left names

abbrev names_of : List Variable → List Name
names_of vs = map (λ v. v.name.text) vs

flat_append : {A B : Type 0} (f : A → List B) (xs ys : List A) → flat_map f (xs ++ ys) ≡ flat_map f xs ++ flat_map f ys
flat_append f [] ys = refl
flat_append f (x ∷ xs) ys = ap (λ zs. f x ++ zs) (flat_append f xs ys) ∙ sym (append_assoc (f x) (flat_map f xs) (flat_map f ys))

ghost_lefts : (cs : List ContractStatement) → flat_map (λ (e : Equation). e.names) (ghost_equations cs) ≡ names_of (ghosts cs)
ghost_lefts [] = refl
ghost_lefts (assume l ∷ cs) = ghost_lefts cs
ghost_lefts (guarantee l ∷ cs) = ghost_lefts cs
ghost_lefts (ghost_variable v e ∷ cs) = ap (λ (xs : List Name). v.name.text ∷ xs) (ghost_lefts cs)
ghost_lefts (constant c ∷ cs) = ghost_lefts cs
ghost_lefts (mode m rs es ∷ cs) = ghost_lefts cs
ghost_lefts («import» k c as_ ws ∷ cs) = ghost_lefts cs

lefts_in_body : (ss : List Statement) → flat_map (λ (e : Equation). e.names) (body_equations ss) ≡ map text_of (flat_map (λ (xs : List Spelled). xs)
    (body_sides ss))
lefts_in_body [] = refl
lefts_in_body (equation xs e ∷ ss) = ap (λ (ys : List Name). map text_of xs ++ ys) (lefts_in_body ss)
    ∙ sym (map_append text_of xs (flat_map (λ (ys : List Spelled). ys) (body_sides ss)))
lefts_in_body (assertion e ∷ ss) = lefts_in_body ss
lefts_in_body (property l ∷ ss) = lefts_in_body ss
lefts_in_body (main_mark p ∷ ss) = lefts_in_body ss

pub lefts_apart : (n : Component) → left_names n ≡ names_of (ghosts (contract_statements n)) ++ map text_of (body_lefts n)
lefts_apart n = flat_append (λ (e : Equation). e.names) (ghost_equations (contract_statements n)) (body_equations n.body)
    ∙ rw (ghost_lefts (contract_statements n), lefts_in_body n.body) refl

not_false : (b : Bool) → not b ≡ false → b ≡ true
not_false true e = refl
not_false false e = absurd (false≢true (sym e))

-- a left name of a body is one that it may define
pub left_definable : (n : Component) → left_faults n ≡ [] → (z : Name) → named_in z (map text_of (body_lefts n)) ≡ true → named_in z (definable n) ≡ true
left_definable n e z h = go (body_lefts n) (none_mapped (λ w. if_so (not (named_in w.text (definable n))) input_defined w.at) (body_lefts n)
    (no_parts (words_twice equation_twice (body_lefts n)) _ e).1) h
  where
    go : (ws : List Spelled) → AllByRecursion (λ w. if_so (not (named_in w.text (definable n))) input_defined w.at ≡ []) ws
        → named_in z (map text_of ws) ≡ true
        → named_in z (definable n) ≡ true
    go [] a h = absurd (false≢true h)
    go (w ∷ ws) a h = here (cases_Bool (bytes_eq z w.text)) (go ws a.1)
      where
        here : (bytes_eq z w.text ≡ true) ⊎ (bytes_eq z w.text ≡ false) → (named_in z (map text_of ws) ≡ true → named_in z (definable n) ≡ true)
            → named_in z (definable n) ≡ true
        here (inl t) r = subst (λ y. named_in y (definable n) ≡ true) (sym (same_bytes z w.text t))
            (not_false (named_in w.text (definable n)) (not_so (not (named_in w.text (definable n))) input_defined w.at a.0))
        here (inr f) r = r (subst (λ c. (c || named_in z (map text_of ws)) ≡ true) f h)

-- what may be defined, and behind it the ghost variables
pub variables_apart : (n : Component) → names_of (variables n) ≡ names_of n.inputs ++ (definable n ++ names_of (ghosts (contract_statements n)))
variables_apart n =
    map_append (λ (v : Variable). v.name.text) (n.inputs ++ n.outputs ++ n.locals) (ghosts (contract_statements n))
    ∙ ap (λ xs. xs ++ names_of (ghosts (contract_statements n)))
    (ap names_of (append_assoc n.inputs n.outputs n.locals) ∙ map_append (λ (v : Variable). v.name.text) n.inputs (n.outputs ++ n.locals))
    ∙ append_assoc (names_of n.inputs) (definable n) (names_of (ghosts (contract_statements n)))

pub lefts_distinct : (n : Component) → AreDistinct (map (λ v. v.name.text) (variables n)) → left_faults n ≡ [] → AreDistinct (left_names n)
lefts_distinct n d e =
    let gs : List Name = names_of (ghosts (contract_statements n)) in
    let rest : AreDistinct (definable n ++ gs) = distinct_behind (names_of n.inputs) (definable n ++ gs) (subst AreDistinct (variables_apart n) d) in
    let body : AreDistinct (map text_of (body_lefts n)) = none_twice equation_twice (body_lefts n) (no_parts (words_twice equation_twice (body_lefts
    n)) _ e).0 in
    subst AreDistinct (sym (lefts_apart n)) (distinct_parts gs (map text_of (body_lefts n)) (distinct_behind (definable n) gs rest) body
    (λ z h. go z (cases_Bool (named_in z (map text_of (body_lefts n)))) h))
  where
    go : (z : Name) → (named_in z (map text_of (body_lefts n)) ≡ true) ⊎ (named_in z (map text_of (body_lefts n)) ≡ false) → named_in z
        (names_of (ghosts (contract_statements n))) ≡ true → named_in z (map text_of (body_lefts n)) ≡ false
    go z (inl t) h = absurd (false≢true (sym (not_in_both z (definable n) (names_of (ghosts (contract_statements n)))
        (distinct_behind (names_of n.inputs) (definable n ++ names_of (ghosts (contract_statements n))) (subst AreDistinct (variables_apart n) d))
        (left_definable n e z t)) ∙ h))
    go z (inr f) h = f
