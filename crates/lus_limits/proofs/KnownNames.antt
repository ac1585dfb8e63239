-- Names that are added to a table.
use Rattle.std.proofs.Common.{◌≡◌, ℕ, ◌+◌, ◌<◌, length, take, get_or, map, Bool, true, false, ◌||◌, cond, List, [], ◌∷◌, ◌++◌, refl, sym, ap, ◌∙◌, subst}
use Rattle.std.specs.Str.{bytes_eq}
use Rattle.std.proofs.lemmas.List.{map_more}
use Rattle.std.proofs.lemmas.Grind.{flat_map-append}
use Rattle.lus_tree.specs.Tree.{Name, text_of, Statement, equation, assertion, property, main_mark, ContractStatement, assume, guarantee, ghost_variable, constant, mode, «import», Component}
use Rattle.lus_meaning.specs.Scene.{contract_statements}
use Rattle.lus_meaning.specs.Run.{Equation, ghost_equations, body_equations}
use Rattle.lus_meaning.specs.Depends.{named_in, left_names}
use Rattle.lus_meaning.proofs.Unique.{same_bytes}
use Rattle.name_table.specs.Names.{add}
use Rattle.lus_limits.specs.Known.{HasThese, lefts_of}

pub or_false : (b : Bool) → (b || false) ≡ b
or_false true = refl
or_false false = refl

or_in_turn : (a b c : Bool) → ((a || b) || c) ≡ (a || (b || c))
or_in_turn true b c = refl
or_in_turn false b c = refl

pub named_both : (x : Name) (xs ys : List Name) → named_in x (xs ++ ys) ≡ (named_in x xs || named_in x ys)
named_both x [] ys = refl
named_both x (y ∷ xs) ys = ap (λ b. bytes_eq x y || b) (named_both x xs ys) ∙ sym (or_in_turn (bytes_eq x y) (named_in x xs) (named_in x ys))

-- a name that is there already adds none
there_already : (x y : Name) (ks : List Name) (b : Bool) → bytes_eq x y ≡ b → named_in y ks ≡ true → named_in x ks ≡ (named_in x ks || (b || false))
there_already x y ks true e h = subst (λ z. named_in z ks ≡ true) (sym (same_bytes x y e)) h ∙ sym (or_true (named_in x ks)) where
  or_true : (b : Bool) → (b || true) ≡ true
  or_true true = refl
  or_true false = refl
there_already x y ks false e h = sym (or_false (named_in x ks))

added : (x y : Name) (ks : List Name) (b : Bool) → named_in y ks ≡ b → named_in x (cond b ks (ks ++ y ∷ [])) ≡ (named_in x ks || (bytes_eq x y || false))
added x y ks true h = there_already x y ks (bytes_eq x y) refl h
added x y ks false h = named_both x ks (y ∷ [])

pub named_added : (old new : List Name) (y : Name) → new ≡ add old y → HasThese old new (y ∷ [])
named_added old new y e = λ x. ap (named_in x) e ∙ added x y old (named_in y old) refl

pub none_more : (ks : List Name) → HasThese ks ks []
none_more ks = λ x. sym (or_false (named_in x ks))

pub these_more : (a b c : List Name) (xs ys : List Name) → HasThese a b xs → HasThese b c ys → HasThese a c (xs ++ ys)
these_more a b c xs ys h g = λ x.
    g x ∙ ap (λ z. z || named_in x ys) (h x) ∙ or_in_turn (named_in x a) (named_in x xs) (named_in x ys)
    ∙ ap (λ z. named_in x a || z) (sym (named_both x xs ys))

-- ---- in turn

-- where a list of names grows with another list, and the names of one more are there
pub next_these : {X A : Type 0} (f : List A → List Name) → ((xs ys : List A) → f (xs ++ ys) ≡ f xs ++ f ys) → (view : X → A) (xs : List X) (i : ℕ) (x : X)
    (a b c : List Name) → i < length xs → x ≡ get_or xs i x → HasThese a b (f (map view (take i xs))) → HasThese b c (f (view x ∷ []))
    → HasThese a c (f (map view (take (i + 1) xs)))
next_these f g view xs i x a b c l e h k =
    subst (HasThese a c)
    (sym (g (map view (take i xs)) (view x ∷ []))
    ∙ ap f (sym (map_more view xs i x l ∙ ap (λ y. map view (take i xs) ++ view y ∷ []) (sym e))))
    (these_more a b c (f (map view (take i xs))) (f (view x ∷ [])) h k)

lefts_both : (xs ys : List Equation) → lefts_of (xs ++ ys) ≡ lefts_of xs ++ lefts_of ys
lefts_both xs ys = flat_map-append (λ e. e.names) xs ys

ghosts_both : (cs ds : List ContractStatement) → ghost_equations (cs ++ ds) ≡ ghost_equations cs ++ ghost_equations ds
ghosts_both [] ds = refl
ghosts_both (assume l ∷ cs) ds = ghosts_both cs ds
ghosts_both (guarantee l ∷ cs) ds = ghosts_both cs ds
ghosts_both (ghost_variable v e ∷ cs) ds = ap (λ r. record { names = v.name.text ∷ []; right = e } ∷ r) (ghosts_both cs ds)
ghosts_both (constant c ∷ cs) ds = ghosts_both cs ds
ghosts_both (mode m rs es ∷ cs) ds = ghosts_both cs ds
ghosts_both («import» k c as_ xs ∷ cs) ds = ghosts_both cs ds

bodies_both : (ss ts : List Statement) → body_equations (ss ++ ts) ≡ body_equations ss ++ body_equations ts
bodies_both [] ts = refl
bodies_both (equation xs e ∷ ss) ts = ap (λ r. record { names = map text_of xs; right = e } ∷ r) (bodies_both ss ts)
bodies_both (assertion e ∷ ss) ts = bodies_both ss ts
bodies_both (property l ∷ ss) ts = bodies_both ss ts
bodies_both (main_mark p ∷ ss) ts = bodies_both ss ts

pub ghost_lefts : (cs ds : List ContractStatement) → lefts_of (ghost_equations (cs ++ ds)) ≡ lefts_of (ghost_equations cs) ++ lefts_of (ghost_equations ds)
ghost_lefts cs ds = ap lefts_of (ghosts_both cs ds) ∙ lefts_both (ghost_equations cs) (ghost_equations ds)

pub body_lefts : (ss ts : List Statement) → lefts_of (body_equations (ss ++ ts)) ≡ lefts_of (body_equations ss) ++ lefts_of (body_equations ts)
body_lefts ss ts = ap lefts_of (bodies_both ss ts) ∙ lefts_both (body_equations ss) (body_equations ts)

pub defined_more : (a b c : List Name) (n : Component) → HasThese a b (lefts_of (ghost_equations (contract_statements n)))
    → HasThese b c (lefts_of (body_equations n.body)) → HasThese a c (left_names n)
defined_more a b c n h g =
    subst (HasThese a c) (sym (lefts_both (ghost_equations (contract_statements n)) (body_equations n.body)))
    (these_more a b c (lefts_of (ghost_equations (contract_statements n))) (lefts_of (body_equations n.body)) h g)
