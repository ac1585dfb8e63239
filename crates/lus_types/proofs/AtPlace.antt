-- The table of a declaration by its number.
use Rattle.std.proofs.Common.{◌≡◌, ℕ, zero, suc, ◌<◌, ◌≤◌, List, [], ◌∷◌, map, length, get_or, Option, Some, None, refl, ap, sym, ◌∙◌, arith}
use Rattle.std.specs.Prelude.{slice_get}
use Rattle.std.specs.Option.{option_and_then, option_or}
use Rattle.std.specs.declared.string.String.{String}
use Rattle.indexmap.specs.IndexMap.{IndexMap}
use Rattle.lus_tree.specs.declared.place.Sort.{Sort}
use Rattle.lus_tree.specs.Tree.{Name, Expression, Declaration, Program}
use Rattle.lus_meaning.specs.Scope.{type_of}
use Rattle.lus_types.specs.declared.found.Found.{Found}
use Rattle.lus_types.specs.Declarations.{after}
use Rattle.lus_types.specs.Names.{Known, call_sort_in, constant_in, found_in, known_among, name_in, names_from, names_of, scope_of, scopes_from, sort_by, sort_in}
use Rattle.lus_types.proofs.SortsBy.{call_sorts, name_sorts, sorts_by}

heads : {A : Type 0} (x y : A) (xs ys : List A) → x ∷ xs ≡ y ∷ ys → x ≡ y
heads x y xs ys e = cc

tails : {A : Type 0} (x y : A) (xs ys : List A) → x ∷ xs ≡ y ∷ ys → xs ≡ ys
tails x y xs ys e = cc

abbrev pub Same : {A S : Type 0} → Program → ℕ → List Declaration → List (IndexMap (String A) Found S) → Type 0
Same p k ds ts = (x : Name) → map (λ t. found_in t x) ts ≡ map (λ es. known_among es x) (names_from p k ds)

-- the declaration of that number, and what the table finds
pub record AtPlace {A S : Type 0} (p : Program) (k : ℕ) (ds : List Declaration) (d : ℕ) (t : IndexMap (String A) Found S) : Type 0 where
  pub home : ℕ
  pub decl : Declaration
  pub scope : slice_get (scopes_from p k ds) d ≡ Some (scope_of p home decl)
  pub names : slice_get (names_from p k ds) d ≡ Some (names_of p home decl)
  pub found : (x : Name) → found_in t x ≡ known_among (names_of p home decl) x

pub at_place : {A S : Type 0} (p : Program) (k : ℕ) (ds : List Declaration) (ts : List (IndexMap (String A) Found S)) (d : ℕ) (t : IndexMap (String A) Found S) → Same p k ds ts → d < length ts
    → t ≡ get_or ts d t → AtPlace p k ds d t
at_place p k ds [] d t s l e = absurd (omega arith)
at_place p k [] (u ∷ ts) d t s l e = let n = s [] in cc
at_place p k (a ∷ ds) (u ∷ ts) zero t s l e = record {
  home = k;
  decl = a;
  scope = refl;
  names = refl;
  found = λ x. ap (λ z. found_in z x) e
      ∙ heads (found_in u x) (known_among (names_of p k a) x) (map (λ t. found_in t x) ts)
      (map (λ es. known_among es x) (names_from p (after k a) ds)) (s x);
}
at_place p k (a ∷ ds) (u ∷ ts) (suc d) t s l e =
    let r : AtPlace p (after k a) ds d t =
    at_place p (after k a) ds ts d t
    (λ x. tails (found_in u x) (known_among (names_of p k a) x) (map (λ t. found_in t x) ts)
    (map (λ es. known_among es x) (names_from p (after k a) ds)) (s x)) (omega arith) e in
    record { home = r.home; decl = r.decl; scope = r.scope; names = r.names; found = r.found }

-- no declaration has that number
pub record NoPlace (p : Program) (k : ℕ) (ds : List Declaration) (d : ℕ) : Type 0 where
  pub scope : slice_get (scopes_from p k ds) d ≡ None
  pub names : slice_get (names_from p k ds) d ≡ None

pub no_place : {A S : Type 0} (p : Program) (k : ℕ) (ds : List Declaration) (ts : List (IndexMap (String A) Found S)) (d : ℕ) → Same p k ds ts → length ts ≤ d → NoPlace p k ds d
no_place p k [] ts d s l = record { scope = refl; names = refl }
no_place p k (a ∷ ds) [] d s l = let n = s [] in cc
no_place p k (a ∷ ds) (u ∷ ts) zero s l = absurd (omega arith)
no_place p k (a ∷ ds) (u ∷ ts) (suc d) s l =
    let r : NoPlace p (after k a) ds d =
    no_place p (after k a) ds ts d
    (λ x. tails (found_in u x) (known_among (names_of p k a) x) (map (λ t. found_in t x) ts)
    (map (λ es. known_among es x) (names_from p (after k a) ds)) (s x)) (omega arith) in
    record { scope = r.scope; names = r.names }

-- ---- names and types there

pub name_there : {A S : Type 0} (p : Program) (ts : List (IndexMap (String A) Found S)) (d : ℕ) (t : IndexMap (String A) Found S) (x : Name) → Same p 0 p ts → d < length ts → t ≡ get_or ts d t
    → found_in t x ≡ name_in p d x
name_there p ts d t x s l e =
    let r : AtPlace p 0 p d t = at_place p 0 p ts d t s l e in
    r.found x ∙ sym (ap (option_and_then (λ es. known_among es x)) r.names)

pub sort_there : {A S : Type 0} (p : Program) (ts : List (IndexMap (String A) Found S)) (d : ℕ) (t : IndexMap (String A) Found S) (names calls : Name → Option Sort) (e : Expression) → Same p 0 p ts
    → d < length ts → t ≡ get_or ts d t
    → ((x : Name) → names x ≡ option_and_then (λ q. q.sort) (option_or (found_in t x) (constant_in p x)))
    → ((f : Name) → calls f ≡ call_sort_in p f) → sort_by names calls e ≡ sort_in p d e
sort_there p ts d t names calls e s l g n c =
    let r : AtPlace p 0 p d t = at_place p 0 p ts d t s l g in
    sorts_by (scope_of p r.home r.decl) names calls
    (λ x. n x ∙ ap (λ (o : Option Known). option_and_then (λ q. q.sort) (option_or o (constant_in p x))) (r.found x) ∙ name_sorts p r.home r.decl x)
    (λ f. c f ∙ call_sorts p r.home r.decl f) e
    ∙ sym (ap (option_and_then (λ z. type_of z e)) r.scope)
