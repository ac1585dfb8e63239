-- The place of a name among left names.
use Rattle.std.proofs.Common.{◌≡◌, ℕ, zero, suc, ◌+◌, Bool, true, false, cond, ◌||◌, List, [], ◌∷◌, ◌++◌, Option, Some, None, refl, sym, ap, ◌∙◌, arith}
use Rattle.std.specs.Option.{option_or}
use Rattle.std.specs.Str.{bytes_eq}
use Rattle.lus_tree.specs.Tree.{Name, Expression}
use Rattle.lus_meaning.specs.Depends.{named_in}
use Rattle.lus_meaning.specs.Run.{Equation}
use Rattle.sys_conditions.specs.Named.{Right, place_in, right_of}
use Rattle.sys_tables.specs.Rights.{right_from}

abbrev placed : Expression → ℕ → Option Right
placed e k = Some record { side = e; place = k }

from_place : (e : Expression) (k : ℕ) (ys : List Name) (x : Name)
    → right_from e k ys x ≡ cond (named_in x ys) (placed e (k + place_in ys x)) None
from_place e k [] x = refl
from_place e k (y ∷ ys) x = go (bytes_eq x y) (from_place e (suc k) ys x)
  where
    go : (b : Bool) → right_from e (suc k) ys x ≡ cond (named_in x ys) (placed e (suc k + place_in ys x)) None
        → cond b (placed e k) (right_from e (suc k) ys x)
        ≡ cond (b || named_in x ys) (placed e (k + cond b zero (suc (place_in ys x)))) None
    go true h = ap (placed e) (omega arith)
    go false h = h ∙ ap (λ j. cond (named_in x ys) (placed e j) None) (omega arith)

pub all_by_place : (e : Expression) (ys : List Name) (x : Name)
    → right_from e 0 ys x ≡ cond (named_in x ys) (placed e (place_in ys x)) None
all_by_place e ys x = from_place e 0 ys x ∙ ap (λ j. cond (named_in x ys) (placed e j) None) (omega arith)

pub one_by_place : (e : Expression) (y x : Name) → right_from e 0 (y ∷ []) x ≡ cond (named_in x (y ∷ [])) (placed e (place_in (y ∷ []) x)) None
one_by_place e y x = all_by_place e (y ∷ []) x

-- ---- the first of two lists of equations

right_append : (es fs : List Equation) (x : Name) → right_of (es ++ fs) x ≡ option_or (right_of es x) (right_of fs x)
right_append [] fs x = refl
right_append (e ∷ es) fs x = go (named_in x e.names) (right_append es fs x)
  where
    go : (b : Bool) → right_of (es ++ fs) x ≡ option_or (right_of es x) (right_of fs x)
        → cond b (placed e.right (place_in e.names x)) (right_of (es ++ fs) x)
        ≡ option_or (cond b (placed e.right (place_in e.names x)) (right_of es x)) (right_of fs x)
    go true h = refl
    go false h = h

pub both_noted : (es fs : List Equation) (x : Name) (old mid new : Option Right) → old ≡ None → mid ≡ option_or old (right_of es x)
    → new ≡ option_or mid (right_of fs x) → new ≡ right_of (es ++ fs) x
both_noted es fs x old mid new e h k =
    k ∙ ap (λ o. option_or o (right_of fs x)) (h ∙ ap (λ o. option_or o (right_of es x)) e) ∙ sym (right_append es fs x)
