-- The type of an expression by tables of names is the one that it has in its scope.
use Rattle.std.proofs.Common.{◌≡◌, ℕ, suc, ◌+◌, Bool, true, false, cond, List, [], ◌∷◌, ◌++◌, Option, Some, None, refl, ap, sym, ◌∙◌, arith, add-zero}
use Rattle.std.specs.Prelude.{find, slice_get}
use Rattle.std.specs.Option.{option_and_then, option_or}
use Rattle.std.specs.Str.{bytes_eq}
use Rattle.lus_tree.specs.declared.place.Sort.{Sort}
use Rattle.lus_tree.specs.Tree.{Name, Expression, truth, number, name, negation, minus, pre, arrow, binary, choice, sampled, merged, call, condact, mode_name, Component, Declaration, declared_constant, declared_node, declared_contract, Program}
use Rattle.lus_meaning.specs.Scope.{Entry, Scope, call_sort, component_where, first_constants, left_after, known_after, own_names, sort_of_entry, type_of}
use Rattle.lus_meaning.specs.NameFaults.{home}
use Rattle.lus_types.specs.Names.{Known, call_sort_in, constant_entries, constant_in, declared_from, known_among, known_from, names_of, output_sort, scope_of, sort_by}

-- ---- names

abbrev sort_found : Option Entry → Option Sort
sort_found o = option_and_then (λ e. e.sort) o

abbrev sort_known : Option Known → Option Sort
sort_known o = option_and_then (λ q. q.sort) o

-- whatever of the names may be used
found_first : (x : Name) (i j : ℕ) (es : List Entry) → sort_found (find (λ e. bytes_eq x e.word.text) (first_constants j es)) ≡ sort_known (known_from i es x)
found_first x i j [] = refl
found_first x i j (e ∷ es) = go (bytes_eq x e.word.text) (found_first x (suc i) (left_after j e) es)
  where
    go : (b : Bool) → sort_found (find (λ e. bytes_eq x e.word.text) (first_constants (left_after j e) es)) ≡ sort_known (known_from (suc i) es x)
        → sort_found (cond b (Some (known_after j e)) (find (λ e. bytes_eq x e.word.text) (first_constants (left_after j e) es)))
        ≡ sort_known (cond b (Some record { role = e.role; number = i; sort = e.sort }) (known_from (suc i) es x))
    go true r = refl
    go false r = r

found_either : (x : Name) (i j k : ℕ) (es os : List Entry)
    → sort_found (find (λ e. bytes_eq x e.word.text) (first_constants j es ++ first_constants k os))
    ≡ sort_known (option_or (known_from i es x) (known_among os x))
found_either x i j k [] os = found_first x 0 k os
found_either x i j k (e ∷ es) os = go (bytes_eq x e.word.text) (found_either x (suc i) (left_after j e) k es os)
  where
    go : (b : Bool)
        → sort_found (find (λ e. bytes_eq x e.word.text) (first_constants (left_after j e) es ++ first_constants k os))
        ≡ sort_known (option_or (known_from (suc i) es x) (known_among os x))
        → sort_found (cond b (Some (known_after j e)) (find (λ e. bytes_eq x e.word.text) (first_constants (left_after j e) es ++ first_constants k os)))
        ≡ sort_known (option_or (cond b (Some record { role = e.role; number = i; sort = e.sort }) (known_from (suc i) es x)) (known_among os x))
    go true r = refl
    go false r = r

pub name_sorts : (p : Program) (k : ℕ) (d : Declaration) (x : Name)
    → sort_known (option_or (known_among (names_of p k d) x) (constant_in p x)) ≡ sort_of_entry (scope_of p k d) x
name_sorts p k (declared_constant c) x = sym (found_first x 0 k (constant_entries p))
name_sorts p k (declared_node n) x = sym (found_either x 0 _ k (own_names (home p k n)) (constant_entries p))
name_sorts p k (declared_contract n) x = sym (found_either x 0 _ k (own_names (home p k n)) (constant_entries p))

-- ---- callees

abbrev outputs_at : Program → Option ℕ → Option Sort
outputs_at p o = option_and_then (λ i. option_and_then output_sort (slice_get p i)) o

-- the declarations from that number on are these
abbrev Follow : Program → ℕ → List Declaration → Type 0
Follow p i ds = (j : ℕ) → slice_get p (i + j) ≡ slice_get ds j

first : (p : Program) (i : ℕ) (d : Declaration) (ds : List Declaration) → Follow p i (d ∷ ds) → slice_get p i ≡ Some d
first p i d ds h = ap (slice_get p) (sym (add-zero i)) ∙ h 0

next : (p : Program) (i : ℕ) (d : Declaration) (ds : List Declaration) → Follow p i (d ∷ ds) → Follow p (suc i) ds
next p i d ds h = λ j. let e : suc i + j ≡ i + suc j = omega arith in ap (slice_get p) e ∙ h (suc j)

from_start : (p : Program) → Follow p 0 p
from_start p = λ j. let e : 0 + j ≡ j = omega arith in ap (slice_get p) e

abbrev only_output : Component → Option Sort
only_output n = output_sort (declared_node n)

called_from : (p : Program) (i : ℕ) (ds : List Declaration) (f : Name) → Follow p i ds
    → outputs_at p (declared_from i ds f) ≡ option_and_then only_output (component_where true ds f)
called_from p i [] f h = refl
called_from p i (declared_constant c ∷ ds) f h = called_from p (suc i) ds f (next p i (declared_constant c) ds h)
called_from p i (declared_node n ∷ ds) f h = go (bytes_eq f n.name.text) (called_from p (suc i) ds f (next p i (declared_node n) ds h))
  where
    go : (b : Bool) → outputs_at p (declared_from (suc i) ds f) ≡ option_and_then only_output (component_where true ds f)
        → outputs_at p (cond b (Some i) (declared_from (suc i) ds f)) ≡ option_and_then only_output (cond b (Some n) (component_where true ds f))
    go true r = ap (option_and_then output_sort) (first p i (declared_node n) ds h)
    go false r = r
called_from p i (declared_contract n ∷ ds) f h = go (bytes_eq f n.name.text) (called_from p (suc i) ds f (next p i (declared_contract n) ds h))
  where
    go : (b : Bool) → outputs_at p (declared_from (suc i) ds f) ≡ option_and_then only_output (component_where true ds f)
        → outputs_at p (cond b (Some i) (declared_from (suc i) ds f)) ≡ option_and_then only_output (cond b None (component_where true ds f))
    go true r = ap (option_and_then output_sort) (first p i (declared_contract n) ds h)
    go false r = r

pub call_sorts : (p : Program) (k : ℕ) (d : Declaration) (f : Name) → call_sort_in p f ≡ call_sort (scope_of p k d) f
call_sorts p k (declared_constant c) f = called_from p 0 p f (from_start p)
call_sorts p k (declared_node n) f = called_from p 0 p f (from_start p)
call_sorts p k (declared_contract n) f = called_from p 0 p f (from_start p)

-- ---- expressions

pub sorts_by : (s : Scope) (names calls : Name → Option Sort) → ((x : Name) → names x ≡ sort_of_entry s x)
    → ((f : Name) → calls f ≡ call_sort s f) → (e : Expression) → sort_by names calls e ≡ type_of s e
sorts_by s names calls h g (truth p b) = refl
sorts_by s names calls h g (number p n) = refl
sorts_by s names calls h g (name p x) = h x
sorts_by s names calls h g (negation p a) = refl
sorts_by s names calls h g (minus p a) = refl
sorts_by s names calls h g (pre p k a) = sorts_by s names calls h g a
sorts_by s names calls h g (arrow p k a b) = sorts_by s names calls h g a
sorts_by s names calls h g (binary p o a b) = refl
sorts_by s names calls h g (choice p a b c) = sorts_by s names calls h g b
sorts_by s names calls h g (sampled p a b x) = sorts_by s names calls h g a
sorts_by s names calls h g (merged p x a b) = sorts_by s names calls h g a
sorts_by s names calls h g (call p k f as_) = g f.text
sorts_by s names calls h g (condact p k a f as_ ds) = g f.text
sorts_by s names calls h g (mode_name p c m) = refl
