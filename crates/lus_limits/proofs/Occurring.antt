-- The calls of a declaration are those of its occurrences.
use Rattle.std.proofs.Common.{◌≡◌, ℕ, suc, length, true, false, List, [], ◌∷◌, ◌++◌, map, flat_map, refl, ap, ◌∙◌, sym}
use Rattle.std.proofs.lemmas.List.{append-nil}
use Rattle.std.proofs.lemmas.Grind.{flat_map-append}
use Rattle.lus_tree.specs.Tree.{Spelled, Expression, Expressions, truth, number, name, negation, minus, pre, arrow, binary, choice, sampled, merged, call, condact, mode_name, no_more, more, Constant, Labelled, Statement, equation, assertion, property, main_mark, ContractStatement, assume, guarantee, ghost_variable, constant, mode, «import», Component}
use Rattle.lus_tree.specs.declared.expression.Expr.{Expr}
use Rattle.lus_tree.specs.View.{exprs_view, joined}
use Rattle.lus_meaning.specs.Scene.{base, clock_of, contract_statements, sampled_by}
use Rattle.lus_meaning.specs.Occurrences.{Occurrence, Standing, Text, before, constant_texts, contract_statement_texts, gathered, moved, occurrences, occurrences_among, on_base, on_clock, statement_texts, texts, within}
use Rattle.lus_meaning.specs.Program.{listed, site_in, import_site}
use Rattle.lus_meaning.proofs.Lists.{map_append}
use Rattle.lus_limits.specs.Parts.{constant_sides, contract_sides, sides, statement_sides, values_of}
use Rattle.lus_limits.specs.Calls.{Called, called_of, calls_in, calls_among, with_defaults, condition_call, import_call, found_calls}

pub listed_length : (es : List Expr) → length (listed (joined (exprs_view es))) ≡ length es
listed_length [] = refl
listed_length (e ∷ es) = ap suc (listed_length es)

-- ---- the expressions of a declaration

abbrev second : Text → Expression
second x = x.1

labelled_sides : (ls : List Labelled) → map second (on_base ls) ≡ values_of ls
labelled_sides [] = refl
labelled_sides (l ∷ ls) = ap (λ es. l.value ∷ es) (labelled_sides ls)

argument_sides : (as_ : List Expression) → map second (map (λ a. (on_clock base, a)) as_) ≡ as_
argument_sides [] = refl
argument_sides (a ∷ as_) = ap (λ es. a ∷ es) (argument_sides as_)

one_contract : (c : ContractStatement) → map second (contract_statement_texts c) ≡ contract_sides c
one_contract (assume l) = refl
one_contract (guarantee l) = refl
one_contract (ghost_variable x e) = refl
one_contract (constant c) = refl
one_contract (mode m rs es) = map_append second (on_base rs) (on_base es) ∙ (rw (labelled_sides rs, labelled_sides es) refl)
one_contract («import» k c as_ xs) = argument_sides as_

all_contract : (cs : List ContractStatement) → map second (flat_map contract_statement_texts cs) ≡ flat_map contract_sides cs
all_contract [] = refl
all_contract (c ∷ cs) =
    map_append second (contract_statement_texts c) (flat_map contract_statement_texts cs) ∙ (rw (one_contract c, all_contract cs) refl)

all_constants : (cs : List Constant) → map second (constant_texts cs) ≡ constant_sides cs
all_constants [] = refl
all_constants (c ∷ cs) = ap (λ es. c.value ∷ es) (all_constants cs)

one_statement : (n : Component) (s : Statement) → map second (statement_texts n s) ≡ statement_sides s
one_statement n (equation xs e) = refl
one_statement n (assertion e) = refl
one_statement n (property l) = refl
one_statement n (main_mark p) = refl

all_statements : (n : Component) (ss : List Statement) → map second (flat_map (statement_texts n) ss) ≡ flat_map statement_sides ss
all_statements n [] = refl
all_statements n (s ∷ ss) =
    map_append second (statement_texts n s) (flat_map (statement_texts n) ss) ∙ (rw (one_statement n s, all_statements n ss) refl)

pub sides_are : (n : Component) → map second (texts n) ≡ sides n
sides_are n =
    map_append second (flat_map contract_statement_texts (contract_statements n)) (constant_texts n.constants ++ flat_map (statement_texts n) n.body)
    ∙ (rw (
      map_append second (constant_texts n.constants) (flat_map (statement_texts n) n.body),
      all_contract (contract_statements n),
      all_constants n.constants,
      all_statements n n.body,
    ) refl)

-- ---- the calls of an expression

abbrev read : Occurrence → List Called
read o = map called_of (site_in o.standing o.expression)

split : (xs ys : List Occurrence) → flat_map read (xs ++ ys) ≡ flat_map read xs ++ flat_map read ys
split xs ys = flat_map-append read xs ys

mutual
  calls_are : (n : Component) (s : Standing) (e : Expression) → flat_map read (occurrences n s e) ≡ calls_in e
  calls_are n s (truth p b) = refl
  calls_are n s (number p k) = refl
  calls_are n s (name p x) = refl
  calls_are n s (negation p a) = calls_are n (within s) a
  calls_are n s (minus p a) = calls_are n (within s) a
  calls_are n s (pre p k a) = calls_are n (before s) a
  calls_are n s (arrow p k a b) = split (occurrences n (within s) a) _ ∙ (rw (calls_are n (within s) a, calls_are n (within s) b) refl)
  calls_are n s (binary p o a b) = split (occurrences n (within s) a) _ ∙ (rw (calls_are n (within s) a, calls_are n (within s) b) refl)
  calls_are n s (choice p a b d) = split (occurrences n (within s) a) _
      ∙ (rw (
        calls_are n (within s) a,
        split (occurrences n (within s) b) (occurrences n (within s) d),
        calls_are n (within s) b,
        calls_are n (within s) d,
      ) refl)
  calls_are n s (sampled p a b x) = split (occurrences n (moved (clock_of n x.text) s) a) _
      ∙ (rw (calls_are n (moved (clock_of n x.text) s) a) (append-nil (calls_in a)))
  calls_are n s (merged p x a b) = split (occurrences n (moved (sampled_by true x.text) s) a) _
      ∙ (rw (calls_are n (moved (sampled_by true x.text) s) a, calls_are n (moved (sampled_by false x.text) s) b) refl)
  calls_are n s (call p k f as_) = ap (λ cs. map called_of (site_in s (call p k f as_)) ++ cs) (among_are n (within s) as_)
  calls_are n s (condact p k a f as_ ds) = ap (λ cs. map called_of (site_in s (condact p k a f as_ ds)) ++ cs) (split (occurrences n (within s) a) _
      ∙ (rw (
        calls_are n (within s) a,
        split (occurrences_among n (within s) as_) (occurrences_among n (within s) ds),
        among_are n (within s) as_,
        among_are n (within s) ds,
      ) refl))
  calls_are n s (mode_name p d m) = refl

  among_are : (n : Component) (s : Standing) (es : Expressions) → flat_map read (occurrences_among n s es) ≡ calls_among es
  among_are n s no_more = refl
  among_are n s (more a as_) = split (occurrences n s a) (occurrences_among n s as_) ∙ (rw (calls_are n s a, among_are n s as_) refl)

texts_called : (n : Component) (xs : List Text) → flat_map read (flat_map (λ x. occurrences n x.0 x.1) xs) ≡ flat_map calls_in (map second xs)
texts_called n [] = refl
texts_called n (x ∷ xs) =
    split (occurrences n x.0 x.1) (flat_map (λ x. occurrences n x.0 x.1) xs) ∙ (rw (calls_are n x.0 x.1, texts_called n xs) refl)

-- what is mapped of each of a list of lists
pub map_flat : {A B C : Type 0} (g : B → C) (f : A → List B) (xs : List A) → map g (flat_map f xs) ≡ flat_map (λ x. map g (f x)) xs
map_flat g f [] = refl
map_flat g f (x ∷ xs) = map_append g (f x) (flat_map f xs) ∙ (rw (map_flat g f xs) refl)

one_import : (c : ContractStatement) → map called_of (import_site c) ≡ import_call c
one_import (assume l) = refl
one_import (guarantee l) = refl
one_import (ghost_variable x e) = refl
one_import (constant c) = refl
one_import (mode m rs es) = refl
one_import («import» k c as_ xs) = refl

imports_are : (cs : List ContractStatement) → map called_of (flat_map import_site cs) ≡ flat_map import_call cs
imports_are [] = refl
imports_are (c ∷ cs) = map_append called_of (import_site c) (flat_map import_site cs) ∙ (rw (one_import c, imports_are cs) refl)

-- those of a declaration
pub found_are : (n : Component) → map called_of (gathered site_in n ++ flat_map import_site (contract_statements n)) ≡ found_calls n
found_are n =
    map_append called_of (gathered site_in n) (flat_map import_site (contract_statements n))
    ∙ (rw (
      map_flat called_of (λ o. site_in o.standing o.expression) (flat_map (λ x. occurrences n x.0 x.1) (texts n)),
      texts_called n (texts n),
      sides_are n,
      imports_are (contract_statements n),
    ) refl)

-- one call under a condition more
pub condition_pushed : (new old : List Called) (k : ℕ) (w : Spelled) (ds : List Expr) → new ≡ old ++ with_defaults k w (length ds) ∷ []
    → new ≡ old ++ condition_call k w (joined (exprs_view ds)) ∷ []
condition_pushed new old k w ds e = e ∙ ap (λ j. old ++ with_defaults k w j ∷ []) (sym (listed_length ds))
