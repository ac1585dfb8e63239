-- In a frame whose names are on their clocks, the items of a contract, one after the other: each expression has its
-- value exactly on its clock, and so have the modes.
use Rattle.std.proofs.Common.{option_map, ◌≡◌, ℕ, suc, Bool, true, false, cond, ◌&&◌, ◌||◌, ◌==◌, List, [], ◌∷◌, ◌++◌, length, map, refl, sym, ap, ◌∙◌, subst, arith, append_assoc, Option, Some, None}
use Rattle.std.specs.Prelude.{filter, option_to_list}
use Rattle.std.specs.Str.{bytes_eq}
use Rattle.std.proofs.lemmas.Bool.{false≢true, eqb-true}
use Rattle.lus_tree.specs.Tree.{Name, Spelled, text_of, Expression, truth, number, name, negation, minus, pre, arrow, binary, choice, sampled, merged, call, condact, mode_name, Variable, ContractStatement, assume, guarantee, ghost_variable, constant, mode, «import», Component, Program}
use Rattle.lus_meaning.specs.Scene.{Instance}
use Rattle.lus_meaning.specs.Contract.{ModeTerms, Terms, terms_after, mode_terms, imported_mode}
use Rattle.lus_meaning.specs.Depends.{named_in}
use Rattle.lus_meaning.specs.Scope.{Scope, node_named, contract_named, mode_names, import_names}
use Rattle.lus_meaning.specs.ExpressionFaults.{sides_fit, outputs_fit, has_one, has_mode, mode_is_known}
use Rattle.lus_meaning.proofs.Lists.{append_none, named_append}
use Rattle.lus_meaning.proofs.NamesOnce.{not_nil}
use Rattle.lus_meaning.proofs.Unique.{same_bytes}
use Rattle.clock_laws.proofs.Modes.{has_key, key_before, key_behind}
use Rattle.clock_laws.proofs.Texts.{HasOutputs, TopFits}

-- ---- whole right sides

is_so : {A : Type 0} (c : Bool) (x : A) (xs ys : List A) → cond c ys (x ∷ xs) ≡ [] → c ≡ true
is_so true x xs ys q = refl
is_so false x xs ys q = not_nil x xs q

one_more : (vs : List Variable) (j : ℕ) → (length vs == suc j) ≡ true → (w : Variable) × (ws : List Variable) × (vs ≡ w ∷ ws)
one_more [] j e = absurd (none (eqb-true 0 (suc j) e))
  where
    none : 0 ≡ suc j → ⊥
    none q = omega arith
one_more (v ∷ vs) j e = (v, vs, refl)

outputs_there : (sc : Scope) (x : Spelled) (xs : List Spelled) (e : Expression) (f : Spelled) (o : Option Component) → outputs_fit sc (x ∷ xs) e f o ≡ []
    → HasOutputs o
outputs_there sc x xs e f None h = tt
outputs_there sc x xs e f (Some m) h = one_more m.outputs (length xs) (is_so (length m.outputs == suc (length xs)) _ _ _ h)

pub side_top : (sc : Scope) (x : Spelled) (xs : List Spelled) (e : Expression) → sides_fit sc (x ∷ xs) e ≡ [] → TopFits sc.program e
side_top sc x xs (call q k f as_) h = outputs_there sc x xs (call q k f as_) f (node_named sc.program f.text) h
side_top sc x xs (condact q k a f as_ ds) h = outputs_there sc x xs (condact q k a f as_ ds) f (node_named sc.program f.text) h
side_top sc x xs (truth p b) h = tt
side_top sc x xs (number p b) h = tt
side_top sc x xs (name p b) h = tt
side_top sc x xs (negation p b) h = tt
side_top sc x xs (minus p b) h = tt
side_top sc x xs (pre p k b) h = tt
side_top sc x xs (arrow p k a b) h = tt
side_top sc x xs (binary p k a b) h = tt
side_top sc x xs (choice p k a b) h = tt
side_top sc x xs (sampled p k a b) h = tt
side_top sc x xs (merged p k a b) h = tt
side_top sc x xs (mode_name p a b) h = tt

-- ---- modes that are known

-- the modes of these names, and those of these imports, are found
pub record Covers (p : Program) (own imports : List Name) (ms : List ModeTerms) : Type 0 where
  pub by_name : (x : Name) → named_in x own ≡ true → has_key ([], x) ms ≡ true
  pub by_import : (c x : Name) → named_in c imports ≡ true → has_mode x (contract_named p c) ≡ true → has_key (c ∷ [], x) ms ≡ true

some_named : (c : Name) (xs : List Name) → has_one (filter (bytes_eq c) xs) ≡ true → named_in c xs ≡ true
some_named c [] e = absurd (false≢true e)
some_named c (x ∷ xs) e = go (bytes_eq c x) e (some_named c xs)
  where
    go : (a : Bool) → has_one (cond a (x ∷ filter (bytes_eq c) xs) (filter (bytes_eq c) xs)) ≡ true → (has_one (filter (bytes_eq c) xs) ≡ true
        → named_in c xs ≡ true) → (a || named_in c xs) ≡ true
    go true q r = refl
    go false q r = r q

both_true : (a b : Bool) → (a && b) ≡ true → (a ≡ true) × (b ≡ true)
both_true true b e = (refl, e)
both_true false b e = absurd (false≢true e)

pub known_key : (p : Program) (own imports : List Name) (ms : List ModeTerms) → Covers p own imports ms → (sc : Scope) → sc.program ≡ p → sc.modes ≡ own
    → sc.imports ≡ imports → (d : Option Spelled) (x : Spelled) → mode_is_known sc d x ≡ true
    → has_key (option_to_list (option_map text_of d), x.text) ms ≡ true
known_key p own imports ms v sc a b c None x e = v.by_name x.text (subst (λ xs. named_in x.text xs ≡ true) b e)
known_key p own imports ms v sc a b c (Some w) x e =
    let h : (has_one (filter (bytes_eq w.text) sc.imports) ≡ true) × (has_mode x.text (contract_named sc.program w.text) ≡ true) =
    both_true (has_one (filter (bytes_eq w.text) sc.imports)) (has_mode x.text (contract_named sc.program w.text)) e in
    v.by_import w.text x.text (subst (λ xs. named_in w.text xs ≡ true) c (some_named w.text sc.imports h.0))
    (subst (λ q. has_mode x.text (contract_named q w.text) ≡ true) a h.1)

in_either : (x y : Name) (xs : List Name) (a : Bool) → named_in x (xs ++ y ∷ []) ≡ true → (named_in x xs ≡ true → a ≡ true) → (x ≡ y → a ≡ true) → a ≡ true
in_either x y xs a e h g = go (named_in x xs) (bytes_eq x y) refl refl (sym (named_append x xs (y ∷ [])) ∙ e)
  where
    go : (q r : Bool) → named_in x xs ≡ q → bytes_eq x y ≡ r → (q || (r || false)) ≡ true → a ≡ true
    go true r u v w = h u
    go false true u v w = g (same_bytes x y v)
    go false false u v w = absurd (false≢true w)

pub covers_mode : (p : Program) (own imports : List Name) (ms : List ModeTerms) (x : Name) (y : ModeTerms) → Covers p own imports ms
    → has_key ([], x) (y ∷ []) ≡ true → Covers p (own ++ x ∷ []) imports (ms ++ y ∷ [])
covers_mode p own imports ms x y v e = record {
  by_name = λ z h. in_either z x own (has_key ([], z) (ms ++ y ∷ [])) h (λ q. key_before ([], z) ms (y ∷ []) (v.by_name z q))
      (λ q. key_behind ([], z) ms (y ∷ []) (subst (λ w. has_key ([], w) (y ∷ []) ≡ true) (sym q) e));
  by_import = λ c z h q. key_before (c ∷ [], z) ms (y ∷ []) (v.by_import c z h q);
}

pub covers_import : (p : Program) (own imports : List Name) (ms more : List ModeTerms) (c : Name) → Covers p own imports ms
    → ((x : Name) → has_mode x (contract_named p c) ≡ true → has_key (c ∷ [], x) more ≡ true) → Covers p own (imports ++ c ∷ []) (ms ++ more)
covers_import p own imports ms more c v e = record {
  by_name = λ z h. key_before ([], z) ms more (v.by_name z h);
  by_import = λ d z h q. in_either d c imports (has_key (d ∷ [], z) (ms ++ more)) h (λ r. key_before (d ∷ [], z) ms more (v.by_import d z r q))
      (λ r. key_behind (d ∷ [], z) ms more (subst (λ w. has_mode z (contract_named p w) ≡ true → has_key (w ∷ [], z) more ≡ true) (sym r) (e z) q));
}

pub mode_names_append : (xs ys : List ContractStatement) → mode_names (xs ++ ys) ≡ mode_names xs ++ mode_names ys
mode_names_append [] ys = refl
mode_names_append (assume l ∷ xs) ys = mode_names_append xs ys
mode_names_append (guarantee l ∷ xs) ys = mode_names_append xs ys
mode_names_append (ghost_variable v e ∷ xs) ys = mode_names_append xs ys
mode_names_append (constant c ∷ xs) ys = mode_names_append xs ys
mode_names_append (mode m rs es ∷ xs) ys = ap (λ (ns : List Name). m.text ∷ ns) (mode_names_append xs ys)
mode_names_append («import» k c as_ ws ∷ xs) ys = mode_names_append xs ys

import_names_append : (xs ys : List ContractStatement) → import_names (xs ++ ys) ≡ import_names xs ++ import_names ys
import_names_append [] ys = refl
import_names_append (assume l ∷ xs) ys = import_names_append xs ys
import_names_append (guarantee l ∷ xs) ys = import_names_append xs ys
import_names_append (ghost_variable v e ∷ xs) ys = import_names_append xs ys
import_names_append (constant c ∷ xs) ys = import_names_append xs ys
import_names_append (mode m rs es ∷ xs) ys = import_names_append xs ys
import_names_append («import» k c as_ ws ∷ xs) ys = ap (λ (ns : List Name). c.text ∷ ns) (import_names_append xs ys)

-- behind one more statement
abbrev pub CoversAll : Program → List ContractStatement → List ModeTerms → Type 0
CoversAll p cs ms = Covers p (mode_names cs) (import_names cs) ms

pub covers_more : (p : Program) (before : List ContractStatement) (c : ContractStatement) (ms : List ModeTerms) → Covers p
    (mode_names before ++ mode_names (c ∷ [])) (import_names before ++ import_names (c ∷ [])) ms → CoversAll p (before ++ c ∷ []) ms
covers_more p before c ms v =
    subst (λ xs. Covers p xs (import_names (before ++ c ∷ [])) ms) (sym (mode_names_append before (c ∷ [])))
    (subst (λ ys. Covers p (mode_names before ++ mode_names (c ∷ [])) ys ms) (sym (import_names_append before (c ∷ []))) v)

pub covers_names : (p : Program) (own imports : List Name) (ms : List ModeTerms) → Covers p own imports ms → Covers p (own ++ []) imports ms
covers_names p own imports ms v = subst (λ xs. Covers p xs imports ms) (sym (append_none own)) v

pub covers_imports : (p : Program) (own imports : List Name) (ms : List ModeTerms) → Covers p own imports ms → Covers p own (imports ++ []) ms
covers_imports p own imports ms v = subst (λ xs. Covers p own xs ms) (sym (append_none imports)) v

pub covers_plain : (p : Program) (before : List ContractStatement) (c : ContractStatement) (ms : List ModeTerms) → mode_names (c ∷ []) ≡ []
    → import_names (c ∷ []) ≡ [] → CoversAll p before ms → CoversAll p (before ++ c ∷ []) ms
covers_plain p before c ms e g v = covers_more p before c ms
    (subst (λ xs. Covers p (mode_names before ++ xs) (import_names before ++ import_names (c ∷ [])) ms) (sym e)
    (subst (λ xs. Covers p (mode_names before ++ []) (import_names before ++ xs) ms) (sym g)
    (covers_names p (mode_names before) (import_names before ++ []) ms (covers_imports p (mode_names before) (import_names before) ms v))))

-- the modes of a contract begin with those that are known
pub record Extends (all ms : List ModeTerms) : Type 0 where
  pub rest : List ModeTerms
  pub is : all ≡ ms ++ rest

pub extends : (i : Instance) (sub : ℕ → Terms) (ms : List ModeTerms) (cs : List ContractStatement) → Extends (terms_after i sub ms cs).modes ms
extends i sub ms [] = record { rest = []; is = sym (append_none ms) }
extends i sub ms (assume l ∷ cs) = let r : Extends (terms_after i sub ms cs).modes ms = extends i sub ms cs in record { rest = r.rest; is = r.is }
extends i sub ms (guarantee l ∷ cs) = let r : Extends (terms_after i sub ms cs).modes ms = extends i sub ms cs in record { rest = r.rest; is = r.is }
extends i sub ms (ghost_variable x e ∷ cs) = extends i sub ms cs
extends i sub ms (constant c ∷ cs) = extends i sub ms cs
extends i sub ms (mode x rs es ∷ cs) =
    let y : ModeTerms = mode_terms i ms x.text rs es in
    let r : Extends (terms_after i sub (ms ++ y ∷ []) cs).modes (ms ++ y ∷ []) = extends i sub (ms ++ y ∷ []) cs in
    record { rest = y ∷ r.rest; is = r.is ∙ append_assoc ms (y ∷ []) r.rest }
extends i sub ms («import» k c as_ xs ∷ cs) =
    let more : List ModeTerms = map (imported_mode k c.text) (sub k).modes in
    let r : Extends (terms_after i sub (ms ++ more) cs).modes (ms ++ more) = extends i sub (ms ++ more) cs in
    record { rest = more ++ r.rest; is = r.is ∙ append_assoc ms more r.rest }
