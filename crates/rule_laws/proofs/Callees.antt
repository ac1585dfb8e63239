-- In a program without faults of types each call and each import names a declaration from which the caller is not reached.
use Rattle.std.proofs.Common.{◌≡◌, ℕ, suc, Bool, true, false, cond, not, List, [], ◌∷◌, ◌++◌, map, flat_map, length, Option, Some, None, refl, sym, ap, ◌∙◌, subst, arith}
use Rattle.std.specs.Prelude.{Contains}
use Rattle.std.specs.List.{AllByRecursion}
use Rattle.std.specs.Str.{bytes_eq}
use Rattle.std.proofs.lemmas.Bool.{false≢true}
use Rattle.lus_tree.specs.Tree.{Name, text_of, Spelled, Expression, truth, number, name, negation, minus, pre, arrow, binary, choice, sampled, merged, call, condact, mode_name, Constant, Labelled, Statement, equation, assertion, property, main_mark, ContractStatement, assume, guarantee, ghost_variable, constant, mode, «import», Component, declared_constant, declared_node, declared_contract, Program}
use Rattle.lus_tree.specs.declared.place.Sort.TheVariants.{Bool as Flags}
use Rattle.lus_tree.specs.Reason.{name_twice, node_recursion}
use Rattle.lus_meaning.specs.Scene.{base, Site, contract_statements, clock_of_names}
use Rattle.lus_meaning.specs.Program.{listed, site_in, import_site, all_sites, first_of_two, component_named}
use Rattle.lus_meaning.specs.Depends.{named_in}
use Rattle.lus_meaning.specs.Occurrences.{Standing, on_clock, as_side, Occurrence, occurrences, Text, on_base, contract_statement_texts, statement_texts, constant_texts, texts, all_occurrences, gathered}
use Rattle.lus_meaning.specs.Scope.{Scope, Home, component_where, node_if, node_named, contract_named, contract_statement_scope, constant_scope, body_scope}
use Rattle.lus_meaning.specs.Faults.{fault, words_twice}
use Rattle.lus_meaning.specs.ExpressionFaults.{needs_sort, call_faults, default_faults, not_allowed, form_faults, weight_faults, part_faults, expression_faults, flag_faults, definition_faults}
use Rattle.lus_meaning.specs.NameFaults.{own_words, outer_twice, mode_words, labels_twice, flags_of, output_known, import_fits, contract_statement_faults, contract_faults, local_constant_faults, statement_faults, body_faults, state_faults, callee_in, import_words, is_declared, callees, graph_of, reached, recursion_faults, assumption_faults, home, constant_words}
use Rattle.lus_meaning.specs.ClockFaults.{components}
use Rattle.lus_meaning.specs.Refusals.{IsTyped}
use Rattle.lus_meaning.proofs.InOrder.{in_order_all}
use Rattle.lus_meaning.proofs.Lists.{all_from, all_from_three, both_parts, mapped_all, map_append}
use Rattle.lus_meaning.proofs.NamesOnce.{not_nil, no_parts, at_one, Clean, all_clean}
use Rattle.lus_meaning.proofs.RulesFit.{none_mapped}
use Rattle.lus_meaning.proofs.Unique.{same_bytes}
use Rattle.rule_laws.proofs.Lists.{each_named, all_mapped, all_flat, flat_alike, all_kept, none_kept}

-- ---- declared callees

abbrev IsNode : Program → Spelled → Type 0
IsNode p f = is_declared (node_named p f.text) ≡ true

abbrev IsContract : Program → Spelled → Type 0
IsContract p c = is_declared (contract_named p c.text) ≡ true

-- a part whose callee is declared
abbrev CallsNode : Program → Occurrence → Type 0
CallsNode p o = AllByRecursion (IsNode p) (callee_in o.standing o.expression)

called : (s : Scope) (w : Bool) (f : Spelled) (as_ : List Expression) (o : Option Component) → call_faults s w f as_ o ≡ [] → is_declared o ≡ true
called s w f as_ None e = not_nil _ _ e
called s w f as_ (Some n) e = refl

calls_node : (s : Scope) (t : Standing) (w : Bool) (e : Expression) → form_faults s w e ≡ [] → AllByRecursion (IsNode s.program) (callee_in t e)
calls_node s t w (truth p b) h = tt
calls_node s t w (number p k) h = tt
calls_node s t w (name p x) h = tt
calls_node s t w (negation p a) h = tt
calls_node s t w (minus p a) h = tt
calls_node s t w (pre p k a) h = tt
calls_node s t w (arrow p k a b) h = tt
calls_node s t w (binary p o a b) h = tt
calls_node s t w (choice p a b c) h = tt
calls_node s t w (sampled p a b x) h = tt
calls_node s t w (merged p x a b) h = tt
calls_node s t w (call p k f as_) h = (called s w f (listed as_) (node_named s.program f.text) h, tt)
calls_node s t w (condact p k a f as_ ds) h =
    let o : Option Component = node_named s.program f.text in
    let first : needs_sort s Flags a ++ call_faults s w f (listed as_) o ≡ [] =
    (no_parts (needs_sort s Flags a ++ call_faults s w f (listed as_) o) (default_faults s f (listed ds) o)
    (no_parts (needs_sort s Flags a ++ call_faults s w f (listed as_) o ++ default_faults s f (listed ds) o) (flat_map (not_allowed s) (listed ds)) h).0).0 in
    (called s w f (listed as_) o (no_parts (needs_sort s Flags a) (call_faults s w f (listed as_) o) first).1, tt)
calls_node s t w (mode_name p c m) h = tt

-- ---- the texts of a declaration

abbrev TextCalls : Program → Component → Text → Type 0
TextCalls p n x = AllByRecursion (CallsNode p) (occurrences n x.0 x.1)

text_calls : (s : Scope) (t : Standing) (e : Expression) → expression_faults s t e ≡ [] → AllByRecursion (CallsNode s.program) (occurrences s.owner t e)
text_calls s t e h =
    all_from (λ o. part_faults s o ≡ []) (CallsNode s.program) (λ o z. calls_node s o.standing o.standing.whole_side o.expression
    (no_parts (form_faults s o.standing.whole_side o.expression) (weight_faults s o.expression) z).0) (occurrences s.owner t e)
    (none_mapped (part_faults s) (occurrences s.owner t e) h)

flag_calls : (s : Scope) (e : Expression) → flag_faults s e ≡ [] → TextCalls s.program s.owner (on_clock base, e)
flag_calls s e h = text_calls s (on_clock base) e (no_parts (needs_sort s Flags e) (expression_faults s (on_clock base) e) h).1

flags_call : (s : Scope) (ls : List Labelled) → flags_of s ls ≡ [] → AllByRecursion (TextCalls s.program s.owner) (on_base ls)
flags_call s [] h = tt
flags_call s (l ∷ ls) h =
    let q : (flag_faults s l.value ≡ []) × (flags_of s ls ≡ []) = no_parts (flag_faults s l.value) (flags_of s ls) h in
    (flag_calls s l.value q.0, flags_call s ls q.1)

arguments_call : (s : Scope) (as_ : List Expression) → flat_map (expression_faults s (on_clock base)) as_ ≡ [] → AllByRecursion
    (TextCalls s.program s.owner) (map (λ a. (on_clock base, a)) as_)
arguments_call s [] h = tt
arguments_call s (a ∷ as_) h =
    let q : (expression_faults s (on_clock base) a ≡ []) × (flat_map (expression_faults s (on_clock base)) as_ ≡ []) = no_parts
    (expression_faults s (on_clock base) a) (flat_map (expression_faults s (on_clock base)) as_) h in
    (text_calls s (on_clock base) a q.0, arguments_call s as_ q.1)

definition_calls : (s : Scope) (c : Constant) → definition_faults s c.sort c.value ≡ [] → TextCalls s.program s.owner (on_clock base, c.value)
definition_calls s c h =
    text_calls s (on_clock base) c.value (no_parts (not_allowed s c.value) (expression_faults s (on_clock base) c.value)
    (no_parts (not_allowed s c.value ++ expression_faults s (on_clock base) c.value) _ h).0).1

contract_statement_calls : (s : Scope) (c : ContractStatement) → contract_statement_faults s c ≡ [] → AllByRecursion
    (TextCalls s.program s.owner) (contract_statement_texts c)
contract_statement_calls s (assume l) h = (flag_calls s l.value h, tt)
contract_statement_calls s (guarantee l) h = (flag_calls s l.value h, tt)
contract_statement_calls s (ghost_variable v e) h = (text_calls s (as_side base) e (no_parts _ (expression_faults s (as_side base) e) h).1, tt)
contract_statement_calls s (constant c) h = (definition_calls s c h, tt)
contract_statement_calls s (mode m rs es) h =
    let q : (flags_of s rs ≡ []) × (flags_of s es ≡ []) = no_parts (flags_of s rs) (flags_of s es) h in
    both_parts (TextCalls s.program s.owner) (on_base rs) (on_base es) (flags_call s rs q.0) (flags_call s es q.1)
contract_statement_calls s («import» k c as_ xs) h = arguments_call s as_ (no_parts (flat_map (expression_faults s (on_clock base)) as_) _ h).0

imported : (s : Scope) (c : Spelled) (as_ : List Expression) (ws : List Spelled) (o : Option Component) → import_fits s c as_ ws o ≡ [] → is_declared o ≡ true
imported s c as_ ws None e = not_nil _ _ e
imported s c as_ ws (Some n) e = refl

imports_contract : (s : Scope) (c : ContractStatement) → contract_statement_faults s c ≡ [] → AllByRecursion (IsContract s.program) (import_words c)
imports_contract s (assume l) h = tt
imports_contract s (guarantee l) h = tt
imports_contract s (ghost_variable v e) h = tt
imports_contract s (constant c) h = tt
imports_contract s (mode m rs es) h = tt
imports_contract s («import» k c as_ xs) h =
    let rest : flat_map (output_known s) xs ++ import_fits s c as_ xs (contract_named s.program c.text) ≡ [] =
    (no_parts (flat_map (expression_faults s (on_clock base)) as_) _ h).1 in
    (imported s c as_ xs (contract_named s.program c.text) (no_parts (flat_map (output_known s) xs) _ rest).1, tt)

-- what is known of the statements of a contract
record ContractStatementsCall (p : Program) (n : Component) (cs : List ContractStatement) : Type 0 where
  calls : AllByRecursion (TextCalls p n) (flat_map contract_statement_texts cs)
  imports : AllByRecursion (IsContract p) (flat_map import_words cs)

contract_calls : (h : Home) (before cs : List ContractStatement) → contract_faults h before cs ≡ [] → ContractStatementsCall h.program h.owner cs
contract_calls h before [] e = record { calls = tt; imports = tt }
contract_calls h before (c ∷ cs) e =
    let s : Scope = contract_statement_scope h before in
    let q : (contract_statement_faults s c ≡ []) × (contract_faults h (before ++ c ∷ []) cs ≡ []) = no_parts (contract_statement_faults s c)
    (contract_faults h (before ++ c ∷ []) cs) e in
    let r : ContractStatementsCall h.program h.owner cs = contract_calls h (before ++ c ∷ []) cs q.1 in
    record {
      calls = both_parts (TextCalls h.program h.owner) (contract_statement_texts c) (flat_map contract_statement_texts cs)
          (contract_statement_calls s c q.0) r.calls;
      imports = both_parts (IsContract h.program) (import_words c) (flat_map import_words cs) (imports_contract s c q.0) r.imports;
    }

constants_call : (h : Home) (k : ℕ) (cs : List Constant) → local_constant_faults h k cs ≡ [] → AllByRecursion (TextCalls h.program h.owner) (constant_texts cs)
constants_call h k [] e = tt
constants_call h k (c ∷ cs) e =
    let q : (definition_faults (constant_scope h k) c.sort c.value ≡ []) × (local_constant_faults h (suc k) cs ≡ []) = no_parts
    (definition_faults (constant_scope h k) c.sort c.value) (local_constant_faults h (suc k) cs) e in
    (definition_calls (constant_scope h k) c q.0, constants_call h (suc k) cs q.1)

statement_calls : (s : Scope) (x : Statement) → statement_faults s x ≡ [] → AllByRecursion (TextCalls s.program s.owner) (statement_texts s.owner x)
statement_calls s (equation xs e) h = (
  text_calls s (as_side (clock_of_names s.owner (map text_of xs))) e
      (no_parts _ (expression_faults s (as_side (clock_of_names s.owner (map text_of xs))) e) h).1,
  tt,
)
statement_calls s (assertion e) h = (flag_calls s e h, tt)
statement_calls s (property l) h = (flag_calls s l.value h, tt)
statement_calls s (main_mark p) h = tt

statements_call : (s : Scope) (xs : List Statement) → flat_map (statement_faults s) xs ≡ [] → AllByRecursion (TextCalls s.program s.owner)
    (flat_map (statement_texts s.owner) xs)
statements_call s [] h = tt
statements_call s (x ∷ xs) h =
    let q : (statement_faults s x ≡ []) × (flat_map (statement_faults s) xs ≡ []) = no_parts (statement_faults s x) (flat_map (statement_faults s) xs) h in
    both_parts (TextCalls s.program s.owner) (statement_texts s.owner x) (flat_map (statement_texts s.owner) xs) (statement_calls s x q.0)
    (statements_call s xs q.1)

-- ---- a declaration

-- what is known of the callees of a declaration
record CalleesKnown (p : Program) (n : Component) : Type 0 where
  nodes : AllByRecursion (IsNode p) (gathered callee_in n)
  contracts : AllByRecursion (IsContract p) (flat_map import_words (contract_statements n))
  apart : recursion_faults p n ≡ []

callees_known : (p : Program) (n : Component) → Clean p n → CalleesKnown p n
callees_known p n (k, e) =
    let h : Home = home p k n in
    let rest : contract_faults h [] (contract_statements n) ++ (body_faults h ++
    (state_faults p n ++ (recursion_faults p n ++ assumption_faults (body_scope h)))) ≡ [] =
    (no_parts (labels_twice n) _ (no_parts (words_twice name_twice (mode_words (contract_statements n))) _
    (no_parts (outer_twice (constant_words p) (own_words n)) _ (no_parts (words_twice name_twice (own_words n)) _ e).1).1).1).1 in
    let later : body_faults h ++ (state_faults p n ++ (recursion_faults p n ++ assumption_faults (body_scope h))) ≡ [] =
    (no_parts (contract_faults h [] (contract_statements n)) _ rest).1 in
    let inner : local_constant_faults h 0 n.constants ++ flat_map (statement_faults (body_scope h)) n.body ≡ [] =
    (no_parts _ (local_constant_faults h 0 n.constants ++ flat_map (statement_faults (body_scope h)) n.body)
    (no_parts (body_faults h) _ later).0).1 in
    let parts : (local_constant_faults h 0 n.constants ≡ []) × (flat_map (statement_faults (body_scope h)) n.body ≡ []) = no_parts
    (local_constant_faults h 0 n.constants) (flat_map (statement_faults (body_scope h)) n.body) inner in
    let contract : ContractStatementsCall p n (contract_statements n) = contract_calls h [] (contract_statements n)
    (no_parts (contract_faults h [] (contract_statements n)) _ rest).0 in
    let whole : AllByRecursion (TextCalls p n) (texts n) =
    both_parts (TextCalls p n) (flat_map contract_statement_texts (contract_statements n))
    (constant_texts n.constants ++ flat_map (statement_texts n) n.body) contract.calls
    (both_parts (TextCalls p n) (constant_texts n.constants) (flat_map (statement_texts n) n.body) (constants_call h 0 n.constants parts.0)
    (statements_call (body_scope h) n.body parts.1)) in
    record {
      nodes = all_flat (IsNode p) (λ o. callee_in o.standing o.expression) (all_occurrences n)
          (all_flat (CallsNode p) (λ x. occurrences n x.0 x.1) (texts n) whole);
      contracts = contract.imports;
      apart = (no_parts (recursion_faults p n) _ (no_parts (state_faults p n) _ (no_parts (body_faults h) _ later).1).1).0;
    }

-- so no callee is left out
callees_all : (p : Program) (n : Component) → CalleesKnown p n → callees p n ≡ gathered callee_in n ++ flat_map import_words (contract_statements n)
callees_all p n c =
    rw (
      all_kept (λ f. is_declared (node_named p f.text)) (gathered callee_in n) c.nodes,
      all_kept
          (λ f. is_declared (contract_named p f.text)) (flat_map import_words (contract_statements n)) c.contracts,
    ) refl

-- ---- the call occurrences

site_callee : (t : Standing) (e : Expression) → map (λ s. s.callee) (site_in t e) ≡ map text_of (callee_in t e)
site_callee t (truth p b) = refl
site_callee t (number p k) = refl
site_callee t (name p x) = refl
site_callee t (negation p a) = refl
site_callee t (minus p a) = refl
site_callee t (pre p k a) = refl
site_callee t (arrow p k a b) = refl
site_callee t (binary p o a b) = refl
site_callee t (choice p a b c) = refl
site_callee t (sampled p a b x) = refl
site_callee t (merged p x a b) = refl
site_callee t (call p k f as_) = refl
site_callee t (condact p k a f as_ ds) = refl
site_callee t (mode_name p c m) = refl

import_callee : (c : ContractStatement) → map (λ s. s.callee) (import_site c) ≡ map text_of (import_words c)
import_callee (assume l) = refl
import_callee (guarantee l) = refl
import_callee (ghost_variable v e) = refl
import_callee (constant c) = refl
import_callee (mode m rs es) = refl
import_callee («import» k c as_ xs) = refl

abbrev found_sites : Component → List Site
found_sites n = gathered site_in n ++ flat_map import_site (contract_statements n)

site_names : (p : Program) (n : Component) → CalleesKnown p n → map (λ s. s.callee) (found_sites n) ≡ map text_of (callees p n)
site_names p n c =
    let calls : map (λ s. s.callee) (gathered site_in n) ≡ map text_of (gathered callee_in n) =
    flat_alike (λ s. s.callee) text_of (λ o. site_in o.standing o.expression) (λ o. callee_in o.standing o.expression)
    (λ o. site_callee o.standing o.expression) (all_occurrences n) in
    let imports : map (λ s. s.callee) (flat_map import_site (contract_statements n)) ≡ map text_of (flat_map import_words (contract_statements n)) =
    flat_alike (λ s. s.callee) text_of import_site import_words import_callee (contract_statements n) in
    let both : map (λ s. s.callee) (gathered site_in n) ++ map (λ s. s.callee) (flat_map import_site (contract_statements n)) ≡ map text_of
    (gathered callee_in n) ++ map text_of (flat_map import_words (contract_statements n)) =
    rw (calls, imports) refl in
    map_append (λ s. s.callee) (gathered site_in n) (flat_map import_site (contract_statements n))
    ∙ both
    ∙ sym (map_append text_of (gathered callee_in n) (flat_map import_words (contract_statements n)))
    ∙ ap (map text_of) (sym (callees_all p n c))

-- ---- what a callee's name is

pub record IsCallee (p : Program) (x : Name) : Type 0 where
  pub callee : Component
  pub named : component_named p x ≡ Some callee
  pub declared : Contains (components p) callee
  pub word : callee.name.text ≡ x

-- the same behind one more declaration
behind : (m : Component) (ns : List Component) (c : Component) → Contains ns c → Contains (m ∷ ns) c
behind m ns c (k, l, e) = (suc k, omega arith, e)

declared_callee : (wanted : Bool) (ds : Program) (x : Name) → is_declared (component_where wanted ds x) ≡ true → IsCallee ds x
declared_callee wanted [] x e = absurd (false≢true e)
declared_callee wanted (declared_constant c ∷ ds) x e =
    let r : IsCallee ds x = declared_callee wanted ds x e in
    record { callee = r.callee; named = r.named; declared = r.declared; word = r.word }
declared_callee wanted (declared_node n ∷ ds) x e = go (bytes_eq x n.name.text) refl e (declared_callee wanted ds x)
  where
    go : (c : Bool) → bytes_eq x n.name.text ≡ c → is_declared (cond c (node_if wanted n) (component_where wanted ds x)) ≡ true →
        (is_declared (component_where wanted ds x) ≡ true → IsCallee ds x) → IsCallee (declared_node n ∷ ds) x
    go true m h f = record { callee = n; named = rw m refl; declared = (0, omega arith, refl); word = sym (same_bytes x n.name.text m) }
    go false m h f =
        let r : IsCallee ds x = f h in
        record { callee = r.callee; named = rw m r.named; declared = behind n (components ds) r.callee r.declared; word = r.word }
declared_callee wanted (declared_contract n ∷ ds) x e = go (bytes_eq x n.name.text) refl e (declared_callee wanted ds x)
  where
    go : (c : Bool) → bytes_eq x n.name.text ≡ c → is_declared (cond c (node_if (not wanted) n) (component_where wanted ds x)) ≡ true →
        (is_declared (component_where wanted ds x) ≡ true → IsCallee ds x) → IsCallee (declared_contract n ∷ ds) x
    go true m h f = record { callee = n; named = rw m refl; declared = (0, omega arith, refl); word = sym (same_bytes x n.name.text m) }
    go false m h f =
        let r : IsCallee ds x = f h in
        record { callee = r.callee; named = rw m r.named; declared = behind n (components ds) r.callee r.declared; word = r.word }

-- a callee is declared, is one of the caller's, and doesn't reach the caller
pub record GoesDown (p : Program) (n : Component) (x : Name) : Type 0 where
  pub is_callee : IsCallee p x
  pub called : named_in x (map text_of (callees p n)) ≡ true
  pub apart : named_in n.name.text (reached (length p) (graph_of p p) (x ∷ [])) ≡ false

names_down : (p : Program) (n : Component) → CalleesKnown p n → AllByRecursion (GoesDown p n) (map text_of (callees p n))
names_down p n c =
    let xs : List Name = map text_of (callees p n) in
    let nodes : AllByRecursion (λ f. IsCallee p f.text) (gathered callee_in n) = all_from (IsNode p) (λ f. IsCallee p f.text)
    (λ f h. declared_callee true p f.text h) (gathered callee_in n) c.nodes in
    let contracts : AllByRecursion (λ f. IsCallee p f.text) (flat_map import_words (contract_statements n)) = all_from (IsContract p)
    (λ f. IsCallee p f.text) (λ f h. declared_callee false p f.text h) (flat_map import_words (contract_statements n)) c.contracts in
    let both : AllByRecursion (λ f. IsCallee p f.text) (callees p n) =
    subst (AllByRecursion (λ f. IsCallee p f.text)) (sym (callees_all p n c))
    (both_parts (λ f. IsCallee p f.text) (gathered callee_in n) (flat_map import_words (contract_statements n)) nodes contracts) in
    let apart : AllByRecursion (λ f. named_in n.name.text (reached (length p) (graph_of p p) (f.text ∷ [])) ≡ false) (callees p n) =
    none_kept (λ f. fault node_recursion f.at) (λ f. named_in n.name.text (reached (length p) (graph_of p p) (f.text ∷ []))) (callees p n) c.apart in
    all_from_three (IsCallee p) (λ x. named_in x xs ≡ true) (λ x. named_in n.name.text (reached (length p) (graph_of p p) (x ∷ [])) ≡ false)
    (GoesDown p n) (λ x i m a. record { is_callee = i; called = m; apart = a }) xs
    (all_mapped (IsCallee p) text_of (callees p n) both)
    (each_named xs)
    (all_mapped (λ x. named_in n.name.text (reached (length p) (graph_of p p) (x ∷ [])) ≡ false) text_of (callees p n) apart)

sites_down : (p : Program) (n : Component) → CalleesKnown p n → AllByRecursion (λ s. GoesDown p n s.callee) (all_sites n)
sites_down p n c =
    in_order_all (λ s. s.number) (λ s. GoesDown p n s.callee) (found_sites n)
    (mapped_all (GoesDown p n) (λ s. s.callee) (found_sites n) (subst (AllByRecursion (GoesDown p n)) (sym (site_names p n c)) (names_down p n c)))

pub each_site : (p : Program) → IsTyped p → (n : Component) → Contains (components p) n → AllByRecursion (λ s. GoesDown p n s.callee) (all_sites n)
each_site p t n i = sites_down p n (callees_known p n (at_one (Clean p) (components p) n (all_clean p t) i))

-- each call names a node or function, and each import a contract node
nodes_of_sites : (p : Program) (n : Component) → CalleesKnown p n → AllByRecursion (λ s. is_declared (node_named p s.callee) ≡ true) (gathered site_in n)
nodes_of_sites p n c =
    let calls : map (λ s. s.callee) (gathered site_in n) ≡ map text_of (gathered callee_in n) =
    flat_alike (λ s. s.callee) text_of (λ o. site_in o.standing o.expression) (λ o. callee_in o.standing o.expression)
    (λ o. site_callee o.standing o.expression) (all_occurrences n) in
    mapped_all (λ x. is_declared (node_named p x) ≡ true) (λ s. s.callee) (gathered site_in n)
    (subst (AllByRecursion (λ x. is_declared (node_named p x) ≡ true)) (sym calls)
    (all_mapped (λ x. is_declared (node_named p x) ≡ true) text_of (gathered callee_in n) c.nodes))

contracts_of_sites : (p : Program) (n : Component) → CalleesKnown p n → AllByRecursion (λ s. is_declared (contract_named p s.callee) ≡ true)
    (flat_map import_site (contract_statements n))
contracts_of_sites p n c =
    let imports : map (λ s. s.callee) (flat_map import_site (contract_statements n)) ≡ map text_of (flat_map import_words (contract_statements n)) =
    flat_alike (λ s. s.callee) text_of import_site import_words import_callee (contract_statements n) in
    mapped_all (λ x. is_declared (contract_named p x) ≡ true) (λ s. s.callee) (flat_map import_site (contract_statements n))
    (subst (AllByRecursion (λ x. is_declared (contract_named p x) ≡ true)) (sym imports)
    (all_mapped (λ x. is_declared (contract_named p x) ≡ true) text_of (flat_map import_words (contract_statements n)) c.contracts))

pub each_call : (p : Program) → IsTyped p → (n : Component) → Contains (components p) n → AllByRecursion
    (λ s. is_declared (node_named p s.callee) ≡ true) (gathered site_in n)
each_call p t n i = nodes_of_sites p n (callees_known p n (at_one (Clean p) (components p) n (all_clean p t) i))

pub each_import : (p : Program) → IsTyped p → (n : Component) → Contains (components p) n → AllByRecursion
    (λ s. is_declared (contract_named p s.callee) ≡ true) (flat_map import_site (contract_statements n))
each_import p t n i = contracts_of_sites p n (callees_known p n (at_one (Clean p) (components p) n (all_clean p t) i))

-- the first declaration of that name is the one
pub where_is_named : (wanted : Bool) (ds : Program) (x : Name) → is_declared (component_where wanted ds x) ≡ true
    → component_where wanted ds x ≡ component_named ds x
where_is_named wanted [] x e = refl
where_is_named wanted (declared_constant c ∷ ds) x e = where_is_named wanted ds x e
where_is_named wanted (declared_node n ∷ ds) x e = go wanted (bytes_eq x n.name.text) e (where_is_named wanted ds x)
  where
    go : (w c : Bool) → is_declared (cond c (node_if w n) (component_where wanted ds x)) ≡ true →
        (is_declared (component_where wanted ds x) ≡ true → component_where wanted ds x ≡ component_named ds x) → cond c (node_if w n)
        (component_where wanted ds x) ≡ first_of_two (cond c (Some n) None) (component_named ds x)
    go true true h r = refl
    go false true h r = absurd (false≢true h)
    go w false h r = r h
where_is_named wanted (declared_contract n ∷ ds) x e = go (not wanted) (bytes_eq x n.name.text) e (where_is_named wanted ds x)
  where
    go : (w c : Bool) → is_declared (cond c (node_if w n) (component_where wanted ds x)) ≡ true →
        (is_declared (component_where wanted ds x) ≡ true → component_where wanted ds x ≡ component_named ds x) → cond c (node_if w n)
        (component_where wanted ds x) ≡ first_of_two (cond c (Some n) None) (component_named ds x)
    go true true h r = refl
    go false true h r = absurd (false≢true h)
    go w false h r = r h
