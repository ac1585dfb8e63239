-- In a program without faults of names and types each expression of a declaration has a type, where it has one value.
use Rattle.std.proofs.Common.{◌≡◌, ℕ, suc, Bool, true, List, [], ◌∷◌, ◌++◌, map, flat_map, length, refl, sym, ap, ◌∙◌, subst}
use Rattle.std.specs.Prelude.{is_some, Contains}
use Rattle.std.specs.List.{AllByRecursion}
use Rattle.lus_tree.specs.Tree.{Place, Name, text_of, Spelled, Expression, Expressions, name, call, condact, Constant, Labelled, Statement, equation, assertion, property, main_mark, ContractStatement, assume, guarantee, ghost_variable, constant, mode, «import», Component, Program}
use Rattle.lus_tree.specs.Reason.{Refused, name_twice, name_unknown}
use Rattle.lus_tree.specs.declared.place.Sort.TheVariants.{Bool as Flags}
use Rattle.lus_meaning.specs.Frame.{empty_frame}
use Rattle.lus_meaning.specs.Scene.{Clock, Scene, base, clock_of_names, contract_statements}
use Rattle.lus_meaning.specs.Contract.{scene}
use Rattle.lus_meaning.specs.Program.{instance_of, listed}
use Rattle.lus_meaning.specs.Occurrences.{Standing, on_clock, as_side, Occurrence, occurs, occurrences, all_occurrences, Text, on_base, contract_statement_texts, statement_texts, constant_texts, texts}
use Rattle.lus_meaning.specs.Scope.{Scope, Home, is_known, sort_of_entry, call_sort, node_named, type_of, contract_statement_scope, constant_scope, body_scope}
use Rattle.lus_meaning.specs.ExpressionFaults.{call_faults, default_faults, definition_faults, equation_faults, expression_faults, flag_faults, form_faults, needs_sort, not_allowed, part_faults, sides_fit, used}
use Rattle.lus_meaning.specs.NameFaults.{body_faults, constant_words, contract_faults, contract_statement_faults, declaration_faults, flags_of, home, labels_twice, local_constant_faults, mode_words, outer_twice, own_words, statement_faults, typing_faults}
use Rattle.lus_meaning.specs.Faults.{words_twice}
use Rattle.lus_meaning.specs.Refusals.{IsTyped}
use Rattle.lus_meaning.proofs.Lists.{both_parts}
use Rattle.lus_meaning.proofs.NamesOnce.{at_one, empty_of, no_parts, not_so}
use Rattle.lus_meaning.proofs.RulesFit.{none_mapped}
use Rattle.rule_laws.specs.Laws.{placed}
use Rattle.rule_laws.proofs.Cleaned.{CleanHome, homes_clean}
use Rattle.rule_laws.proofs.Known.{Shows, agrees, constant_shows, contract_statement_shows}
use Rattle.rule_laws.proofs.Lists.{all_flat}
use Rattle.rule_laws.proofs.Truths.{not_false}
use Rattle.lus_types.specs.Standing.{has_one_output, has_one_value}
use Rattle.lus_types.proofs.SortedParts.{all_sorted, called_once, one_output}

-- ---- texts without faults

-- a text without faults in a scope of this declaration
record Clean (p : Program) (h : ℕ × Component) (x : Text) : Type 0 where
  scope : Scope
  program : scope.program ≡ p
  owner : scope.owner ≡ h.1
  shows : Shows p h scope
  clean : expression_faults scope x.0 x.1 ≡ []

module _ (p : Program) (h : ℕ × Component) where
  abbrev place : Home
  place = home p h.0 h.1

  -- a scope of this declaration, and a text in it
  abbrev Here : Scope → Type 0
  Here s = (s.program ≡ p) × (s.owner ≡ h.1) × Shows p h s

  one : (s : Scope) → Here s → (t : Standing) (e : Expression) → expression_faults s t e ≡ [] → Clean p h (t, e)
  one s o t e c = record { scope = s; program = o.0; owner = o.1; shows = o.2; clean = c }

  flag : (s : Scope) → Here s → (e : Expression) → flag_faults s e ≡ [] → Clean p h (on_clock base, e)
  flag s o e c = one s o (on_clock base) e (no_parts _ (expression_faults s (on_clock base) e) c).1

  flags : (s : Scope) → Here s → (ls : List Labelled) → flags_of s ls ≡ [] → AllByRecursion (Clean p h) (on_base ls)
  flags s o [] c = tt
  flags s o (l ∷ ls) c = let two = no_parts (flag_faults s l.value) (flags_of s ls) c in (flag s o l.value two.0, flags s o ls two.1)

  arguments : (s : Scope) → Here s → (as_ : List Expression) → flat_map (expression_faults s (on_clock base)) as_ ≡ []
      → AllByRecursion (Clean p h) (map (λ a. (on_clock base, a)) as_)
  arguments s o [] c = tt
  arguments s o (a ∷ as_) c =
      let two = no_parts (expression_faults s (on_clock base) a) (flat_map (expression_faults s (on_clock base)) as_) c in
      (one s o (on_clock base) a two.0, arguments s o as_ two.1)

  side : (s : Scope) → Here s → (c : Clock) (xs : List Spelled) (e : Expression) → equation_faults s c xs e ≡ [] → Clean p h (as_side c, e)
  side s o c xs e f =
      one s o (as_side c) e
      (no_parts (flat_map (λ (y : Spelled). used s y.text y.at) xs ++ sides_fit s xs e) (expression_faults s (as_side c) e) f).1

  fixed : (s : Scope) → Here s → (c : Constant) → definition_faults s c.sort c.value ≡ [] → Clean p h (on_clock base, c.value)
  fixed s o c f =
      one s o (on_clock base) c.value
      (no_parts (not_allowed s c.value) (expression_faults s (on_clock base) c.value)
      (no_parts (not_allowed s c.value ++ expression_faults s (on_clock base) c.value) _ f).0).1

  clause : (s : Scope) → Here s → (c : ContractStatement) → contract_statement_faults s c ≡ [] → AllByRecursion (Clean p h) (contract_statement_texts c)
  clause s o (assume l) f = (flag s o l.value f, tt)
  clause s o (guarantee l) f = (flag s o l.value f, tt)
  clause s o (ghost_variable v e) f = (side s o base (v.name ∷ []) e f, tt)
  clause s o (constant c) f = (fixed s o c f, tt)
  clause s o (mode m rs es) f =
      let two = no_parts (flags_of s rs) (flags_of s es) f in
      both_parts (Clean p h) (on_base rs) (on_base es) (flags s o rs two.0) (flags s o es two.1)
  clause s o («import» k c as_ xs) f = arguments s o as_ (no_parts (flat_map (expression_faults s (on_clock base)) as_) _ f).0

  clauses : (before cs : List ContractStatement) → contract_faults place before cs ≡ []
      → AllByRecursion (Clean p h) (flat_map contract_statement_texts cs)
  clauses before [] f = tt
  clauses before (c ∷ cs) f =
      let s : Scope = contract_statement_scope place before in
      let two = no_parts (contract_statement_faults s c) (contract_faults place (before ++ c ∷ []) cs) f in
      both_parts (Clean p h) (contract_statement_texts c) (flat_map contract_statement_texts cs)
      (clause s (refl, refl, contract_statement_shows p h before) c two.0) (clauses (before ++ c ∷ []) cs two.1)

  constants : (k : ℕ) (cs : List Constant) → local_constant_faults place k cs ≡ [] → AllByRecursion (Clean p h) (constant_texts cs)
  constants k [] f = tt
  constants k (c ∷ cs) f =
      let s : Scope = constant_scope place k in
      let two = no_parts (definition_faults s c.sort c.value) (local_constant_faults place (suc k) cs) f in
      (fixed s (refl, refl, constant_shows p h k) c two.0, constants (suc k) cs two.1)

  item : (s : Scope) → Here s → (x : Statement) → statement_faults s x ≡ [] → AllByRecursion (Clean p h) (statement_texts s.owner x)
  item s o (equation xs e) f = (side s o (clock_of_names s.owner (map text_of xs)) xs e f, tt)
  item s o (assertion e) f = (flag s o e f, tt)
  item s o (property l) f = (flag s o l.value f, tt)
  item s o (main_mark q) f = tt

  items : (xs : List Statement) → flat_map (statement_faults (body_scope place)) xs ≡ []
      → AllByRecursion (Clean p h) (flat_map (statement_texts h.1) xs)
  items [] f = tt
  items (x ∷ xs) f =
      let s : Scope = body_scope place in
      let two = no_parts (statement_faults s x) (flat_map (statement_faults s) xs) f in
      both_parts (Clean p h) (statement_texts h.1 x) (flat_map (statement_texts h.1) xs)
      (item s (refl, refl, constant_shows p h (length h.1.constants)) x two.0) (items xs two.1)

  all_texts : CleanHome p h → AllByRecursion (Clean p h) (texts h.1)
  all_texts c =
      let n : Component = h.1 in
      let rest = (no_parts (labels_twice n) _ (no_parts (words_twice name_twice (mode_words (contract_statements n))) _
      (no_parts (outer_twice (constant_words p) (own_words n)) _ (no_parts (words_twice name_twice (own_words n)) _ c).1).1).1).1 in
      let contract = no_parts (contract_faults place [] (contract_statements n)) _ rest in
      let bodies : body_faults place ≡ [] = (no_parts (body_faults place) _ contract.1).0 in
      let parts : (local_constant_faults place 0 n.constants ≡ []) × (flat_map (statement_faults (body_scope place)) n.body ≡ []) =
      no_parts (local_constant_faults place 0 n.constants) _ (no_parts _
      (local_constant_faults place 0 n.constants ++ flat_map (statement_faults (body_scope place)) n.body) bodies).1 in
      both_parts (Clean p h) (flat_map contract_statement_texts (contract_statements n))
      (constant_texts n.constants ++ flat_map (statement_texts n) n.body) (clauses [] (contract_statements n) contract.0)
      (both_parts (Clean p h) (constant_texts n.constants) (flat_map (statement_texts n) n.body) (constants 0 n.constants parts.0)
      (items n.body parts.1))

-- ---- types

module _ (p : Program) (typed : IsTyped p) (h : ℕ × Component) (among : Contains (placed 0 p) h) where
  abbrev body : Scope
  body = body_scope (home p h.0 h.1)

  abbrev HasSort : Occurrence → Type 0
  HasSort o = has_one_value p o.expression ≡ true → is_some (type_of body o.expression) ≡ true

  module _ (s : Scope) (program : s.program ≡ p) (shows : Shows p h s) where
    abbrev NoFault : Occurrence → Type 0
    NoFault o = part_faults s o ≡ []

    named : (t : Standing) (q : Place) (x : Name) → NoFault (occurs t (name q x)) → is_some (sort_of_entry body x) ≡ true
    named t q x f =
        let known : is_known s x ≡ true = not_false (is_known s x) (not_so _ name_unknown q.at (no_parts (used s x q.at) _ f).0) in
        let own : Scene = scene (instance_of p h.1) (λ _. true) empty_frame in
        ap is_some ((constant_shows p h (length h.1.constants) x).sort ∙ sym (shows x).sort)
        ∙ ap is_some (agrees p typed h among s shows own refl x known).0

    at_program : (w : Bool) (f : Spelled) (as_ : List Expression) → call_faults s w f as_ (node_named s.program f.text) ≡ []
        → (w ≡ true → has_one_output (node_named p f.text) ≡ true) → is_some (call_sort body f.text) ≡ true
    at_program w f as_ c one =
        one_output (node_named p f.text)
        (called_once s w f as_ (node_named p f.text) (subst (λ r. call_faults s w f as_ (node_named r f.text) ≡ []) program c) one)

    called : (t : Standing) (q : Place) (k : ℕ) (f : Spelled) (as_ : Expressions) → NoFault (occurs t (call q k f as_))
        → (t.whole_side ≡ true → has_one_value p (call q k f as_) ≡ true) → is_some (call_sort body f.text) ≡ true
    called t q k f as_ c one =
        at_program t.whole_side f (listed as_) (no_parts (form_faults s t.whole_side (call q k f as_)) _ c).0 one

    activated : (t : Standing) (q : Place) (k : ℕ) (a : Expression) (f : Spelled) (as_ ds : Expressions)
        → NoFault (occurs t (condact q k a f as_ ds)) → (t.whole_side ≡ true → has_one_value p (condact q k a f as_ ds) ≡ true)
        → is_some (call_sort body f.text) ≡ true
    activated t q k a f as_ ds c one =
        let calls : List Refused = call_faults s t.whole_side f (listed as_) (node_named s.program f.text) in
        let defaults : List Refused = default_faults s f (listed ds) (node_named s.program f.text) in
        let condition : List Refused = needs_sort s Flags a in
        let three = (no_parts (condition ++ calls ++ defaults) (flat_map (not_allowed s) (listed ds))
        (no_parts (form_faults s t.whole_side (condact q k a f as_ ds)) _ c).0).0 in
        at_program t.whole_side f (listed as_) (no_parts condition calls (no_parts (condition ++ calls) defaults three).0).1 one

    sorted_there : (x : Text) → expression_faults s x.0 x.1 ≡ [] → s.owner ≡ h.1 → AllByRecursion HasSort (occurrences h.1 x.0 x.1)
    sorted_there x c owner =
        all_sorted NoFault h.1 body named called activated x.0 x.1
        (none_mapped (part_faults s) (occurrences h.1 x.0 x.1)
        (subst (λ n. flat_map (part_faults s) (occurrences n x.0 x.1) ≡ []) owner c))

  text_sorted : (xs : List Text) → AllByRecursion (Clean p h) xs → AllByRecursion (λ x. AllByRecursion HasSort (occurrences h.1 x.0 x.1)) xs
  text_sorted [] a = tt
  text_sorted (x ∷ xs) a = (sorted_there a.0.scope a.0.program a.0.shows x a.0.clean a.0.owner, text_sorted xs a.1)

  -- each expression of the declaration has a type, where it has one value
  pub all_have_sorts : AllByRecursion HasSort (all_occurrences h.1)
  all_have_sorts =
      let clean : CleanHome p h = at_one (CleanHome p) (placed 0 p) h (homes_clean p 0 p
      (no_parts _ (declaration_faults p 0 p) (no_parts _ _ (empty_of (typing_faults p) typed)).1).1) among in
      all_flat HasSort (λ x. occurrences h.1 x.0 x.1) (texts h.1) (text_sorted (texts h.1) (all_texts p h clean))
