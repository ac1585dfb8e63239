-- In a checked program each expression of a declaration has a scope in which it has no fault of types, and which says of
-- constants the values that the declaration's instance has.
use Rattle.std.proofs.Common.{◌≡◌, ℕ, suc, Bool, true, false, cond, List, [], ◌∷◌, ◌++◌, map, flat_map, length, Option, Some, refl, ◌∙◌}
use Rattle.std.specs.Prelude.{Contains, find, option_map, unwrap_or}
use Rattle.std.specs.List.{AllByRecursion, list_all}
use Rattle.std.specs.Str.{bytes_eq}
use Rattle.std.proofs.lemmas.Bool.{false≢true}
use Rattle.lus_tree.specs.Tree.{Name, text_of, Constant, Statement, equation, assertion, property, main_mark, ContractStatement, Component, Program}
use Rattle.lus_meaning.specs.Value.{Value, absent}
use Rattle.lus_meaning.specs.Scene.{Clock, base, contract_statements, clock_of_names}
use Rattle.lus_meaning.specs.Occurrences.{Text, on_clock, contract_statement_texts, statement_texts, constant_texts, texts}
use Rattle.lus_meaning.specs.Program.{contract_statement_constants}
use Rattle.lus_meaning.specs.Scope.{Scope, Entry, Home, entry_of, is_known, value_of_entry, first_constants, left_after, known_after, hide_local, own_names, outer_names, contract_statement_scope, constant_scope, body_scope}
use Rattle.lus_meaning.specs.ExpressionFaults.{not_allowed, expression_faults, definition_faults}
use Rattle.lus_meaning.specs.NameFaults.{home, contract_statement_faults, contract_faults, statement_faults, local_constant_faults}
use Rattle.lus_meaning.specs.ClockFaults.{components, clock_faults_of, contract_statement_clock_faults, statement_clock_faults}
use Rattle.lus_meaning.specs.Grammatical.{has_left_name}
use Rattle.lus_meaning.specs.Refusals.{IsChecked}
use Rattle.lus_meaning.proofs.Lists.{both_parts}
use Rattle.lus_meaning.proofs.NamesOnce.{no_parts}
use Rattle.rule_laws.specs.Laws.{placed, table}
use Rattle.rule_laws.proofs.Constants.{is_word, known_value}
use Rattle.rule_laws.proofs.Covered.{moved_on}
use Rattle.rule_laws.proofs.Goods.{CleanDeclaration, clean_declaration, holds_apart}
use Rattle.rule_laws.proofs.Texts.{ScopeOf, IsTypeClean, AreClean, clean_flag, clean_side, clean_contract_statement, contract_scope_of, constant_scope_of}
use Rattle.rule_laws.proofs.Truths.{both_true}
use Rattle.rule_laws.proofs.Unfolded.{typed_tree}

abbrev pub value_in : Option Entry → Value
value_in o = unwrap_or (option_map (λ e. e.value) o) absent

-- a scope that says of each name that may be used the value that the declaration's table has
abbrev pub ShowsValues : Program → ℕ × Component → Scope → Type 0
ShowsValues p h s = (x : Name) → is_known s x ≡ true → value_of_entry s x ≡ value_in (find (is_word x) (table p h))

first_value : (x : Name) (j : ℕ) (es tail : List Entry) →
    value_in (find (is_word x) (first_constants j es ++ tail)) ≡ value_in (find (is_word x) (es ++ tail))
first_value x j [] tail = refl
first_value x j (e ∷ es) tail = go (bytes_eq x e.word.text) (first_value x (left_after j e) es tail)
  where
    go : (c : Bool) → value_in (find (is_word x) (first_constants (left_after j e) es ++ tail)) ≡ value_in (find (is_word x) (es ++ tail)) →
        value_in (cond c (Some (known_after j e)) (find (is_word x) (first_constants (left_after j e) es ++ tail)))
        ≡ value_in (cond c (Some e) (find (is_word x) (es ++ tail)))
    go true r = refl
    go false r = r

hidden_value : (x : Name) (es : List Entry) → value_in (find (is_word x) (map hide_local es)) ≡ value_in (find (is_word x) es)
hidden_value x [] = refl
hidden_value x (e ∷ es) = go (bytes_eq x e.word.text) (hidden_value x es)
  where
    go : (c : Bool) → value_in (find (is_word x) (map hide_local es)) ≡ value_in (find (is_word x) es) →
        value_in (cond c (Some (hide_local e)) (find (is_word x) (map hide_local es))) ≡ value_in (cond c (Some e) (find (is_word x) es))
    go true r = refl
    go false r = r

constant_values : (p : Program) (h : ℕ × Component) (k : ℕ) → ShowsValues p h (constant_scope (home p h.0 h.1) k)
constant_values p h k x m =
    known_value (entry_of (constant_scope (home p h.0 h.1) k) x) m
    ∙ first_value x _ (own_names (home p h.0 h.1)) (outer_names p h.0)

contract_values : (p : Program) (h : ℕ × Component) (cs : List ContractStatement) → ShowsValues p h (contract_statement_scope (home p h.0 h.1) cs)
contract_values p h cs x m =
    let j : ℕ = length (contract_statement_constants cs) in
    known_value (entry_of (contract_statement_scope (home p h.0 h.1) cs) x) m
    ∙ hidden_value x (first_constants j (own_names (home p h.0 h.1)) ++ outer_names p h.0)
    ∙ first_value x j (own_names (home p h.0 h.1)) (outer_names p h.0)

-- ---- texts

pub record ValuedText (p : Program) (h : ℕ × Component) (x : Text) : Type 0 where
  pub scope : Scope
  pub of : ScopeOf p h scope
  pub values : ShowsValues p h scope
  pub clean : IsTypeClean scope x

module _ (p : Program) (c : IsChecked p) (h : ℕ × Component) (there : Contains (placed 0 p) h) (declared : Contains (components p) h.1) where
  abbrev place : Home
  place = home p h.0 h.1

  abbrev Valued : Text → Type 0
  Valued = ValuedText p h

  each_valued : (s : Scope) → ScopeOf p h s → ShowsValues p h s → (xs : List Text) → AreClean s xs → AllByRecursion (ValuedText p h) xs
  each_valued s o v [] a = tt
  each_valued s o v (x ∷ xs) a = (record { scope = s; of = o; values = v; clean = a.0.typed }, each_valued s o v xs a.1)

  contract_valued : (before cs : List ContractStatement) → contract_statements h.1 ≡ before ++ cs → contract_faults place before cs ≡ []
      → flat_map (contract_statement_clock_faults h.1) cs ≡ [] → AllByRecursion (ValuedText p h) (flat_map contract_statement_texts cs)
  contract_valued before [] e f g = tt
  contract_valued before (a ∷ cs) e f g =
      let s : Scope = contract_statement_scope place before in
      let o : ScopeOf p h s = contract_scope_of p h before (a ∷ cs) e in
      let types = no_parts (contract_statement_faults s a) (contract_faults place (before ++ a ∷ []) cs) f in
      let clocks = no_parts (contract_statement_clock_faults h.1 a) (flat_map (contract_statement_clock_faults h.1) cs) g in
      both_parts Valued (contract_statement_texts a) (flat_map contract_statement_texts cs)
      (each_valued s o (contract_values p h before) (contract_statement_texts a)
      (clean_contract_statement s (holds_apart p (typed_tree p c) h there s o) a types.0 clocks.0))
      (contract_valued (before ++ a ∷ []) cs (e ∙ moved_on before cs a) types.1 clocks.1)

  constants_valued : (k : ℕ) (cs : List Constant) → local_constant_faults place k cs ≡ [] → AllByRecursion (ValuedText p h) (constant_texts cs)
  constants_valued k [] f = tt
  constants_valued k (a ∷ cs) f =
      let s : Scope = constant_scope place k in
      let q = no_parts (definition_faults s a.sort a.value) (local_constant_faults place (suc k) cs) f in
      let two = no_parts (not_allowed s a.value ++ expression_faults s (on_clock base) a.value) _ q.0 in
      let one = no_parts (not_allowed s a.value) (expression_faults s (on_clock base) a.value) two.0 in (
        record {
          scope = s;
          of = constant_scope_of p h k;
          values = constant_values p h k;
          clean = record { types = one.1; root = λ w. absurd (false≢true w) };
        },
        constants_valued (suc k) cs q.1,
      )

  clean_statement : (s : Scope) (x : Statement) → has_left_name x ≡ true → statement_faults s x ≡ [] → statement_clock_faults s.owner x ≡ []
      → AreClean s (statement_texts s.owner x)
  clean_statement s (equation [] e) l f g = absurd (false≢true l)
  clean_statement s (equation (x ∷ xs) e) l f g =
      let k : Clock = clock_of_names s.owner (map text_of (x ∷ xs)) in (clean_side s k x xs e f (no_parts _ (clock_faults_of s.owner k e) g).1, tt)
  clean_statement s (assertion e) l f g = (clean_flag s e f g, tt)
  clean_statement s (property l) k f g = (clean_flag s l.value f g, tt)
  clean_statement s (main_mark p) l f g = tt

  body_valued : (xs : List Statement) → list_all has_left_name xs ≡ true → flat_map (statement_faults (body_scope place)) xs ≡ []
      → flat_map (statement_clock_faults h.1) xs ≡ [] → AllByRecursion (ValuedText p h) (flat_map (statement_texts h.1) xs)
  body_valued [] l f g = tt
  body_valued (x ∷ xs) l f g =
      let s : Scope = body_scope place in
      let o : ScopeOf p h s = constant_scope_of p h (length h.1.constants) in
      let types = no_parts (statement_faults s x) (flat_map (statement_faults s) xs) f in
      let clocks = no_parts (statement_clock_faults h.1 x) (flat_map (statement_clock_faults h.1) xs) g in
      let lefts : (has_left_name x ≡ true) × (list_all has_left_name xs ≡ true) = both_true (has_left_name x) (list_all has_left_name xs) l in
      both_parts Valued (statement_texts h.1 x) (flat_map (statement_texts h.1) xs)
      (each_valued s o (constant_values p h (length h.1.constants)) (statement_texts h.1 x) (clean_statement s x lefts.0 types.0 clocks.0))
      (body_valued xs lefts.1 types.1 clocks.1)

  pub valued_texts : AllByRecursion (ValuedText p h) (texts h.1)
  valued_texts =
      let q : CleanDeclaration p h = clean_declaration p c h there declared in
      both_parts Valued (flat_map contract_statement_texts (contract_statements h.1))
      (constant_texts h.1.constants ++ flat_map (statement_texts h.1) h.1.body)
      (contract_valued [] (contract_statements h.1) refl q.typed.contract q.contract_clocks)
      (both_parts Valued (constant_texts h.1.constants) (flat_map (statement_texts h.1) h.1.body)
      (constants_valued 0 h.1.constants q.typed.constants) (body_valued h.1.body q.typed.lefts q.typed.body q.body_clocks))
