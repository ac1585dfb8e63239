-- The tree of a source is one that the grammar gives.
use Rattle.std.proofs.Common.{◌≡◌, ℕ, Bool, true, List, [], ◌∷◌, ◌++◌, map, flat_map, refl, Option, Some, None, is_none, option_map, unwrap_or}
use Rattle.std.specs.List.{list_all, AllByRecursion}
use Rattle.lus_tree.specs.Tree.{Name, Spelled, Variable, Constant, Labelled, Statement, equation, assertion, property, main_mark, ContractStatement, assume, guarantee, ghost_variable, constant, mode, «import», Component, Declaration, declared_constant, declared_node, declared_contract, Program}
use Rattle.lus_tree.specs.Numbers.{IsNumbered, IsNumberedDeclaration, AreNumbered}
use Rattle.lus_grammar.specs.Source.{IsSource}
use Rattle.lus_grammar.proofs.Numbered.{source_numbered}
use Rattle.lus_meaning.specs.Scene.{base, contract_statements, variables, no_component}
use Rattle.lus_meaning.specs.Program.{contract_statement_constants}
use Rattle.lus_meaning.specs.Occurrences.{on_clock, occurrences, Text, on_base, contract_statement_texts, statement_texts, constant_texts, texts, all_occurrences}
use Rattle.lus_meaning.specs.NameFaults.{own_words, mode_words}
use Rattle.lus_meaning.specs.Grammatical.{is_identifier, are_identifiers, is_printable, has_printable_label, is_plain_form, are_plain, has_left_name, left_words, clock_words, imported_words, outer_words, labelled_in, labelled_item, all_labelled, ghost_names, have_no_clock, IsGrammaticalComponent, IsGrammaticalDeclaration, IsGrammatical}
use Rattle.source_laws.proofs.Lists.{all_both, all_map, all_pass, all_flat, pass_flat}
use Rattle.source_laws.proofs.Words.{name_identifier}
use Rattle.source_laws.proofs.Parts.{IsWord, AreWords, IsPlain, IsPrintable, IsItem, IsConstant, IsStream, IsClock, IsLocal, IsParameter, IsContractStatement, IsStatement, IsComponent, IsDeclaration, IsProgram}
use Rattle.source_laws.proofs.Plain.{plain_occurrences}
use Rattle.source_laws.proofs.Read.{source_parts}
use Rattle.source_laws.proofs.Identified.{streams_named}

-- ---- words

are_words : (ws : List Spelled) → AreWords ws → are_identifiers ws ≡ true
are_words ws h = all_pass (λ w. IsWord w.text) (λ w. is_identifier w.text) (λ w k. name_identifier w.text k) ws h

contract_constants : (cs : List ContractStatement) → AllByRecursion IsContractStatement cs → AllByRecursion IsConstant (contract_statement_constants cs)
contract_constants [] h = tt
contract_constants (assume l ∷ cs) h = contract_constants cs h.1
contract_constants (guarantee l ∷ cs) h = contract_constants cs h.1
contract_constants (ghost_variable v e ∷ cs) h = contract_constants cs h.1
contract_constants (constant c ∷ cs) h = (h.0, contract_constants cs h.1)
contract_constants (mode m rs es ∷ cs) h = contract_constants cs h.1
contract_constants («import» k c as_ xs ∷ cs) h = contract_constants cs h.1

constant_words : (cs : List Constant) → AllByRecursion IsConstant cs → AreWords (map (λ c. c.name) cs)
constant_words cs h = all_map IsConstant (λ w. IsWord w.text) (λ c. c.name) (λ c k. k.name) cs h

own_named : (n : Component) → IsComponent n → AreWords (own_words n)
own_named n h =
    let streams : List Spelled = map (λ v. v.name) (variables n) in
    let shared : List Spelled = map (λ c. c.name) (contract_statement_constants (contract_statements n)) in
    let own : List Spelled = map (λ c. c.name) n.constants in
    all_both (λ w. IsWord w.text) streams (shared ++ own)
    (all_map IsStream (λ w. IsWord w.text) (λ v. v.name) (λ v k. k) (variables n) (streams_named n h))
    (all_both (λ w. IsWord w.text) shared own
    (constant_words (contract_statement_constants (contract_statements n)) (contract_constants (contract_statements n) h.contract))
    (constant_words n.constants h.constants))

modes_named : (cs : List ContractStatement) → AllByRecursion IsContractStatement cs → AreWords (mode_words cs)
modes_named [] h = tt
modes_named (assume l ∷ cs) h = modes_named cs h.1
modes_named (guarantee l ∷ cs) h = modes_named cs h.1
modes_named (ghost_variable v e ∷ cs) h = modes_named cs h.1
modes_named (constant c ∷ cs) h = modes_named cs h.1
modes_named (mode m rs es ∷ cs) h = (h.0.0, modes_named cs h.1)
modes_named («import» k c as_ xs ∷ cs) h = modes_named cs h.1

-- ---- words of equations, clocks and imports

left_named : (t : Statement) → IsStatement t → AreWords (left_words t)
left_named (equation xs e) h = h.1
left_named (assertion e) h = tt
left_named (property l) h = tt
left_named (main_mark p) h = tt

clock_named : (c : Option (Bool × Spelled)) → IsClock c → AreWords (unwrap_or (option_map (λ c. c.1 ∷ []) c) [])
clock_named None h = tt
clock_named (Some c) h = (h, tt)

import_named : (c : ContractStatement) → IsContractStatement c → AreWords (imported_words c)
import_named (assume l) h = tt
import_named (guarantee l) h = tt
import_named (ghost_variable v e) h = tt
import_named (constant c) h = tt
import_named (mode m rs es) h = tt
import_named («import» k c as_ xs) h = (h.0, h.1)

outer_named : (n : Component) → IsComponent n → AreWords (outer_words n)
outer_named n h =
    let lefts = flat_map left_words n.body in
    let clocks = flat_map clock_words n.locals in
    let imports = flat_map imported_words (contract_statements n) in
    all_both (λ w. IsWord w.text) lefts (clocks ++ imports)
    (all_flat IsStatement (λ w. IsWord w.text) left_words left_named n.body h.body)
    (all_both (λ w. IsWord w.text) clocks imports
    (all_flat IsLocal (λ w. IsWord w.text) clock_words (λ v k. clock_named v.clock k.clock) n.locals h.locals)
    (all_flat IsContractStatement (λ w. IsWord w.text) imported_words import_named (contract_statements n) h.contract))

-- ---- clocks

ghost_in : (c : ContractStatement) → IsContractStatement c → AllByRecursion IsParameter (ghost_names c)
ghost_in (assume l) h = tt
ghost_in (guarantee l) h = tt
ghost_in (ghost_variable v e) h = (h.0, tt)
ghost_in (constant c) h = tt
ghost_in (mode m rs es) h = tt
ghost_in («import» k c as_ xs) h = tt

no_clock : (c : Option (Bool × Spelled)) → c ≡ None → is_none c ≡ true
no_clock c h = rw h refl

without_clock : (n : Component) → IsComponent n → have_no_clock n ≡ true
without_clock n h =
    let ghosts : List Variable = flat_map ghost_names (contract_statements n) in
    all_pass IsParameter (λ v. is_none v.clock) (λ v k. no_clock v.clock k.clock) (n.inputs ++ (n.outputs ++ ghosts))
    (all_both IsParameter n.inputs (n.outputs ++ ghosts) h.inputs
    (all_both IsParameter n.outputs ghosts h.outputs (all_flat IsContractStatement IsParameter ghost_names ghost_in (contract_statements n) h.contract)))

-- ---- expressions

abbrev IsText : Text → Type 0
IsText x = IsPlain x.1

on_base_plain : (ls : List Labelled) → AllByRecursion IsItem ls → AllByRecursion IsText (on_base ls)
on_base_plain ls h = all_map IsItem IsText (λ l. (on_clock base, l.value)) (λ l k. k.value) ls h

contract_statement_plain : (c : ContractStatement) → IsContractStatement c → AllByRecursion IsText (contract_statement_texts c)
contract_statement_plain (assume l) h = (h.value, tt)
contract_statement_plain (guarantee l) h = (h.value, tt)
contract_statement_plain (ghost_variable v e) h = (h.1, tt)
contract_statement_plain (constant c) h = (h.value, tt)
contract_statement_plain (mode m rs es) h =
    all_both IsText (on_base rs) (on_base es) (on_base_plain rs h.1) (on_base_plain es h.2)
contract_statement_plain («import» k c as_ xs) h = all_map IsPlain IsText (λ a. (on_clock base, a)) (λ a k. k) as_ h.2

statement_plain : (n : Component) (t : Statement) → IsStatement t → AllByRecursion IsText (statement_texts n t)
statement_plain n (equation xs e) h = (h.2, tt)
statement_plain n (assertion e) h = (h, tt)
statement_plain n (property l) h = (h.value, tt)
statement_plain n (main_mark p) h = tt

texts_plain : (n : Component) → IsComponent n → AllByRecursion IsText (texts n)
texts_plain n h =
    let contract : List Text = flat_map contract_statement_texts (contract_statements n) in
    let body : List Text = flat_map (statement_texts n) n.body in
    all_both IsText contract (constant_texts n.constants ++ body) (all_flat IsContractStatement IsText contract_statement_texts
    contract_statement_plain (contract_statements n) h.contract)
    (all_both IsText (constant_texts n.constants) body
    (all_map IsConstant IsText (λ c. (on_clock base, c.value)) (λ c k. k.value) n.constants h.constants)
    (all_flat IsStatement IsText (statement_texts n) (statement_plain n) n.body h.body))

forms : (n : Component) → IsComponent n → are_plain (all_occurrences n) ≡ true
forms n h =
    pass_flat IsText (λ o. is_plain_form o.expression) (λ x. occurrences n x.0 x.1) (λ x k. plain_occurrences x.1 k n x.0)
    (texts n) (texts_plain n h)

-- ---- left sides and labels

left_name : (t : Statement) → IsStatement t → has_left_name t ≡ true
left_name (equation xs e) h = h.0
left_name (assertion e) h = refl
left_name (property l) h = refl
left_name (main_mark p) h = refl

contract_statement_items : (c : ContractStatement) → IsContractStatement c → AllByRecursion IsItem (labelled_in c)
contract_statement_items (assume l) h = (h, tt)
contract_statement_items (guarantee l) h = (h, tt)
contract_statement_items (ghost_variable v e) h = tt
contract_statement_items (constant c) h = tt
contract_statement_items (mode m rs es) h = all_both IsItem rs es h.1 h.2
contract_statement_items («import» k c as_ xs) h = tt

statement_items : (t : Statement) → IsStatement t → AllByRecursion IsItem (labelled_item t)
statement_items (equation xs e) h = tt
statement_items (assertion e) h = tt
statement_items (property l) h = (h, tt)
statement_items (main_mark p) h = tt

printable : (x : Option Name) → IsPrintable x → unwrap_or (option_map is_printable x) true ≡ true
printable None h = refl
printable (Some x) h = h

labels : (n : Component) → IsComponent n → list_all has_printable_label (all_labelled n) ≡ true
labels n h =
    all_pass IsItem has_printable_label (λ l k. printable l.label k.label) (all_labelled n)
    (all_both IsItem (flat_map labelled_in (contract_statements n)) (flat_map labelled_item n.body)
    (all_flat IsContractStatement IsItem labelled_in contract_statement_items (contract_statements n) h.contract)
    (all_flat IsStatement IsItem labelled_item statement_items n.body h.body))

-- ---- declarations

component : (n : Component) → IsComponent n → IsNumbered n → IsGrammaticalComponent n
component n h k = record {
  name = name_identifier n.name.text h.name;
  names = are_words (own_words n) (own_named n h);
  modes = are_words (mode_words (contract_statements n)) (modes_named (contract_statements n) h.contract);
  words = are_words (outer_words n) (outer_named n h);
  clocks = without_clock n h;
  forms = forms n h;
  lefts = all_pass IsStatement has_left_name left_name n.body h.body;
  labels = labels n h;
  numbered = k;
}

declaration : (d : Declaration) → IsDeclaration d → IsNumberedDeclaration d → IsGrammaticalDeclaration d
declaration (declared_constant c) h k = record {
  name = name_identifier c.name.text h.name;
  forms = plain_occurrences c.value h.value no_component (on_clock base);
}
declaration (declared_node n) h k = component n h k
declaration (declared_contract n) h k = (component n h.0 k, h.1)

program : (p : Program) → IsProgram p → AreNumbered p → IsGrammatical p
program [] h k = tt
program (d ∷ ds) h k = (declaration d h.0 k.0, program ds h.1 k.1)

pub grammatical_sources : (bytes : List ℕ) (p : Program) → IsSource bytes p → IsGrammatical p
grammatical_sources bytes p s = program p (source_parts bytes p s) (source_numbered bytes p s)
