-- What the grammar gives of a tree, its places aside, and the laws of programs rest on.
use Rattle.std.specs.Prelude.{◌≡◌, ℕ, ◌^◌, nat_le, nat_lt, Bool, true, false, not, ◌&&◌, ◌||◌, List, [], ◌∷◌, ◌++◌, flat_map, codes, Some, None, is_none, option_map, unwrap_or}
use Rattle.std.specs.List.{AllByRecursion, list_all}
use Rattle.lus_tree.specs.Tree.{Name, Spelled, Expression, number, name, sampled, merged, call, condact, mode_name, Variable, Constant, Labelled, Statement, equation, property, ContractStatement, assume, guarantee, ghost_variable, mode, «import», Component, Declaration, declared_constant, declared_node, declared_contract, Program}
use Rattle.lus_tree.specs.Numbers.{IsNumbered}
use Rattle.lus_meaning.specs.Scene.{base, contract_statements, no_component}
use Rattle.lus_meaning.specs.Depends.{named_in}
use Rattle.lus_meaning.specs.Occurrences.{on_clock, Occurrence, occurrences, all_occurrences}
use Rattle.lus_meaning.specs.NameFaults.{own_words, mode_words}

-- ---- words

abbrev pub is_in : ℕ → ℕ → ℕ → Bool
is_in a b c = nat_le a c && nat_le c b

abbrev pub is_letter : ℕ → Bool
is_letter c = is_in 65 90 c || (is_in 97 122 c || is_in 95 95 c)

abbrev pub is_name_byte : ℕ → Bool
is_name_byte c = is_letter c || is_in 48 57 c

abbrev pub starts_name : Name → Bool
starts_name [] = false
starts_name (c ∷ cs) = is_letter c

abbrev pub keywords : List Name
keywords =
    codes "node" ∷ codes "function" ∷ codes "contract" ∷ codes "returns" ∷ codes "var" ∷ codes "const" ∷
    codes "let" ∷ codes "tel" ∷ codes "import" ∷ codes "mode" ∷ codes "assume" ∷ codes "guarantee" ∷
    codes "require" ∷ codes "ensure" ∷ codes "assert" ∷ codes "check" ∷ codes "if" ∷ codes "then" ∷ codes "else" ∷
    codes "when" ∷ codes "merge" ∷ codes "condact" ∷ codes "activate" ∷ codes "every" ∷ codes "initial" ∷
    codes "default" ∷ codes "pre" ∷ codes "and" ∷ codes "or" ∷ codes "xor" ∷ codes "not" ∷ codes "div" ∷
    codes "mod" ∷ codes "true" ∷ codes "false" ∷ codes "bool" ∷ codes "int" ∷ []

abbrev pub left_out_words : List Name
left_out_words =
    codes "type" ∷ codes "struct" ∷ codes "enum" ∷ codes "subrange" ∷ codes "real" ∷ codes "imported" ∷
    codes "automaton" ∷ codes "restart" ∷ codes "current" ∷ codes "fby" ∷ codes "forall" ∷ codes "exists" ∷
    codes "weakly" ∷ codes "array" ∷ codes "int8" ∷ codes "int16" ∷ codes "int32" ∷ codes "int64" ∷ codes "uint8" ∷
    codes "uint16" ∷ codes "uint32" ∷ codes "uint64" ∷ []

-- a letter or `_`, and then letters, digits and `_`; no keyword and no word that is left out
abbrev pub is_identifier : Name → Bool
is_identifier x = (starts_name x && list_all is_name_byte x) && not (named_in x (keywords ++ left_out_words))

abbrev pub are_identifiers : List Spelled → Bool
are_identifiers ws = list_all (λ w. is_identifier w.text) ws

-- printable ASCII without `"` and `\`
abbrev pub is_printable : Name → Bool
is_printable x = list_all (λ c. is_in 32 126 c && (not (is_in 34 34 c) && not (is_in 92 92 c))) x

abbrev pub has_printable_label : Labelled → Bool
has_printable_label l = unwrap_or (option_map is_printable l.label) true

-- ---- expressions

-- the words of an expression, its parts left aside
abbrev pub form_words : Expression → List Name
form_words (name p x) = x ∷ []
form_words (sampled p a b x) = x.text ∷ []
form_words (merged p x a b) = x.text ∷ []
form_words (call p k f as_) = f.text ∷ []
form_words (condact p k a f as_ ds) = f.text ∷ []
form_words (mode_name p None m) = m.text ∷ []
form_words (mode_name p (Some c) m) = c.text ∷ m.text ∷ []
form_words _ = []

-- a literal is at most 2^63 - 1
abbrev pub has_small_literal : Expression → Bool
has_small_literal (number p n) = nat_lt n (2 ^ 63)
has_small_literal _ = true

abbrev pub is_plain_form : Expression → Bool
is_plain_form e = list_all is_identifier (form_words e) && has_small_literal e

abbrev pub are_plain : List Occurrence → Bool
are_plain os = list_all (λ o. is_plain_form o.expression) os

-- ---- items

abbrev pub has_left_name : Statement → Bool
has_left_name (equation [] e) = false
has_left_name _ = true

abbrev pub labelled_in : ContractStatement → List Labelled
labelled_in (assume l) = l ∷ []
labelled_in (guarantee l) = l ∷ []
labelled_in (mode m rs es) = rs ++ es
labelled_in _ = []

abbrev pub labelled_item : Statement → List Labelled
labelled_item (property l) = l ∷ []
labelled_item _ = []

abbrev pub all_labelled : Component → List Labelled
all_labelled n = flat_map labelled_in (contract_statements n) ++ flat_map labelled_item n.body

-- ---- declarations

abbrev pub ghost_names : ContractStatement → List Variable
ghost_names (ghost_variable v e) = v ∷ []
ghost_names _ = []

-- the names that an equation defines
abbrev pub left_words : Statement → List Spelled
left_words (equation xs e) = xs
left_words _ = []

-- the name of a clock
abbrev pub clock_words : Variable → List Spelled
clock_words v = unwrap_or (option_map (λ c. c.1 ∷ []) v.clock) []

-- the contract that an import names, and what it takes for its outputs
abbrev pub imported_words : ContractStatement → List Spelled
imported_words («import» k c as_ xs) = c ∷ xs
imported_words _ = []

-- the words of a declaration outside its expressions
abbrev pub outer_words : Component → List Spelled
outer_words n = flat_map left_words n.body ++ (flat_map clock_words n.locals ++ flat_map imported_words (contract_statements n))

-- only locals have a clock
abbrev pub have_no_clock : Component → Bool
have_no_clock n = list_all (λ v. is_none v.clock) (n.inputs ++ (n.outputs ++ flat_map ghost_names (contract_statements n)))

pub record IsGrammaticalComponent (n : Component) : Type 0 where
  pub name : is_identifier n.name.text ≡ true
  pub names : are_identifiers (own_words n) ≡ true
  pub modes : are_identifiers (mode_words (contract_statements n)) ≡ true
  pub words : are_identifiers (outer_words n) ≡ true
  pub clocks : have_no_clock n ≡ true
  pub forms : are_plain (all_occurrences n) ≡ true
  pub lefts : list_all has_left_name n.body ≡ true
  pub labels : list_all has_printable_label (all_labelled n) ≡ true
  pub numbered : IsNumbered n

-- a contract node has a contract and nothing else
pub record IsContractNode (n : Component) : Type 0 where
  pub function : n.function ≡ false
  pub locals : n.locals ≡ []
  pub constants : n.constants ≡ []
  pub contract : is_none n.contract ≡ false
  pub body : n.body ≡ []

pub record IsGrammaticalConstant (c : Constant) : Type 0 where
  pub name : is_identifier c.name.text ≡ true
  pub forms : are_plain (occurrences no_component (on_clock base) c.value) ≡ true

abbrev pub IsGrammaticalDeclaration : Declaration → Type 0
IsGrammaticalDeclaration (declared_constant c) = IsGrammaticalConstant c
IsGrammaticalDeclaration (declared_node n) = IsGrammaticalComponent n
IsGrammaticalDeclaration (declared_contract n) = IsGrammaticalComponent n × IsContractNode n

-- a tree that, its places aside, is one that the grammar gives
abbrev pub IsGrammatical : Program → Type 0
IsGrammatical p = AllByRecursion IsGrammaticalDeclaration p
