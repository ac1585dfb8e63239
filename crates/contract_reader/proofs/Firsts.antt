-- A class that begins no part is none of the part's first ones, and one that does is the one that it says.
use Rattle.std.proofs.Common.{◌≡◌, ap, ◌∙◌, Bool, true, false, not, ◌&&◌, ◌==◌, Option, Some, None, refl}
use Rattle.std.specs.List.{list_all}
use Rattle.std.specs.Prelude.{option_map}
use Rattle.std.proofs.lemmas.Bool.{and_parts, eqb-true}
use Rattle.lus_lexer.specs.declared.token.Class.{Class}
use Rattle.lus_lexer.specs.declared.token.Class.TheVariants as C
use Rattle.lus_lexer.specs.declared.token.Opening.{Opening}
use Rattle.lus_grammar.specs.Phrase.{Part, Phrase, Declaration, Locals, Contract, ContractItem, ModeItem}
use Rattle.lus_grammar.specs.Starts.{class_code, code, listed, codes_of, first_classes, starts}
use Rattle.lus_grammar.proofs.Classes.{every, every_class, known, same_class}
use Rattle.contract_reader.specs.declared.begin.DeclarationStart.{DeclarationStart}
use Rattle.contract_reader.specs.declared.begin.LocalsStart.{LocalsStart}
use Rattle.contract_reader.specs.declared.begin.ContractItemStart.{ContractItemStart}
use Rattle.contract_reader.specs.declared.begin.ModeItemStart.{ModeItemStart}
use Rattle.contract_reader.specs.Begin.{declaration_start_of, declaration_class, locals_start_of, locals_class, contract_item_start_of, contract_item_class, mode_item_start_of, mode_item_class, contract_start_of}

-- ---- what holds of each class, computed for the list of all

-- something is found exactly where b
abbrev agrees : {D : Type 0} → Option D → Bool → Bool
agrees None b = not b
agrees (Some d) b = b

-- what is found has the class of the token
abbrev names : {D : Type 0} → (D → Class) → Option D → Option Class → Bool
names g None o = true
names g (Some d) o = known (g d) && code o == class_code (g d)

not_so : (b : Bool) → not b ≡ true → b ≡ false
not_so true h = absurd cc
not_so false h = refl

passed : {D : Type 0} (x : Option D) (b : Bool) → agrees x b ≡ true → x ≡ None → b ≡ false
passed None b h e = not_so b h
passed (Some d) b h e = absurd cc

found : {D : Type 0} (d : D) (x : Option D) (b : Bool) → agrees x b ≡ true → x ≡ Some d → b ≡ true
found d None b h e = absurd cc
found d (Some c) b h e = h

named : {D : Type 0} (g : D → Class) (d : D) (x : Option D) (o : Option Class) → names g x o ≡ true → x ≡ Some d → o ≡ Some (g d)
named g d None o h e = absurd cc
named g d (Some c) o h e =
    let k = and_parts (known (g c)) (code o == class_code (g c)) h in
    same_class o (g c) k.0 (eqb-true (code o) (class_code (g c)) k.1) ∙ ap (option_map g) e

abbrev agree : {D : Type 0} → (Option Class → Option D) → Part → Option Class → Bool
agree f p o = agrees (f o) (listed (code o) (codes_of (first_classes p)))

-- ---- the parts

pub no_declaration : (o : Option Class) → declaration_start_of o ≡ None → listed (code o) (codes_of (first_classes Declaration)) ≡ false
no_declaration o e = passed (declaration_start_of o) _ (every (agree declaration_start_of Declaration) refl o) e

pub begins_declaration : (o : Option Class) (d : DeclarationStart) → declaration_start_of o ≡ Some d → listed (code o)
    (codes_of (first_classes Declaration)) ≡ true
begins_declaration o d e = found d (declaration_start_of o) _ (every (agree declaration_start_of Declaration) refl o) e

pub is_declaration : (o : Option Class) (d : DeclarationStart) → declaration_start_of o ≡ Some d → o ≡ Some (declaration_class d)
is_declaration o d e = named declaration_class d (declaration_start_of o) o (every (λ o. names declaration_class (declaration_start_of o) o) refl o) e

pub no_locals : (o : Option Class) → locals_start_of o ≡ None → listed (code o) (codes_of (first_classes Locals)) ≡ false
no_locals o e = passed (locals_start_of o) _ (every (agree locals_start_of Locals) refl o) e

pub begins_locals : (o : Option Class) (d : LocalsStart) → locals_start_of o ≡ Some d → listed (code o) (codes_of (first_classes Locals)) ≡ true
begins_locals o d e = found d (locals_start_of o) _ (every (agree locals_start_of Locals) refl o) e

pub is_locals : (o : Option Class) (d : LocalsStart) → locals_start_of o ≡ Some d → o ≡ Some (locals_class d)
is_locals o d e = named locals_class d (locals_start_of o) o (every (λ o. names locals_class (locals_start_of o) o) refl o) e

pub no_contract_item : (o : Option Class) → contract_item_start_of o ≡ None → listed (code o) (codes_of (first_classes ContractItem)) ≡ false
no_contract_item o e = passed (contract_item_start_of o) _ (every (agree contract_item_start_of ContractItem) refl o) e

pub begins_contract_item : (o : Option Class) (d : ContractItemStart) → contract_item_start_of o ≡ Some d → listed (code o)
    (codes_of (first_classes ContractItem)) ≡ true
begins_contract_item o d e = found d (contract_item_start_of o) _ (every (agree contract_item_start_of ContractItem) refl o) e

pub is_contract_item : (o : Option Class) (d : ContractItemStart) → contract_item_start_of o ≡ Some d → o ≡ Some (contract_item_class d)
is_contract_item o d e = named contract_item_class d (contract_item_start_of o) o (every (λ o. names contract_item_class (contract_item_start_of o) o) refl o) e

pub no_mode_item : (o : Option Class) → mode_item_start_of o ≡ None → listed (code o) (codes_of (first_classes ModeItem)) ≡ false
no_mode_item o e = passed (mode_item_start_of o) _ (every (agree mode_item_start_of ModeItem) refl o) e

pub begins_mode_item : (o : Option Class) (d : ModeItemStart) → mode_item_start_of o ≡ Some d → listed (code o) (codes_of (first_classes ModeItem)) ≡ true
begins_mode_item o d e = found d (mode_item_start_of o) _ (every (agree mode_item_start_of ModeItem) refl o) e

pub is_mode_item : (o : Option Class) (d : ModeItemStart) → mode_item_start_of o ≡ Some d → o ≡ Some (mode_item_class d)
is_mode_item o d e = named mode_item_class d (mode_item_start_of o) o (every (λ o. names mode_item_class (mode_item_start_of o) o) refl o) e

pub no_contract : (o : Option Class) → contract_start_of o ≡ None → listed (code o) (codes_of (first_classes Contract)) ≡ false
no_contract o e = passed (contract_start_of o) _ (every (agree contract_start_of Contract) refl o) e

pub begins_contract : (o : Option Class) (d : Opening) → contract_start_of o ≡ Some d → listed (code o) (codes_of (first_classes Contract)) ≡ true
begins_contract o d e = found d (contract_start_of o) _ (every (agree contract_start_of Contract) refl o) e

pub is_contract : (o : Option Class) (d : Opening) → contract_start_of o ≡ Some d → o ≡ Some (C.ContractOpen d)
is_contract o d e = named C.ContractOpen d (contract_start_of o) o (every (λ o. names C.ContractOpen (contract_start_of o) o) refl o) e

-- what a test says of the token
pub told : (g : Phrase) {o o' : Option Class} {b b' : Bool} → o ≡ o' → listed (code o') (starts g) ≡ b → b ≡ b' → listed (code o) (starts g) ≡ b'
told g e f h = ap (λ z. listed (code z) (starts g)) e ∙ (f ∙ h)
