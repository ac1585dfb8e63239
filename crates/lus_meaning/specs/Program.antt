-- A program's declarations, the call occurrences of one by number, and its instance.
use Rattle.std.specs.Prelude.{ℕ, zero, suc, true, List, [], ◌∷◌, ◌++◌, map, flat_map, Option, Some, None, length, find, unwrap_or, cond, option_to_list, ◌==◌}
use Rattle.std.specs.Str.{bytes_eq}
use Rattle.lus_tree.specs.Tree.{Name, text_of, Expression, Expressions, call, condact, no_more, more, Constant, ContractStatement, constant, «import», Component, Declaration, declared_constant, declared_node, declared_contract, Program}
use Rattle.lus_tree.specs.Numbers.{counting}
use Rattle.lus_meaning.specs.Value.{Value}
use Rattle.lus_meaning.specs.Frame.{empty_frame}
use Rattle.lus_meaning.specs.Scene.{base, plain, while_true, as_import, Site, Instance, Instances, instance, no_component, no_instances, with_instance, contract_statements}
use Rattle.lus_meaning.specs.Meaning.{value}
use Rattle.lus_meaning.specs.Occurrences.{Standing, gathered}

-- ---- call occurrences

abbrev pub listed : Expressions → List Expression
listed no_more = []
listed (more a as_) = a ∷ listed as_

abbrev pub site_in : Standing → Expression → List Site
site_in s (call p k f as_) =
    record { number = k; callee = f.text; clock = s.clock; arguments = listed as_; defaults = []; manner = plain } ∷ []
site_in s (condact p k a f as_ ds) =
    record { number = k; callee = f.text; clock = s.clock; arguments = listed as_; defaults = listed ds; manner = while_true a } ∷ []
site_in s _ = []

-- an import runs on the base clock
abbrev pub import_site : ContractStatement → List Site
import_site («import» k c as_ xs) =
    record { number = k; callee = c.text; clock = base; arguments = as_; defaults = []; manner = as_import (map text_of xs) } ∷ []
import_site _ = []

-- what has the numbers 1, 2, .., in this order
abbrev pub in_order : {A : Type 0} → (A → ℕ) → List A → List A
in_order at xs = flat_map (λ k. option_to_list (find (λ x. at x == k) xs)) (counting 1 (length xs))

-- the call occurrences of a declaration, imports included, by number
abbrev pub all_sites : Component → List Site
all_sites n = in_order (λ s. s.number) (gathered site_in n ++ flat_map import_site (contract_statements n))

-- ---- declarations and constants

abbrev pub if_named : Name → Component → Option Component
if_named x n = cond (bytes_eq x n.name.text) (Some n) None

abbrev pub first_of_two : {A : Type 0} → Option A → Option A → Option A
first_of_two None b = b
first_of_two (Some a) b = Some a

abbrev pub is_component : Name → Declaration → Option Component
is_component x (declared_constant c) = None
is_component x (declared_node n) = if_named x n
is_component x (declared_contract n) = if_named x n

abbrev pub component_named : Program → Name → Option Component
component_named [] x = None
component_named (d ∷ ds) x = first_of_two (is_component x d) (component_named ds x)

-- the value of a constant expression, where these constants have these values
abbrev pub constant_value : List (Name × Value) → Expression → Value
constant_value cs e =
    value record { place = instance no_component cs no_instances; frame = empty_frame; beat = λ t. true; modes = [] } base e 0

-- the values of constants in text order, each by those before it
abbrev pub constant_values : List (Name × Value) → List Constant → List (Name × Value)
constant_values cs [] = cs
constant_values cs (d ∷ ds) = constant_values (cs ++ (d.name.text, constant_value cs d.value) ∷ []) ds

abbrev pub program_constants : Program → List Constant
program_constants [] = []
program_constants (declared_constant c ∷ ds) = c ∷ program_constants ds
program_constants (_ ∷ ds) = program_constants ds

abbrev pub contract_statement_constants : List ContractStatement → List Constant
contract_statement_constants [] = []
contract_statement_constants (constant c ∷ cs) = c ∷ contract_statement_constants cs
contract_statement_constants (_ ∷ cs) = contract_statement_constants cs

abbrev pub constants_in : Program → Component → List (Name × Value)
constants_in p n = constant_values [] (program_constants p ++ contract_statement_constants (contract_statements n) ++ n.constants)

-- ---- instances

abbrev pub instances_with : (Name → Instance) → List Site → Instances
instances_with f [] = no_instances
instances_with f (s ∷ ss) = with_instance s (f s.callee) (instances_with f ss)

-- the instance of a declaration, with calls nested no deeper than the number
abbrev pub instance_within : ℕ → Program → Component → Instance
instance_within zero p n = instance n (constants_in p n) no_instances
instance_within (suc d) p n =
    instance n (constants_in p n)
    (instances_with (λ x. instance_within d p (unwrap_or (component_named p x) no_component)) (all_sites n))

-- no call chain of a program without recursion is longer than the program
abbrev pub instance_of : Program → Component → Instance
instance_of p n = instance_within (length p) p n
