-- What of a declaration stands before a place.
use Rattle.std.specs.Prelude.{Bool, cond, List, ◌++◌, map, length}
use Rattle.lus_tree.specs.Tree.{Name, Constant, ContractStatement}
use Rattle.lus_tree.specs.View.{definition_view}
use Rattle.lus_meaning.specs.Program.{contract_statement_constants}
use Rattle.lus_meaning.specs.Scope.{Entry, Home, Scope, first_constants, hide_local, mode_names, import_names, own_names}
use Rattle.lus_types.specs.declared.before.Before.{Before}
use Rattle.lus_types.specs.declared.home.Home.{Home as CodeHome}
use Rattle.lus_types.specs.Homes.{home_of}

abbrev pub home_view : CodeHome → Home
home_view h = home_of h.declarations.now h.owner h.outer

-- the constants, the modes and the imports
pub record Earlier : Type 0 where
  pub constants : List Constant
  pub modes : List Name
  pub imports : List Name

abbrev pub earlier_view : Before → Earlier
earlier_view b = record {
  constants = map (λ d. definition_view d.now) b.constants.items;
  modes = b.modes;
  imports = b.imports;
}

-- behind these statements of the contract, and these constants of the body
abbrev pub earlier : List ContractStatement → List Constant → Earlier
earlier cs ds = record { constants = contract_statement_constants cs ++ ds; modes = mode_names cs; imports = import_names cs }

abbrev pub one_behind : Earlier → Earlier → Earlier
one_behind a b = record { constants = a.constants ++ b.constants; modes = a.modes ++ b.modes; imports = a.imports ++ b.imports }

-- the scope of the place behind, with its locals hidden or not
abbrev pub scope_at : Home → Earlier → Bool → Scope
scope_at h e hidden =
    let names : List Entry = first_constants (length e.constants) (own_names h) ++ h.outer in
    record { program = h.program; owner = h.owner; names = cond hidden (map hide_local names) names; modes = e.modes; imports = e.imports }
