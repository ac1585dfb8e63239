-- What contracts see of a scope.
use Rattle.std.specs.Prelude.{Bool, List, ◌++◌, map}
use Rattle.lus_tree.specs.Tree.{Component}
use Rattle.lus_tree.specs.View.{node_view, contract_node_view, program_view}
use Rattle.lus_meaning.specs.Scene.{no_component}
use Rattle.lus_meaning.specs.Scope.{Scope, Entry}
use Rattle.lus_scopes.specs.declared.layer.Layer.{Layer}
use Rattle.lus_scopes.specs.declared.scope.Owner.{Owner}
use Rattle.lus_scopes.specs.declared.scope.Owner.TheVariants.{Nothing, Node, Contract}
use Rattle.lus_scopes.specs.declared.scope.Scope.{Scope as CodeScope}
use Rattle.lus_scopes.specs.Counts.{all_of}
use Rattle.lus_scopes.specs.Meanings.{entry_view}
pub use Rattle.lus_scopes.specs.Meanings.{role_view, meaning_view, is_local, is_reached, known_as, entry_view}

abbrev pub layer_view : Layer → Bool → List Entry
layer_view l hidden = map (entry_view l.extent hidden) l.entries.now

abbrev pub owner_view : Owner → Component
owner_view Nothing = no_component
owner_view (Node n) = node_view n.now
owner_view (Contract n) = contract_node_view n.now

abbrev pub scope_view : CodeScope → Scope
scope_view s =
    record {
      program = program_view s.declarations.now;
      owner = owner_view s.owner;
      names = layer_view s.own s.hidden ++ layer_view s.outer s.hidden;
      modes = all_of s.modes;
      imports = all_of s.imports;
    }
