-- What contracts see of a declared name, and of a declaration with the program's constants.
use Rattle.std.specs.Prelude.{false}
use Rattle.lus_tree.specs.declared.declaration.Program.{Program as ProgramCode}
use Rattle.lus_tree.specs.View.{param_view, definition_view, program_view}
use Rattle.lus_meaning.specs.Scope.{Home, Declared, a_stream, a_fixed}
use Rattle.lus_scopes.specs.declared.scope.Layer.{Layer}
use Rattle.lus_scopes.specs.declared.scope.Owner.{Owner}
use Rattle.lus_scopes.specs.Scopes.{layer_view, owner_view, role_view}
use Rattle.lus_types.specs.declared.naming.Declared.{Declared as CodeDeclared}
use Rattle.lus_types.specs.declared.naming.Declared.TheVariants.{Stream as CodeStream, Fixed}

abbrev pub declared_view : CodeDeclared → Declared
declared_view (CodeStream r p) = a_stream (role_view r) (param_view p.now)
declared_view (Fixed d) = a_fixed (definition_view d.now)

abbrev pub home_of : ProgramCode → Owner → Layer → Home
home_of p o l = record { program = program_view p; owner = owner_view o; outer = layer_view l false }
