-- What contracts see of what is known of an expression's value.
use Rattle.lus_meaning.specs.Scope.{Worth}
use Rattle.lus_scopes.specs.declared.worth.Worth.{Worth as CodeWorth}
use Rattle.lus_scopes.specs.Cut.{known_value}

abbrev pub worth_view : CodeWorth → Worth
worth_view w = record { value = known_value w.value; weight = w.weight }
