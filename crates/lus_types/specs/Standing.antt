-- The expressions that stand in a declaration, and those that have one value.
use Rattle.std.specs.Prelude.{◌≡◌, ℕ, Bool, true, false, List, [], map, get_or, Option, Some, None, Contains}
use Rattle.lus_tree.specs.Tree.{Expression, call, condact, Component, Declaration, declared_constant, declared_node, declared_contract, Program}
use Rattle.lus_meaning.specs.Scene.{base, no_component}
use Rattle.lus_meaning.specs.Occurrences.{Occurrence, all_occurrences, occurrences, on_clock}
use Rattle.lus_meaning.specs.Scope.{node_named}
use Rattle.lus_meaning.specs.ExpressionFaults.{has_one}

abbrev pub occurrences_of : Declaration → List Occurrence
occurrences_of (declared_constant c) = occurrences no_component (on_clock base) c.value
occurrences_of (declared_node n) = all_occurrences n
occurrences_of (declared_contract n) = all_occurrences n

-- it stands in the declaration of that number, constants included, counted from 0 in text order
abbrev pub StandsIn : Program → ℕ → Expression → Type 0
StandsIn p d e = (o : Occurrence) × Contains (get_or (map occurrences_of p) d []) o × (o.expression ≡ e)

abbrev pub has_one_output : Option Component → Bool
has_one_output None = false
has_one_output (Some n) = has_one n.outputs

-- a call has as many values as its callee has outputs, and all else has one
abbrev pub has_one_value : Program → Expression → Bool
has_one_value p (call q k f as_) = has_one_output (node_named p f.text)
has_one_value p (condact q k a f as_ ds) = has_one_output (node_named p f.text)
has_one_value p e = true
