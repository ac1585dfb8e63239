-- The faults of the left names of an equation by what is known of its right side.
use Rattle.std.specs.Prelude.{cond, List, [], ◌∷◌, length, ◌==◌, Option, Some, None}
use Rattle.lus_tree.specs.declared.place.Pos.{Pos}
use Rattle.lus_tree.specs.declared.place.Sort.{Sort}
use Rattle.lus_tree.specs.Tree.{Spelled, Expression, call, condact, Component}
use Rattle.lus_tree.specs.Reason.{Refused, type_clash, arity_clash}
use Rattle.lus_meaning.specs.Scope.{Scope, node_named}
use Rattle.lus_meaning.specs.Faults.{fault, if_so}
use Rattle.lus_meaning.specs.ExpressionFaults.{differs_from, some_differ}

abbrev pub outputs_notes : Scope → List Spelled → Pos → Spelled → Option Component → List Refused
outputs_notes s xs from f None = []
outputs_notes s xs from f (Some n) =
    cond (length n.outputs == length xs) (if_so (some_differ s xs n.outputs) type_clash from) (fault arity_clash f.at ∷ [])

abbrev pub value_notes : Scope → List Spelled → Option Sort → Pos → List Refused
value_notes s (x ∷ []) q from = if_so (differs_from s x q) type_clash from
value_notes s _ q from = fault arity_clash from ∷ []

abbrev pub sides_notes : Scope → List Spelled → Expression → Option Sort → Pos → List Refused
sides_notes s xs (call p k f as_) q from = outputs_notes s xs from f (node_named s.program f.text)
sides_notes s xs (condact p k a f as_ ds) q from = outputs_notes s xs from f (node_named s.program f.text)
sides_notes s xs e q from = value_notes s xs q from
