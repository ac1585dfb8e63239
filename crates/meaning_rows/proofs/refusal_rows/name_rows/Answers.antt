use Rattle.std.proofs.Common.{refl}
use Rattle.lus_tree.specs.Reason.{arity_clash, assume_reads_output, mode_unknown, name_twice, name_unknown, no_node, node_recursion, not_stateless}
use Rattle.lus_meaning.specs.Faults.{fault}
use Rattle.meaning_rows.specs.PlacedParts.{at}
use Rattle.meaning_rows.specs.RefusalRows.{nothing, label_twice, constant_behind, too_many_arguments, call_of_itself, function_with_state, assumed_output, no_such_mode}
use Rattle.lus_meaning.proofs.FirstFault.{typing_row}
use Rattle.meaning_rows.proofs.refusal_rows.name_rows.Goals as goal

pub returns-clause-no_node : goal.returns-clause-no_node
returns-clause-no_node c = typing_row nothing (fault no_node (at 1 1)) refl refl refl

pub returns-clause-twice : goal.returns-clause-twice
returns-clause-twice c = typing_row label_twice (fault name_twice (at 3 11)) refl refl refl

pub returns-clause-behind : goal.returns-clause-behind
returns-clause-behind c = typing_row constant_behind (fault name_unknown (at 2 9)) refl refl refl

pub returns-clause-arity : goal.returns-clause-arity
returns-clause-arity c = typing_row too_many_arguments (fault arity_clash (at 3 9)) refl refl refl

pub returns-clause-recursion : goal.returns-clause-recursion
returns-clause-recursion c = typing_row call_of_itself (fault node_recursion (at 2 9)) refl refl refl

pub returns-clause-state : goal.returns-clause-state
returns-clause-state c = typing_row function_with_state (fault not_stateless (at 2 9)) refl refl refl

pub returns-clause-assumed : goal.returns-clause-assumed
returns-clause-assumed c = typing_row assumed_output (fault assume_reads_output (at 2 20)) refl refl refl

pub returns-clause-mode : goal.returns-clause-mode
returns-clause-mode c = typing_row no_such_mode (fault mode_unknown (at 2 25)) refl refl refl
