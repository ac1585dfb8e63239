use Rattle.std.proofs.Common.{◌≡◌, ◌≤◌, ◌-◌, ◌++◌, List, length, map}
use Rattle.lus_tree.specs.Tree.{Expression}
use Rattle.lus_tree.specs.View.{expr_view}
use Rattle.lus_grammar.specs.Stream.{stream}
use Rattle.lus_grammar.specs.Programs.{more_arguments_of}
use Rattle.lus_reader.specs.View.{counts_view}
use Rattle.contract_reader.proofs.Loops.{Loops}
use Rattle.contract_reader.proofs.Imports.{argument}
use Rattle.contract_reader.proofs.import.add_arguments.Given as goal

abbrev pub invariant-loop-alloc : goal.invariant-loop-alloc
invariant-loop-alloc l = record {
  added : List Expression;
  loops : Loops more_arguments_of (stream l.bytes l.tokens) argument l.at (counts_view l.fn.counts) l.next (counts_view l.counts) added;
  are : map expr_view l.arguments.items ≡ map expr_view l.fn.arguments.items ++ added;
  since : l.at ≤ l.next;
  within : l.next ≤ length l.tokens;
}

abbrev pub decreases-loop-alloc : goal.decreases-loop-alloc
decreases-loop-alloc l = length l.tokens - l.next
