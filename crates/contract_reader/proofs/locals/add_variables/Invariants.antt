use Rattle.std.proofs.Common.{◌≤◌, ◌<◌, ◌-◌, length, map}
use Rattle.lus_tree.specs.View.{param_view}
use Rattle.lus_grammar.specs.Stream.{stream}
use Rattle.lus_grammar.specs.Syntax.{Counts}
use Rattle.contract_reader.proofs.Variables.{SoFar}
use Rattle.contract_reader.proofs.locals.add_variables.Given as goal

abbrev pub invariant-loop-alloc : goal.invariant-loop-alloc
invariant-loop-alloc l = record {
  so_far : (n : Counts) → SoFar (stream l.bytes l.tokens) l.at n l.next (map param_view l.fn.variables.items) (map param_view l.variables.items);
  since : l.at < l.next;
  within : l.next ≤ length l.tokens;
}

abbrev pub decreases-loop-alloc : goal.decreases-loop-alloc
decreases-loop-alloc l = length l.tokens - l.next
