use Rattle.std.proofs.Common.{◌≤◌, ◌-◌, length, map}
use Rattle.lus_tree.specs.View.{param_view, definition_view}
use Rattle.lus_grammar.specs.Stream.{stream}
use Rattle.lus_grammar.specs.Phrase.{Locals, part}
use Rattle.lus_grammar.specs.Programs.{local_variables_of, local_constants_of}
use Rattle.lus_reader.specs.View.{counts_view}
use Rattle.contract_reader.proofs.Loops.{LoopsBoth}
use Rattle.contract_reader.proofs.locals.read_locals.Given as goal

abbrev pub invariant-loop-start : goal.invariant-loop-start
invariant-loop-start l = record {
  loops : LoopsBoth local_variables_of local_constants_of (stream l.bytes l.tokens) (part Locals) l.at (counts_view l.fn.counts) l.next
      (counts_view l.counts) (map param_view l.locals.variables.items) (map definition_view l.locals.constants.items);
  since : l.at ≤ l.next;
  within : l.next ≤ length l.tokens;
}

abbrev pub decreases-loop-start : goal.decreases-loop-start
decreases-loop-start l = length l.tokens - l.next
