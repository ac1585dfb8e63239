use Rattle.std.proofs.Common.{◌≤◌, ◌-◌, length, map}
use Rattle.lus_tree.specs.View.{decl_view}
use Rattle.lus_grammar.specs.Stream.{stream}
use Rattle.lus_grammar.specs.Phrase.{Declaration, fresh}
use Rattle.lus_grammar.specs.Syntax.{none_before}
use Rattle.lus_grammar.specs.Programs.{declarations_of}
use Rattle.contract_reader.proofs.Loops.{Loops}
use Rattle.contract_reader.proofs.declaration.read_declarations.Given as goal

abbrev pub invariant-loop-start : goal.invariant-loop-start
invariant-loop-start l = record {
  loops : Loops declarations_of (stream l.bytes l.tokens) (fresh Declaration) 0 none_before l.next none_before (map decl_view l.decls.items);
  within : l.next ≤ length l.tokens;
}

abbrev pub decreases-loop-start : goal.decreases-loop-start
decreases-loop-start l = length l.tokens - l.next
