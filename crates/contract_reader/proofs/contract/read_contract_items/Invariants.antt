use Rattle.std.proofs.Common.{◌≤◌, ◌-◌, length, map}
use Rattle.lus_tree.specs.View.{contract_item_view}
use Rattle.lus_grammar.specs.Stream.{stream}
use Rattle.lus_grammar.specs.Phrase.{ContractItem, part}
use Rattle.lus_grammar.specs.Programs.{contract_statements_of}
use Rattle.lus_reader.specs.View.{counts_view}
use Rattle.contract_reader.proofs.Loops.{Loops}
use Rattle.contract_reader.proofs.contract.read_contract_items.Given as goal

abbrev pub invariant-loop-start : goal.invariant-loop-start
invariant-loop-start l = record {
  loops : Loops contract_statements_of (stream l.bytes l.tokens) (part ContractItem) l.at (counts_view l.fn.counts) l.next
      (counts_view l.counts) (map contract_item_view l.items.items);
  since : l.at ≤ l.next;
  within : l.next ≤ length l.tokens;
}

abbrev pub decreases-loop-start : goal.decreases-loop-start
decreases-loop-start l = length l.tokens - l.next
