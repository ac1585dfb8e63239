use Rattle.std.proofs.Common.{◌≤◌, ◌-◌, map, length}
use Rattle.lus_tree.specs.View.{item_view}
use Rattle.lus_grammar.specs.Stream.{stream}
use Rattle.lus_grammar.specs.Phrase.{part, repeated}
use Rattle.lus_grammar.specs.Phrase as P
use Rattle.lus_grammar.specs.Programs.{items_of}
use Rattle.lus_reader.specs.View.{counts_view}
use Rattle.lus_reader.specs.Leads.{Leads}
use Rattle.lus_reader.proofs.item.read_items.Given as goal

abbrev pub invariant-loop-alloc : goal.invariant-loop-alloc
invariant-loop-alloc l = record {
  leads : Leads items_of items_of (stream l.bytes l.tokens) (repeated (part P.Item)) (repeated (part P.Item)) l.from (counts_view l.counts)
      (map item_view l.items.items) l.next (counts_view l.after);
  past : l.from ≤ l.next;
  inside : l.next ≤ length l.tokens;
}

abbrev pub decreases-loop-alloc : goal.decreases-loop-alloc
decreases-loop-alloc l = length l.tokens - l.next
