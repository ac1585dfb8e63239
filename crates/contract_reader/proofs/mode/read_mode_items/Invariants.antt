use Rattle.std.proofs.Common.{◌≤◌, ◌-◌, length, map}
use Rattle.lus_tree.specs.View.{named_view}
use Rattle.lus_grammar.specs.Stream.{stream}
use Rattle.lus_grammar.specs.Phrase.{ModeItem, part}
use Rattle.lus_grammar.specs.Programs.{requires_of, ensures_of}
use Rattle.lus_reader.specs.View.{counts_view}
use Rattle.contract_reader.proofs.Loops.{LoopsBoth}
use Rattle.contract_reader.proofs.mode.read_mode_items.Given as goal

abbrev pub invariant-loop-start : goal.invariant-loop-start
invariant-loop-start l = record {
  loops : LoopsBoth requires_of ensures_of (stream l.bytes l.tokens) (part ModeItem) l.at (counts_view l.fn.counts) l.next
      (counts_view l.counts) (map named_view l.items.required.items) (map named_view l.items.ensured.items);
  since : l.at ≤ l.next;
  within : l.next ≤ length l.tokens;
}

abbrev pub decreases-loop-start : goal.decreases-loop-start
decreases-loop-start l = length l.tokens - l.next
