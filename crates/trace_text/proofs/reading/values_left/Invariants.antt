use Rattle.std.proofs.Common.{◌≡◌, map, length}
use Rattle.lus_meaning.specs.TraceView.{placed_view}
use Rattle.trace_text.specs.Reading.{left_of, values_left, IsWithin}
use Rattle.trace_text.proofs.Lines.{values_onto}
use Rattle.trace_text.proofs.reading.values_left.Given as goal

abbrev pub invariant-loop-word : goal.invariant-loop-word
invariant-loop-word l = record {
  same : values_onto (map placed_view l.values.items) (values_left (left_of l.here)) ≡ values_left
      (left_of l.start);
  within : IsWithin l.here;
}

abbrev pub decreases-loop-word : goal.decreases-loop-word
decreases-loop-word l = length (left_of l.here).words
