use Rattle.std.proofs.Common.{◌≡◌, map, length}
use Rattle.lus_meaning.specs.TraceView.{line_view}
use Rattle.trace_text.specs.Reading.{left_of, lines_left, lines_ahead, IsWithin}
use Rattle.trace_text.proofs.Lines.{lines_onto}
use Rattle.trace_text.proofs.reading.lines.Given as goal

abbrev pub invariant-loop-lines : goal.invariant-loop-lines
invariant-loop-lines l = record {
  same : lines_onto (map line_view l.lines.items) (lines_left (left_of l.here)) ≡ lines_left
      (left_of l.start);
  within : IsWithin l.here;
}

abbrev pub decreases-loop-lines : goal.decreases-loop-lines
decreases-loop-lines l = length (lines_ahead (left_of l.here))
