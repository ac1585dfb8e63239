use Rattle.kind_main.specs.Ending.{lines_view}
use Rattle.kind_main.proofs.Cutting.{Cutting}
use Rattle.kind_main.proofs.text_lines.text_lines.Given as goal

abbrev pub invariant-loop-byte : goal.invariant-loop-byte
invariant-loop-byte l = Cutting l.text l.byte-index (lines_view l.lines.items) l.line.items
