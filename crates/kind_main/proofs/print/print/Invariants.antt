use Rattle.kind_main.specs.Ending.{line_bytes}
use Rattle.kind_main.proofs.Printing.{Writing}
use Rattle.kind_main.proofs.print.print.Given as goal

abbrev pub invariant-loop-line : goal.invariant-loop-line
invariant-loop-line g l = Writing line_bytes l.lines l.line-index (g.K.Sink.faults l.initial.out) (g.K.Sink.faults l.out)
    (g.K.Sink.written l.initial.out) (g.K.Sink.written l.out)
