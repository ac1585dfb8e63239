use Rattle.std.proofs.Common.{◌≡◌, ◌++◌, take, map}
use Rattle.std.specs.List.{flat_map}
use Rattle.lus_meaning.specs.TraceView.{bare_line, line_view}
use Rattle.trace_text.specs.Traces.{line_text}
use Rattle.trace_text.proofs.writing.put_lines.Given as goal

abbrev pub invariant-loop-line : goal.invariant-loop-line
invariant-loop-line l = l.out.items ≡ l.fn.out.items ++ flat_map (λ x. line_text (bare_line x)) (map line_view (take l.line-index l.lines))
