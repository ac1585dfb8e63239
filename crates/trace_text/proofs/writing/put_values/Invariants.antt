use Rattle.std.proofs.Common.{◌≡◌, ◌++◌, take}
use Rattle.std.specs.List.{flat_map}
use Rattle.lus_meaning.specs.TraceView.{values_view}
use Rattle.trace_text.specs.Traces.{item_text}
use Rattle.trace_text.proofs.writing.put_values.Given as goal

abbrev pub invariant-loop-placed : goal.invariant-loop-placed
invariant-loop-placed l = l.out.items ≡ l.fn.out.items ++ flat_map item_text (values_view (take l.placed-index l.values))
