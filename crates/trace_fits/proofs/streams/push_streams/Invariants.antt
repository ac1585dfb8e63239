use Rattle.std.proofs.Common.{◌≡◌, ◌++◌, ◌+◌, map, drop}
use Rattle.sys_tables.specs.Views.{named_view}
use Rattle.trace_fits.specs.Views.{slotted_view}
use Rattle.trace_fits.specs.Walked.{streams_listed}
use Rattle.trace_fits.proofs.streams.push_streams.Given as goal

-- what is there, and what is to come, is all
abbrev pub invariant-loop-stream : goal.invariant-loop-stream
invariant-loop-stream l = record {
  at : l.slot ≡ l.first + l.stream-index;
  made : map slotted_view l.list.items ++ streams_listed l.path l.instants l.inputs l.slot (map named_view (drop l.stream-index l.streams))
      ≡ map slotted_view l.initial.list.items ++ streams_listed l.path l.instants l.inputs l.first (map named_view l.streams);
}
