use Rattle.std.proofs.Common.{◌≡◌, ◌+◌, map, drop, option_map}
use Rattle.std.specs.Option.{option_or}
use Rattle.lus_tree.specs.Tree.{Name}
use Rattle.sys_texts.specs.Views.{by_name, stream_view}
use Rattle.sys_tables.specs.Numbers.{stream_from}
use Rattle.sys_tables.specs.Views.{named_view}
use Rattle.sys_tables.proofs.sight.streams_from.Given as goal

-- what is noted, and what is to come, is all
abbrev pub invariant-loop-stream : goal.invariant-loop-stream
invariant-loop-stream l = record {
  at : l.number ≡ l.first + l.stream-index;
  noted : (x : Name) →
      option_or (option_map stream_view (by_name l.table x)) (stream_from l.number (map named_view (drop l.stream-index l.streams)) x)
      ≡ stream_from l.first (map named_view l.streams) x;
}
