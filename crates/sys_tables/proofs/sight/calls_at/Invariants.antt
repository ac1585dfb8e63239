use Rattle.std.proofs.Common.{◌≡◌, ◌++◌, map, drop}
use Rattle.std.specs.List.{AllByRecursion}
use Rattle.sys_texts.specs.Views.{call_view}
use Rattle.sys_tables.specs.Numbers.{CallHasRoom, call_at}
use Rattle.sys_tables.specs.Views.{linked_view}
use Rattle.sys_tables.proofs.sight.calls_at.Given as goal

-- what is there, and what is to come, is all
abbrev pub invariant-loop-call : goal.invariant-loop-call
invariant-loop-call l = record {
  room : AllByRecursion (CallHasRoom l.from) (map linked_view (drop l.call-index l.calls));
  found :
      map call_view l.found.items ++ map (call_at l.from l.missing) (map linked_view (drop l.call-index l.calls))
      ≡ map (call_at l.from l.missing) (map linked_view l.calls);
}
