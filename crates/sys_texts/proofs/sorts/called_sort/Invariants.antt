use Rattle.std.proofs.Common.{◌≡◌, map, drop}
use Rattle.sys_texts.specs.Sights.{called_sort}
use Rattle.sys_texts.specs.Views.{call_view}
use Rattle.sys_texts.proofs.sorts.called_sort.Given as goal

-- none was of that callee so far
abbrev pub invariant-loop-call : goal.invariant-loop-call
invariant-loop-call l = called_sort (map call_view (drop l.call-index l.calls)) l.callee ≡ called_sort (map call_view l.calls) l.callee
