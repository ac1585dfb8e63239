use Rattle.std.proofs.Common.{◌≡◌, ◌++◌, drop, map}
use Rattle.sys_tables.specs.Views.{linked_view}
use Rattle.frame_names.specs.Known.{callee_of}
use Rattle.frame_names.proofs.tables.callees_of.Given as goal

-- what is there, followed by what is to come, is all
abbrev pub invariant-loop-call : goal.invariant-loop-call
invariant-loop-call l = l.callees.items ++ map callee_of (map linked_view (drop l.call-index l.calls)) ≡ map callee_of (map linked_view l.calls)
