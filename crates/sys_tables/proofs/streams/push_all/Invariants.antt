use Rattle.std.proofs.Common.{◌≡◌, ◌++◌, map, drop}
use Rattle.lus_tree.specs.View.{param_view}
use Rattle.lus_streams.specs.Streams.{params_view}
use Rattle.sys_tables.proofs.streams.push_all.Given as goal

-- what is there, and what is to come, is all
abbrev pub invariant-loop-param : goal.invariant-loop-param
invariant-loop-param l =
    params_view l.streams.items ++ map param_view (drop l.param-index l.params) ≡ params_view l.initial.streams.items ++ map param_view l.params
