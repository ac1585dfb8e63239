use Rattle.std.proofs.Common.{◌≡◌, ◌++◌, map, drop}
use Rattle.lus_tree.specs.View.{param_view}
use Rattle.lus_streams.specs.Streams.{params_view}
use Rattle.path_traces.specs.Plans.{unnamed_in}
use Rattle.path_traces.proofs.free.push_free.Given as goal

-- what is there, and what is to come, is all
abbrev pub invariant-loop-param : goal.invariant-loop-param
invariant-loop-param l = params_view l.streams.items ++ unnamed_in l.defined (map param_view (drop l.param-index l.params))
    ≡ params_view l.initial.streams.items ++ unnamed_in l.defined (map param_view l.params)
