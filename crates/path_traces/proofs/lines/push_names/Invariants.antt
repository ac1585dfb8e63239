use Rattle.std.proofs.Common.{◌≡◌, ◌++◌, map, drop}
use Rattle.lus_meaning.specs.TraceView.{bare_view}
use Rattle.lus_streams.specs.Streams.{params_view}
use Rattle.sys_terms.specs.View.{states_view}
use Rattle.path_traces.specs.Numbered.{name_line}
use Rattle.path_traces.proofs.lines.push_names.Given as goal

-- what is there, and what is to come, is all
abbrev pub invariant-loop-param : goal.invariant-loop-param
invariant-loop-param l =
    map bare_view l.lines.items ++ map (name_line l.path (states_view l.states) (params_view l.names.params.items) l.base) (params_view (drop l.param-index l.listed))
    ≡ map bare_view l.initial.lines.items ++ map (name_line l.path (states_view l.states) (params_view l.names.params.items) l.base) (params_view l.listed)
