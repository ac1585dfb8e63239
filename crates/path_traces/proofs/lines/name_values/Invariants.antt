use Rattle.std.proofs.Common.{◌≡◌, ◌++◌, map, drop}
use Rattle.lus_tree.specs.View.{param_view}
use Rattle.lus_meaning.specs.TraceView.{entry_view}
use Rattle.lus_streams.specs.Streams.{params_view}
use Rattle.sys_terms.specs.View.{states_view}
use Rattle.path_traces.specs.Numbered.{name_value}
use Rattle.path_traces.proofs.lines.name_values.Given as goal

-- what is there, and what is to come, is all
abbrev pub invariant-loop-state : goal.invariant-loop-state
invariant-loop-state l =
    map entry_view l.values.items ++ map (name_value (params_view l.names.params.items) l.base (param_view l.param)) (states_view (drop l.state-index l.states))
    ≡ map (name_value (params_view l.names.params.items) l.base (param_view l.param)) (states_view l.states)
