use Rattle.std.proofs.Common.{◌≡◌, ◌++◌, ◌+◌, ◌-◌, suc, map}
use Rattle.lus_meaning.specs.TraceView.{bare_view}
use Rattle.sys_terms.specs.View.{state_view}
use Rattle.path_traces.specs.Numbered.{first_lines}
use Rattle.path_traces.proofs.lines.push_firsts.Given as goal

-- what is there, and what is to come, is all
abbrev pub invariant-loop-index : goal.invariant-loop-index
invariant-loop-index l =
    map bare_view l.lines.items ++ first_lines l.path (state_view l.first) (l.variable + l.index) (suc l.index) (l.count - l.index)
    ≡ map bare_view l.initial.lines.items ++ first_lines l.path (state_view l.first) l.variable 1 l.count
