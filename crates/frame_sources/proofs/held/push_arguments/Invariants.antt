use Rattle.std.proofs.Common.{◌≡◌, ◌++◌, map, drop}
use Rattle.lus_streams.specs.Clocks.{clock_seen}
use Rattle.lus_tree.specs.View.{expr_view}
use Rattle.sys_texts.specs.Views.{sight_view}
use Rattle.frame_sources.specs.Sourced.{argument_source}
use Rattle.frame_sources.specs.Views.{all_asked_view, sources_view}
use Rattle.frame_sources.proofs.held.push_arguments.Given as goal

-- what is there, and what is to come, is all
abbrev pub invariant-loop-argument : goal.invariant-loop-argument
invariant-loop-argument l =
    sources_view l.sources.items
    ++ map (argument_source (sight_view l.sight) (all_asked_view l.modes) l.beat (clock_seen l.clock)) (map expr_view (drop l.argument-index l.arguments))
    ≡ sources_view l.initial.sources.items
    ++ map (argument_source (sight_view l.sight) (all_asked_view l.modes) l.beat (clock_seen l.clock)) (map expr_view l.arguments)
