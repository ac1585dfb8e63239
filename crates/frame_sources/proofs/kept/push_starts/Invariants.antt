use Rattle.std.proofs.Common.{◌≡◌, ◌++◌, map, drop}
use Rattle.sys_conditions.specs.Views.{start_view}
use Rattle.sys_texts.specs.Views.{sight_view}
use Rattle.frame_sources.specs.Sourced.{start_source}
use Rattle.frame_sources.specs.Views.{sources_view}
use Rattle.frame_sources.proofs.kept.push_starts.Given as goal

-- what is there, and what is to come, is all
abbrev pub invariant-loop-start : goal.invariant-loop-start
invariant-loop-start l =
    sources_view l.sources.items ++ map (start_source (sight_view l.sight)) (map start_view (drop l.start-index l.starts))
    ≡ sources_view l.initial.sources.items ++ map (start_source (sight_view l.sight)) (map start_view l.starts)
