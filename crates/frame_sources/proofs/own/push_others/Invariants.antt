use Rattle.std.proofs.Common.{◌≡◌, ◌++◌, map, drop}
use Rattle.sys_tables.specs.Views.{named_view}
use Rattle.sys_texts.specs.Views.{sight_view}
use Rattle.frame_sources.specs.OwnSources.{stream_source}
use Rattle.frame_sources.specs.Views.{all_asked_view, sources_view}
use Rattle.frame_sources.proofs.own.push_others.Given as goal

-- what is there, and what is to come, is all
abbrev pub invariant-loop-stream : goal.invariant-loop-stream
invariant-loop-stream l =
    sources_view l.sources.items ++ map (stream_source (sight_view l.sight) (all_asked_view l.modes)) (map named_view (drop l.stream-index l.streams))
    ≡ sources_view l.initial.sources.items ++ map (stream_source (sight_view l.sight) (all_asked_view l.modes)) (map named_view l.streams)
