use Rattle.std.proofs.Common.{◌≡◌, ◌++◌, map, drop}
use Rattle.lus_tree.specs.Tree.{text_of}
use Rattle.lus_tree.specs.View.{word_view}
use Rattle.sys_texts.specs.Views.{sight_view}
use Rattle.frame_sources.specs.Sourced.{shared_source}
use Rattle.frame_sources.specs.Views.{sources_view}
use Rattle.frame_sources.proofs.held.push_names.Given as goal

-- what is there, and what is to come, is all
abbrev pub invariant-loop-name : goal.invariant-loop-name
invariant-loop-name l =
    sources_view l.sources.items ++ map (shared_source (sight_view l.sight)) (map text_of (map word_view (drop l.name-index l.names)))
    ≡ sources_view l.initial.sources.items ++ map (shared_source (sight_view l.sight)) (map text_of (map word_view l.names))
